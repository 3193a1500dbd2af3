-- Each step keeps the rule of the queue.
use Rattle.std.proofs.Common.{◌≡◌, ℕ, List, [], ◌∷◌, ◌++◌, ◌⊎◌, length, take, drop, true, false, set, refl, sym, ap, ◌∙◌, subst, inl, inr, arith, length-append, append-nil, ⊎_elim}
use Rattle.std.proofs.lemmas.List.{drop_at, nil_from_length}
use mathlib.Core.List.{IsPrefix}
use mathlib.Core.Option.{some}
use lib.ListN.{get_elem?}
use Rattle.circular_buffer.specs.Buffer.{Buffer, buffer}
use Rattle.crossbeam_queue.specs.Fifo.{Forks, Learns, Merges, Pops, Pushes}
use Rattle.crossbeam_queue.proofs.Lists.{at_set}
use Rattle.pol_hints.specs.declared.standing.Standing.{Standing}
use Rattle.pol_hints.specs.declared.turn.Turn.{Turn}
use Rattle.pol_hints.specs.declared.turn.Turn.TheVariants.{Taken}
use Rattle.pol_hints.specs.History.{IsHistory, puts, takes, waiting}
use Rattle.pol_hints.specs.Queue.{HasTakenUp, IsBare, IsQueue, IsSound, Lie, TellsOpened, TellsPuts, TellsTaken, laid, newly_made, of_both, one_if, other_half, spent, with_half}
use Rattle.pol_hints.specs.Shares.{IsAll, IsPart}
use Rattle.pol_hints.proofs.Beginnings.{each_begins}
use Rattle.pol_hints.proofs.Histories.{history_puts, history_taken, waiting_puts, waiting_taken}
use Rattle.pol_hints.proofs.Views.{begins, having_more, having_set, joins, knows_all, no_more_than_all, no_other, no_other_has, splits, steps}

pub starts : IsQueue [] (newly_made ∷ [])
starts = record { history = []; room = 0; legal = tt; lie = tt; one = refl; passes = begins }

-- nothing lies in the place where a pass has the hints in its hands
pub bare : (items : List (Buffer ℕ)) (views : List Standing) → IsQueue items views → (port : ℕ) (v : Standing) → get_elem? views port ≡ some v → v.has ≡ true → items ≡ []
bare items views it port v at has =
    let one = it.one in
    let sum = having_set views port v spent at in
    let mine = ap one_if has in
    nil_from_length items (omega (arith, one, sum, mine))

-- ---- the hints are taken up

pub takes_up : (port : ℕ) (v : Standing) → IsPart v.share → v.has ≡ false → Pops IsQueue port v (HasTakenUp v)
takes_up port v part rests x items views it at =
    let w : Standing = record { seen = it.history; met = []; own = v.own; share = v.share; has = true; room = v.room } in
    let one = it.one in
    let sum = having_set views port v w at in
    let mine = ap one_if rests in
    let room = (it.passes.each port v at).within part in (
      w,
      record {
        history = it.history;
        room = it.room;
        legal = it.legal;
        lie = it.lie.1;
        one = omega (arith, one, sum, mine);
        passes =
            steps it.history it.room views it.passes port v at it.history it.room w part ([], append-nil it.history) refl refl refl refl room
            (λ j u apart there has. (it.passes.each j u there).all has)
            (λ j u apart there known. (it.passes.each j u there).within known);
      },
      record {
        seen = it.history;
        past = (it.passes.each port v at).past;
        legal = it.legal;
        hints = it.lie.0 ∙ ap (buffer (waiting it.history)) (sym room);
        only = λ all. sym (knows_all it.history it.room views it.passes port v at all);
        is = refl;
      },
    )

-- the same of a pass that is as it was; where nothing lies in the place, nothing is learnt
pub may_take_up : (port : ℕ) (v u : Standing) → u ≡ v → IsPart v.share → v.has ≡ false → Pops IsQueue port u (HasTakenUp u) × Learns IsQueue port u (λ items. Unit {0})
may_take_up port v u same part rests =
    subst (λ (w : Standing). Pops IsQueue port w (HasTakenUp w) × Learns IsQueue port w (λ items. Unit {0})) (sym same) (takes_up port v part rests, λ items views it at. tt)

-- ---- the hints are laid down

module _ (n port : ℕ) (v : Standing) (x : Buffer ℕ) (turns : List Turn) (room : ℕ) (part : IsPart v.share) (has : v.has ≡ true) (legal : IsHistory (v.seen ++ turns)) (is : x ≡ buffer (waiting (v.seen ++ turns)) room) where
  -- behind these turns, the room as it was known, or by the only pass
  pub lays : ((v.room ≡ room) ⊎ IsAll v.share) → Pushes IsQueue n port v x (λ w. w ≡ laid v turns room)
  lays knows items views free it at =
      let now = v.seen ++ turns in
      let w = laid v turns room in
      let none = bare items views it port v at has in
      let all : v.seen ≡ it.history = (it.passes.each port v at).all has in
      let one = it.one in
      let sum = having_set views port v w at in
      let mine = ap one_if has in
      let more = length-append items (x ∷ []) in
      let longer = length-append v.seen turns in
      let same = ap length all in
      let rooms : (j : ℕ) (u : Standing) → (j ≡ port → ⊥) → get_elem? views j ≡ some u → IsPart u.share → u.room ≡ room =
      λ j u apart there known.
      ⊎_elim (λ (k : v.room ≡ room). (it.passes.each j u there).within known ∙ sym ((it.passes.each port v at).within part) ∙ k)
      (λ (whole : IsAll v.share). absurd (no_other views port j v u it.passes.shares at there apart whole known)) knows
      in (
        w,
        record {
          history = now;
          room = room;
          legal = legal;
          lie = subst (λ (l : List (Buffer ℕ)). Lie now room (l ++ x ∷ [])) (sym none) (is, tt);
          one = omega (arith, one, sum, mine, more);
          passes =
              steps it.history it.room views it.passes port v at now room w part (turns, ap (λ (l : List Turn). l ++ turns) (sym all)) refl refl refl (omega (arith, longer, same)) refl
              (λ j u apart there also. absurd (no_other_has views port j v u (omega (arith, one)) at has apart there also))
              rooms;
        },
        refl,
      )

pub opens : (n port : ℕ) (v : Standing) (x : Buffer ℕ) → v ≡ newly_made → x.items ≡ [] → Pushes IsQueue n port v x (TellsOpened v x)
opens n port v x is none =
    subst (λ (u : Standing). Pushes IsQueue n port u x (TellsOpened u x)) (sym is)
    (lays n port newly_made x [] x.capacity (record { part = omega arith; of = omega arith }) refl tt (ap (λ (l : List ℕ). buffer l x.capacity) none) (inr refl))

pub lays_put : (n port : ℕ) (v : Standing) (x : Buffer ℕ) → IsPart v.share → v.has ≡ true → IsHistory v.seen → x.capacity ≡ v.room → IsPrefix (waiting v.seen) x.items → Pushes IsQueue n port v x (TellsPuts v x)
lays_put n port v x part has legal room more =
    let slots = drop (length (waiting v.seen)) x.items in
    let are : slots ≡ more.0 = ap (drop (length (waiting v.seen))) (sym more.1) ∙ drop_at (waiting v.seen) more.0 (length (waiting v.seen)) refl in
    let items : x.items ≡ waiting (v.seen ++ puts slots) = sym more.1 ∙ ap (λ (l : List ℕ). waiting v.seen ++ l) (sym are) ∙ sym (waiting_puts v.seen slots) in
    lays n port v x (puts slots) v.room part has (history_puts v.seen slots legal) (λ i. buffer (items i) (room i)) (inl refl)

pub lays_taken : (n port : ℕ) (v : Standing) (x : Buffer ℕ) (slot : ℕ) → IsPart v.share → v.has ≡ true → IsHistory v.seen → x.capacity ≡ v.room → waiting v.seen ≡ slot ∷ x.items → Pushes IsQueue n port v x (TellsTaken v x)
lays_taken n port v x slot part has legal room first =
    let turns = takes (take 1 (waiting v.seen)) in
    let are : turns ≡ Taken slot ∷ [] = ap (λ (l : List ℕ). takes (take 1 l)) first in
    let items : x.items ≡ waiting (v.seen ++ turns) = sym (waiting_taken v.seen slot x.items first) ∙ ap (λ (l : List Turn). waiting (v.seen ++ l)) (sym are) in
    lays n port v x turns v.room part has (subst (λ (l : List Turn). IsHistory (v.seen ++ l)) (sym are) (history_taken v.seen slot x.items first legal)) (λ i. buffer (items i) (room i)) (inl refl)

pub is_bare : (port : ℕ) (v : Standing) → v.has ≡ true → Learns IsQueue port v (IsBare v)
is_bare port v has items views it at = bare items views it port v at has

-- ---- passes come and go

pub forks : (port : ℕ) (v : Standing) → IsPart v.share → v.has ≡ false → Forks IsQueue port v (with_half v) (other_half v)
forks port v part rests items views it at = record {
  history = it.history;
  room = it.room;
  legal = it.legal;
  lie = it.lie;
  one =
      (let one = it.one in
      let sum = having_set views port v (with_half v) at in
      let more = having_more (set views port (with_half v)) (other_half v) in
      let mine = ap one_if rests in omega (arith, one, sum, more, mine));
  passes = splits it.history it.room views it.passes port v at part;
}

pub merges : (port : ℕ) (v : Standing) (other : ℕ) (w : Standing) → IsPart v.share → IsPart w.share → v.has ≡ false → w.has ≡ false → Merges IsQueue port v other w (of_both v w) spent
merges port v other w part part' rests rests' items views it at apart theirs =
    let there : get_elem? views other ≡ some w = ⊎_elim (λ x. absurd (apart x.0)) (λ x. x.1) (at_set views port other (of_both v w) w theirs) in
    record {
      history = it.history;
      room = it.room;
      legal = it.legal;
      lie = it.lie;
      one =
          (let one = it.one in
          let sum = having_set views port v (of_both v w) at in
          let rest = having_set (set views port (of_both v w)) other w spent theirs in
          let mine = ap one_if rests in
          let others = ap one_if rests' in omega (arith, one, sum, rest, mine, others));
      passes = joins it.history it.room views it.passes port v at other w there apart part part';
    }

pub sounds : (port : ℕ) (v : Standing) → Learns IsQueue port v (λ items. IsSound v)
sounds port v items views it at = record { at_most = no_more_than_all it.history it.room views it.passes port v at; met = (it.passes.each port v at).met }

-- what each of two passes had seen begins what the pass has seen that both were joined in
pub joined_begin : (v w joined after : Standing) → joined ≡ of_both v w → after ≡ joined → IsSound joined → IsPrefix v.seen after.seen × IsPrefix w.seen after.seen
joined_begin v w joined after both same sound =
    subst (λ (u : Standing). IsPrefix v.seen u.seen × IsPrefix w.seen u.seen) (sym (same ∙ both)) (each_begins v.seen w.seen (subst (λ (u : Standing). IsPrefix u.met u.seen) both sound.met))
