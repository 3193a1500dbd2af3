-- The hints in the hands of a pass, and what it knows once they are laid down.
use Rattle.std.proofs.Common.{◌≡◌, ◌≤◌, ℕ, ◌+◌, List, [], ◌∷◌, ◌++◌, ◌⊎◌, Option, Some, length, slice_get, take, drop, true, false, refl, sym, ap, ◌∙◌, subst, inl, inr, ⊎_elim, arith}
use Rattle.std.proofs.lemmas.List.{drop_at}
use mathlib.Core.List.{IsPrefix}
use Rattle.atomic_table.specs.Seated.{TableId}
use Rattle.circular_buffer.specs.Buffer.{Buffer, buffer}
use Rattle.pol_hints.specs.declared.standing.Standing.{Standing}
use Rattle.pol_hints.specs.declared.turn.Turn.{Turn}
use Rattle.pol_hints.specs.declared.turn.Turn.TheVariants.{Taken}
use Rattle.pol_hints.specs.History.{IsHistory, puts, takes, waiting}
use Rattle.pol_hints.specs.Inside.{IsAtRest, name_of, pass_of, queue_of}
use Rattle.pol_hints.specs.Passes.{IsHintPassOf, Name, Pass, PutsRound, Queue, one_round}
use Rattle.pol_hints.specs.Queue.{HasTakenUp, PutsSome, TellsPuts, TellsTaken, laid}
use Rattle.pol_hints.specs.Shares.{IsAll, IsPart}
use Rattle.pol_hints.proofs.Histories.{history_puts, history_taken, length-puts, waiting_puts, waiting_taken}

module _ (v w : Standing) (x : Buffer ℕ) (up : HasTakenUp v x w) where
  pub up_has : w.has ≡ true
  up_has = ap (λ (u : Standing). u.has) up.is

  pub up_seen : w.seen ≡ up.seen
  up_seen = ap (λ (u : Standing). u.seen) up.is

  pub up_part : IsPart v.share → IsPart w.share
  up_part part = subst (λ (u : Standing). IsPart u.share) (sym up.is) part

  pub up_legal : IsHistory w.seen
  up_legal = subst (λ (u : Standing). IsHistory u.seen) (sym up.is) up.legal

  pub up_room : w.room ≡ v.room
  up_room = ap (λ (u : Standing). u.room) up.is

  pub up_items : x.items ≡ waiting w.seen
  up_items = ap (λ (b : Buffer ℕ). b.items) up.hints ∙ ap waiting (sym up_seen)

  pub up_capacity : x.capacity ≡ w.room
  up_capacity = ap (λ (b : Buffer ℕ). b.capacity) up.hints ∙ sym up_room

-- What the pass knows once these turns are laid down. It was the pass v before, and the pass w with the hints in its hands
pub record HasLaid (v w z : Standing) (turns : List Turn) : Type 0 where
  pub past : IsPrefix v.seen w.seen
  pub legal : IsHistory z.seen
  pub last : z.seen ≡ w.seen ++ turns
  pub own : z.own ≡ v.own + length turns
  pub share : z.share ≡ v.share
  pub has : z.has ≡ false
  pub room : z.room ≡ v.room
  pub few : length (waiting z.seen) ≤ v.room
  pub only : IsAll v.share → w.seen ≡ v.seen

module _ (v w z : Standing) (x : Buffer ℕ) (up : HasTakenUp v x w) where
  is_laid : (turns : List Turn) → IsHistory (w.seen ++ turns) → length (waiting (w.seen ++ turns)) ≤ v.room → z ≡ laid w turns w.room → HasLaid v w z turns
  is_laid turns legal few is = record {
    past = subst (λ (u : Standing). IsPrefix v.seen u.seen) (sym up.is) up.past;
    legal = subst (λ (u : Standing). IsHistory u.seen) (sym is) legal;
    last = ap (λ (u : Standing). u.seen) is;
    own = ap (λ (u : Standing). u.own) is ∙ ap (λ (u : Standing). u.own + length turns) up.is;
    share = ap (λ (u : Standing). u.share) is ∙ ap (λ (u : Standing). u.share) up.is;
    has = ap (λ (u : Standing). u.has) is;
    room = ap (λ (u : Standing). u.room) is ∙ ap (λ (u : Standing). u.room) up.is;
    few = subst (λ (u : Standing). length (waiting u.seen) ≤ v.room) (sym is) few;
    only = λ all. ap (λ (u : Standing). u.seen) up.is ∙ up.only all;
  }

  pub laid_puts : (slots : List ℕ) (y : Buffer ℕ) → y.items ≡ x.items ++ slots → y.capacity ≡ x.capacity → length y.items ≤ y.capacity → TellsPuts w y z → HasLaid v w z (puts slots)
  laid_puts slots y items room within tells =
      let all : y.items ≡ waiting w.seen ++ slots = items ∙ ap (λ (l : List ℕ). l ++ slots) (up_items v w x up) in
      let are : drop (length (waiting w.seen)) y.items ≡ slots =
      ap (drop (length (waiting w.seen))) all ∙ drop_at (waiting w.seen) slots (length (waiting w.seen)) refl
      in
      let count = ap length (waiting_puts w.seen slots ∙ sym all) in
      let width : y.capacity ≡ v.room = room ∙ up_capacity v w x up ∙ up_room v w x up in
      is_laid (puts slots) (history_puts w.seen slots (up_legal v w x up)) (omega (arith, count, width, within)) (tells ∙ ap (λ (l : List ℕ). laid w (puts l) w.room) are)

  pub laid_taken : (slot : ℕ) (y : Buffer ℕ) → x.items ≡ slot ∷ y.items → length (waiting w.seen) ≤ v.room → TellsTaken w y z → HasLaid v w z (Taken slot ∷ [])
  laid_taken slot y front within tells =
      let first : waiting w.seen ≡ slot ∷ y.items = sym (up_items v w x up) ∙ front in
      let more = ap length first in
      let count = ap length (waiting_taken w.seen slot y.items first) in
      is_laid (Taken slot ∷ []) (history_taken w.seen slot y.items first (up_legal v w x up)) (omega (arith, more, count, within)) (tells ∙ ap (λ (l : List ℕ). laid w (takes (take 1 l)) w.room) first)

-- what waits then
pub waits_put : (v w z : Standing) (slots : List ℕ) → HasLaid v w z (puts slots) → waiting z.seen ≡ waiting w.seen ++ slots
waits_put v w z slots it = ap waiting it.last ∙ waiting_puts w.seen slots

-- the hint in front, and those behind it
pub front_is : (x y : Buffer ℕ) (slot : ℕ) → Some slot ≡ slice_get x.items 0 → y ≡ buffer (drop 1 x.items) x.capacity → x.items ≡ slot ∷ y.items
front_is x y slot first behind = front_of x.items slot first ∙ ap (λ (b : Buffer ℕ). slot ∷ b.items) (sym behind) where
  front_of : (items : List ℕ) (slot : ℕ) → Some slot ≡ slice_get items 0 → items ≡ slot ∷ drop 1 items
  front_of [] slot wrong = absurd (cc)
  front_of (one ∷ items) slot is = let same : slot ≡ one = cc in ap (λ (k : ℕ). k ∷ items) (sym same)

module _ (v w z : Standing) (turns : List Turn) (it : HasLaid v w z turns) where
  -- the pass is at rest again
  pub at_rest : {X : Type 0} (out : List (ℕ × Option X)) → out ≡ [] → IsPart v.share → IsAtRest out z
  at_rest {X} out bare part = record { bare = bare; rests = it.has; part = subst IsPart (sym it.share) part; legal = it.legal; few = subst (λ (k : ℕ). length (waiting z.seen) ≤ k) (sym it.room) it.few }

  -- and one of its queue
  pub of_queue : (t t' : TableId) (before : Pass) (hints : Queue) (s : TableId) (room : ℕ) → t' ≡ t → pass_of t v ≡ before → queue_of s room ≡ hints → before.queue ≡ hints.name → IsPart v.share → IsHintPassOf hints (pass_of t' z)
  of_queue t t' before hints s room same was is queue part =
      let known : name_of t v.room ≡ hints.name = ap (λ (p : Pass). p.queue) was ∙ queue in
      let width : v.room ≡ hints.room = ap (λ (n : Name). n.room) known ∙ subst (λ (q : Queue). q.name.room ≡ q.room) is refl in
      record {
        queue = (λ i. name_of (same i) (it.room i)) ∙ known;
        part = subst IsPart (sym it.share) part;
        legal = it.legal;
        few = subst (λ (k : ℕ). length (waiting z.seen) ≤ k) width it.few;
      }

-- a round was put
module _ (v w z : Standing) (x y : Buffer ℕ) (slots first : ℕ) (up : HasTakenUp v x w) (some : PutsSome (one_round first slots) x y) (it : HasLaid v w z (puts some.put)) where
  pub round_put : (t t' : TableId) (before : Pass) (hints : Queue) (s : TableId) (room : ℕ) → first ≤ slots → pass_of t v ≡ before → queue_of s room ≡ hints → before.queue ≡ hints.name
      → PutsRound hints.room slots before (pass_of t' z)
  round_put t t' before hints s room within was is queue =
      let known : name_of t v.room ≡ hints.name = ap (λ (p : Pass). p.queue) was ∙ queue in
      let width : v.room ≡ hints.room = ap (λ (n : Name). n.room) known ∙ subst (λ (q : Queue). q.name.room ≡ q.room) is refl in
      let wait : waiting z.seen ≡ y.items = waits_put v w z some.put it ∙ ap (λ (l : List ℕ). l ++ some.put) (sym (up_items v w x up)) ∙ sym some.items in
      let full : (length y.items ≡ y.capacity) → length (waiting z.seen) ≡ hints.room =
      λ at. ap length wait ∙ at ∙ some.capacity ∙ up_capacity v w x up ∙ up_room v w x up ∙ width
      in
      let all : (some.put ≡ one_round first slots) ⊎ (length (waiting z.seen) ≡ hints.room) = ⊎_elim (λ (k : some.put ≡ one_round first slots). inl k) (λ (k : length y.items ≡ y.capacity). inr (full k)) some.all in
      subst (λ (p : Pass). PutsRound hints.room slots p (pass_of t' z)) was
      (record {
        so_far = w.seen;
        past = it.past;
        first = first;
        within = within;
        put = some.put;
        begun = some.begun;
        last = it.last;
        own = (let own = it.own in let many = length-puts some.put in omega (arith, own, many));
        all = all;
        only = it.only;
      })
