-- The views of all passes, as one of them changes.
use Rattle.std.proofs.Common.{◌≡◌, ◌≢◌, ℕ, zero, suc, ◌≤◌, length, List, [], ◌∷◌, ◌++◌, ◌+◌, ◌*◌, true, set, refl, sym, ap, ◌∙◌, subst, inl, inr, ⊎_elim, append-nil, arith, true≢false}
use Rattle.std.proofs.Math.Decide.{ℕ_discrete}
use mathlib.Core.List.{IsPrefix}
use mathlib.Core.Logic.{dite}
use mathlib.Core.Option.{some, some-injective, some-ne-none}
use lib.ListN.{get_elem?}
use Rattle.crossbeam_queue.proofs.Lists.{at_longer, at_set, at_snoc, set_else}
use Rattle.pol_hints.specs.declared.standing.Standing.{Standing}
use Rattle.pol_hints.specs.declared.turn.Turn.{Turn}
use Rattle.pol_hints.specs.History.{longer}
use Rattle.pol_hints.specs.Queue.{AreOf, HasSeen, IsKnown, all_having, all_own, newly_made, of_both, one_if, other_half, spent, with_half}
use Rattle.pol_hints.specs.Shares.{AreShares, IsAll, IsPart, no_share}
use Rattle.pol_hints.proofs.Beginnings.{begins_further, longer_begins, longer_knows, shorter_begins}
use Rattle.pol_hints.proofs.Shares.{all_units, both_part, both_units, doubled, finer, half_part, half_units, no_more, none_units, one_measure, one_more, one_of, some_units}

-- ---- what holds of each pass

abbrev pub Each : (Standing → Type 0) → List Standing → Type 0
Each F views = (port : ℕ) (v : Standing) → get_elem? views port ≡ some v → F v

pub each_set : (F : Standing → Type 0) (views : List Standing) (port : ℕ) (w : Standing) → F w → Each F views → Each F (set views port w)
each_set F views port w mine others j u at =
    ⊎_elim (λ (x : (j ≡ port) × (w ≡ u)). subst F x.1 mine)
    (λ (x : (j ≢ port) × (get_elem? views j ≡ some u)). others j u x.1) (at_set views port j w u at)

-- what holds of the others holds of them still
pub each_else : (F : Standing → Type 0) (views : List Standing) (port : ℕ) (w : Standing) → F w → ((j : ℕ) (u : Standing) → j ≢ port → get_elem? views j ≡ some u → F u) → Each F (set views port w)
each_else F views port w mine others j u at =
    ⊎_elim (λ (x : (j ≡ port) × (w ≡ u)). subst F x.1 mine)
    (λ (x : (j ≢ port) × (get_elem? views j ≡ some u)). others j u x.0 x.1) (at_set views port j w u at)

pub each_more : (F : Standing → Type 0) (views : List Standing) (w : Standing) → F w → Each F views → Each F (views ++ w ∷ [])
each_more F views w mine others j u at = ⊎_elim (λ x. others j u x) (λ (is : w ≡ u). subst F is mine) (at_snoc views w u j at)

at_here : (views : List Standing) (port : ℕ) (v w : Standing) → get_elem? views port ≡ some v → get_elem? (set views port w) port ≡ some w
at_here [] port v w at = absurd (some-ne-none v (sym at))
at_here (x ∷ views) zero v w at = refl
at_here (x ∷ views) (suc port) v w at = at_here views port v w at

one_there : (views : List Standing) (port j : ℕ) (v u : Standing) → port ≡ j → get_elem? views port ≡ some v → get_elem? views j ≡ some u → u ≡ v
one_there views port j v u same at there = some-injective u v (sym there ∙ ap (get_elem? views) (sym same) ∙ at)

-- ---- the turns of each pass

own_set : (views : List Standing) (port : ℕ) (v w : Standing) → get_elem? views port ≡ some v → all_own (set views port w) + v.own ≡ all_own views + w.own
own_set [] port v w at = absurd (some-ne-none v (sym at))
own_set (x ∷ views) zero v w at = let same = ap (λ (y : Standing). y.own) (some-injective x v at) in omega (arith, same)
own_set (x ∷ views) (suc port) v w at = let rest = own_set views port v w at in omega (arith, rest)

own_more : (views : List Standing) (w : Standing) → all_own (views ++ w ∷ []) ≡ all_own views + w.own
own_more [] w = omega arith
own_more (x ∷ views) w = let rest = own_more views w in omega (arith, rest)

-- ---- who has the hints in their hands

pub having_set : (views : List Standing) (port : ℕ) (v w : Standing) → get_elem? views port ≡ some v → all_having (set views port w) + one_if v.has ≡ all_having views + one_if w.has
having_set [] port v w at = absurd (some-ne-none v (sym at))
having_set (x ∷ views) zero v w at = let same = ap (λ (y : Standing). one_if y.has) (some-injective x v at) in omega (arith, same)
having_set (x ∷ views) (suc port) v w at = let rest = having_set views port v w at in omega (arith, rest)

pub having_more : (views : List Standing) (w : Standing) → all_having (views ++ w ∷ []) ≡ all_having views + one_if w.has
having_more [] w = omega arith
having_more (x ∷ views) w = let rest = having_more views w in omega (arith, rest)

having_at : (views : List Standing) (port : ℕ) (v : Standing) → get_elem? views port ≡ some v → one_if v.has ≤ all_having views
having_at [] port v at = absurd (some-ne-none v (sym at))
having_at (x ∷ views) zero v at = let same = ap (λ (y : Standing). one_if y.has) (some-injective x v at) in omega (arith, same)
having_at (x ∷ views) (suc port) v at = let rest = having_at views port v at in omega (arith, rest)

-- where one has them, no other has
pub no_other_has : (views : List Standing) (port j : ℕ) (v u : Standing) → all_having views ≤ 1 → get_elem? views port ≡ some v → v.has ≡ true → j ≢ port → get_elem? views j ≡ some u → u.has ≡ true → ⊥
no_other_has views port j v u few at has other there also =
    let without = having_set views port v spent at in
    let still = having_at (set views port spent) j u (set_else views port j spent other ∙ there) in
    let mine = ap one_if has in
    let theirs = ap one_if also in
    omega (arith, few, without, still, mine, theirs)

none_part : IsPart no_share → ⊥
none_part it = let part = it.part in omega (arith, part)

-- ---- a pass with the whole share

-- no other pass has a share
pub no_other : (views : List Standing) (port j : ℕ) (v u : Standing) → AreShares views → get_elem? views port ≡ some v → get_elem? views j ≡ some u → j ≢ port → IsAll v.share → IsPart u.share → ⊥
no_other views port j v u it at there other all part =
    let mine = one_of it.whole it.units port views v at it.come in
    let without = mine.put spent 0 (none_units it.whole) in
    let theirs = one_of it.whole (0 + mine.rest) j (set views port spent) u (set_else views port j spent other ∙ there) without in
    let whole = all_units it.whole mine.mine v.share mine.is all in
    let more = some_units it.whole theirs.mine u.share theirs.is it.least part in
    let first = mine.sum in
    let second = theirs.sum in
    let few = it.few in
    omega (arith, whole, more, first, second, few)

module _ (history : List Turn) (room : ℕ) (views : List Standing) (it : AreOf history room views) (port : ℕ) (v : Standing) (at : get_elem? views port ≡ some v) where
  -- it has seen all
  pub knows_all : IsAll v.share → v.seen ≡ history
  knows_all all =
      let known = it.known in
      dite (ℕ_discrete port known.port)
      (λ same. ap (λ (y : Standing). y.seen) (sym (one_there views port known.port v known.by same at known.at)) ∙ known.knows)
      (λ other. absurd (no_other views port known.port v known.by it.shares at known.at (λ is. other (sym is)) all known.part))

  pub no_more_than_all : v.share.part ≤ v.share.of
  no_more_than_all =
      let shares = it.shares in
      let mine = one_of shares.whole shares.units port views v at shares.come in
      let few = shares.few in
      let sum = mine.sum in
      no_more shares.whole mine.mine v.share mine.is shares.least (omega (arith, few, sum))

  -- ---- the pass steps

  same_shares : (w : Standing) → v.share ≡ w.share → AreShares (set views port w)
  same_shares w same =
      let shares = it.shares in
      let mine = one_of shares.whole shares.units port views v at shares.come in
      let sum = mine.sum in
      let few = shares.few in
      record { whole = shares.whole; units = mine.mine + mine.rest; least = shares.least; few = omega (arith, sum, few); come = mine.put w mine.mine (rw (sym same) mine.is) }

  -- The pass has then seen all of the history, which has gone on to `now`, and each turn more is its own. No other has then the
  -- hints in its hands that hasn't seen that, and each other that has a share knows the room
  pub steps : (now : List Turn) (room' : ℕ) (w : Standing) → IsPart v.share → IsPrefix history now → w.seen ≡ now → w.met ≡ [] → v.share ≡ w.share → w.own + length history ≡ v.own + length now → w.room ≡ room'
      → ((j : ℕ) (u : Standing) → j ≢ port → get_elem? views j ≡ some u → u.has ≡ true → u.seen ≡ now) → ((j : ℕ) (u : Standing) → j ≢ port → get_elem? views j ≡ some u → IsPart u.share → u.room ≡ room')
      → AreOf now room' (set views port w)
  steps now room' w part later seen unmet share own known others rooms = record {
    each =
        each_else (HasSeen now room') views port w
        (record { past = ([], append-nil w.seen ∙ seen); met = (w.seen, ap (λ (l : List Turn). l ++ w.seen) unmet); all = λ has. seen; within = λ has. known })
        (λ j u apart there. let old = it.each j u there in record { past = begins_further u.seen history now old.past later; met = old.met; all = others j u apart there; within = rooms j u apart there });
    known = record { port = port; by = w; at = at_here views port v w at; part = rw (sym share) part; knows = seen };
    own = (let sum = own_set views port v w at in let before = it.own in omega (arith, sum, before, own));
    shares = same_shares w share;
  }

  -- ---- the pass is split

  half_shares : AreShares (set views port (with_half v) ++ other_half v ∷ [])
  half_shares =
      let shares = it.shares in
      let mine = one_of (2 * shares.whole) (2 * shares.units) port views v at (finer shares.whole shares.units views shares.come) in
      let old = one_of shares.whole shares.units port views v at shares.come in
      let is = half_units shares.whole old.mine v.share old.is in
      let least = shares.least in
      let few = shares.few in
      let sum = mine.sum in
      let were = old.sum in
      let same = doubled shares.whole mine.mine old.mine v.share mine.is old.is in
      record {
        whole = 2 * shares.whole;
        units = old.mine + mine.rest + old.mine;
        least = omega (arith, least);
        few = omega (arith, few, sum, were, same);
        come = one_more (2 * shares.whole) (old.mine + mine.rest) old.mine (set views port (with_half v)) (other_half v) (mine.put (with_half v) old.mine is) is;
      }

  pub splits : IsPart v.share → AreOf history room (set views port (with_half v) ++ other_half v ∷ [])
  splits part =
      let left = with_half v in
      let known = it.known in
      let mine = it.each port v at in
      let seen : HasSeen history room left = record { past = mine.past; met = (v.seen, refl); all = λ has. absurd (true≢false (sym has)); within = λ half. mine.within part } in
      let seen' : HasSeen history room (other_half v) = record { past = mine.past; met = (v.seen, refl); all = λ has. absurd (true≢false (sym has)); within = λ half. mine.within part } in
      record {
        each = each_more (HasSeen history room) (set views port left) (other_half v) seen' (each_set (HasSeen history room) views port left seen it.each);
        known =
            dite (ℕ_discrete port known.port)
            (λ same. let by = one_there views port known.port v known.by same at known.at in record {
              port = port;
              by = left;
              at = at_longer (set views port left) (other_half v ∷ []) port left (at_here views port v left at);
              part = half_part v.share part;
              knows = ap (λ (y : Standing). y.seen) (sym by) ∙ known.knows;
            })
            (λ other. record {
              port = known.port;
              by = known.by;
              at = at_longer (set views port left) (other_half v ∷ []) known.port known.by (set_else views port known.port left (λ is. other (sym is)) ∙ known.at);
              part = known.part;
              knows = known.knows;
            });
        own = (let sum = own_set views port v left at in let more = own_more (set views port left) (other_half v) in let before = it.own in omega (arith, sum, more, before));
        shares = half_shares;
      }

  -- ---- the pass is joined with another

  module _ (other : ℕ) (w : Standing) (there : get_elem? views other ≡ some w) (apart : other ≢ port) where
    both_shares : AreShares (set (set views port (of_both v w)) other spent)
    both_shares =
        let shares = it.shares in
        let mine = one_of shares.whole shares.units port views v at shares.come in
        let without = mine.put spent 0 (none_units shares.whole) in
        let theirs = one_of shares.whole (0 + mine.rest) other (set views port spent) w (set_else views port other spent apart ∙ there) without in
        let is = both_units shares.whole mine.mine theirs.mine v.share w.share mine.is theirs.is in
        let with_both = mine.put (of_both v w) (mine.mine + theirs.mine) is in
        let last = one_of shares.whole (mine.mine + theirs.mine + mine.rest) other (set views port (of_both v w)) w (set_else views port other (of_both v w) apart ∙ there) with_both in
        let same = one_measure shares.whole last.mine theirs.mine w.share last.is theirs.is in
        let few = shares.few in
        let first = mine.sum in
        let total = last.sum in
        record {
          whole = shares.whole;
          units = 0 + last.rest;
          least = shares.least;
          few = omega (arith, few, first, total, same);
          come = last.put spent 0 (none_units shares.whole);
        }

    both_known : IsPart v.share → IsPart w.share → IsKnown history (set (set views port (of_both v w)) other spent)
    both_known part part' =
        let known = it.known in
        let here : get_elem? (set (set views port (of_both v w)) other spent) port ≡ some (of_both v w) = set_else (set views port (of_both v w)) other port spent (λ is. apart (sym is)) ∙ at_here views port v (of_both v w) at in
        let knower : (longer v.seen w.seen ≡ history) → IsKnown history (set (set views port (of_both v w)) other spent) = λ knows. record { port = port; by = of_both v w; at = here; part = both_part v.share w.share part part'; knows = knows } in
        let seen_of : Standing → List Turn = λ y. y.seen in
        let mine = (it.each port v at).past in
        let theirs = (it.each other w there).past in
        dite (ℕ_discrete port known.port)
        (λ same. knower (longer_knows v.seen w.seen history mine theirs (inl (ap seen_of (sym (one_there views port known.port v known.by same at known.at)) ∙ known.knows))))
        (λ apart1. dite (ℕ_discrete other known.port)
        (λ same. knower (longer_knows v.seen w.seen history mine theirs (inr (ap seen_of (sym (one_there views other known.port w known.by same there known.at)) ∙ known.knows))))
        (λ apart2. record {
          port = known.port;
          by = known.by;
          at = set_else (set views port (of_both v w)) other known.port spent (λ is. apart2 (sym is)) ∙ set_else views port known.port (of_both v w) (λ is. apart1 (sym is)) ∙ known.at;
          part = known.part;
          knows = known.knows;
        }))

    pub joins : IsPart v.share → IsPart w.share → AreOf history room (set (set views port (of_both v w)) other spent)
    joins part part' =
        let mine = (it.each port v at).past in
        let theirs = (it.each other w there).past in
        let both : HasSeen history room (of_both v w) = record { past = longer_begins v.seen w.seen history mine theirs; met = shorter_begins v.seen w.seen history mine theirs; all = λ has. absurd (true≢false (sym has)); within = λ both. (it.each port v at).within part } in
        let nothing : HasSeen history room spent = record { past = (history, refl); met = ([], refl); all = λ has. absurd (true≢false (sym has)); within = λ none. absurd (none_part none) } in
        record {
          each = each_set (HasSeen history room) (set views port (of_both v w)) other spent nothing (each_set (HasSeen history room) views port (of_both v w) both it.each);
          known = both_known part part';
          own =
              (let sum = own_set views port v (of_both v w) at in
              let rest = own_set (set views port (of_both v w)) other w spent (set_else views port other (of_both v w) apart ∙ there) in
              let before = it.own in omega (arith, sum, rest, before));
          shares = both_shares;
        }

pub begins : AreOf [] 0 (newly_made ∷ [])
begins = record {
  each = each_more (HasSeen [] 0) [] newly_made (record { past = ([], refl); met = ([], refl); all = λ has. refl; within = λ part. refl }) (λ j u at. absurd (some-ne-none u (sym at)));
  known = record { port = 0; by = newly_made; at = refl; part = record { part = omega arith; of = omega arith }; knows = refl };
  own = refl;
  shares = record { whole = 1; units = 1; least = omega arith; few = omega arith; come = (1, 0, record { of = omega arith; is = refl }, refl, refl) };
}
