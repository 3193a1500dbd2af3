-- From what a plan asks to what each selector is judged by, and back to what the plan says.
use Rattle.std.proofs.Common.{zero, suc, if◌then◌else◌, add-one, ◌≡◌, ℕ, ◌+◌, ◌*◌, ◌<◌, ◌≤◌, ◌&&◌, Bool, true, false, cond, not, List, [], ◌∷◌, ◌++◌, take, length, slice_get, Option, Some, None, refl, sym, ap, ◌∙◌, arith}
use Rattle.std.specs.List.{AllByRecursion, filter_map, cons_option}
use Rattle.std.specs.List.Sorted.{IsStrictlySortedBy}
use Rattle.std.specs.Ordering.{nat_cmp}
use Rattle.std.proofs.lemmas.Bool.{cond-true, cond-false}
use Rattle.std.proofs.lemmas.List.{take_more}
use Rattle.std.proofs.lemmas.List.Elements.{filter_map-append}
use Rattle.std.proofs.lemmas.List.Sums.{sum_by-cons}
use Rattle.std.proofs.lemmas.Option.{get_or_from_slice_get}
use Rattle.std.proofs.Math.Nat.{mul-le-mul_left}
use Rattle.pol_data.proofs.Every.{every-weaker}
use Rattle.pol_data.proofs.Members.{every-in}
use Rattle.pol_model_laws.specs.Keeps.{KeepsRows}
use Rattle.pol_model.specs.declared.row.IdentityRow.{IdentityRow}
use Rattle.pol_model.specs.Selects.{set_at}
use Rattle.pol_set_changes.specs.Ids.{has, without}
use Rattle.pol_selcache.specs.Cache.{Cache, IsSound, MayPlan}
use Rattle.pol_selcache.specs.Live.{Live, AreExact, is_label_peer, label_selectors, rows_without}
use Rattle.pol_selcache.specs.Held.{steps_of}
use Rattle.pol_selcache.specs.Moving.{Moving}
use Rattle.pol_selcache.specs.Plan.{Planned, is_empty, change_to, changes_for, changed}
use Rattle.pol_selcache.proofs.Exact.{plan_makes_exact}
use Rattle.pol_selcache.proofs.Numbers.{In-has}
use Rattle.pol_selcache.proofs.RowSets.{rows_without_ascend}

-- rows without the same numbers
pub rows_agree : (xs ys : List ℕ) → ((n : ℕ) → has n xs ≡ has n ys) → (rows : List IdentityRow) → rows_without xs rows ≡ rows_without ys rows
rows_agree xs ys same [] = refl
rows_agree xs ys same (row ∷ rows) = λ i. cond (not (same row.number i)) (row ∷ rows_agree xs ys same rows i) (rows_agree xs ys same rows i)

-- what is given to a plan, with the numbers that come and go as sets
pub record Given (revision : ℕ) (come gone come_set gone_set : List ℕ) (rows : List IdentityRow) (cache : Cache) : Type 0 where
  pub may : MayPlan revision come gone rows cache
  pub keeps : KeepsRows rows
  pub sound : IsSound cache
  pub come_members : (n : ℕ) → has n come_set ≡ has n come
  pub come_ascend : IsStrictlySortedBy nat_cmp come_set
  pub gone_members : (n : ℕ) → has n gone_set ≡ has n gone
  pub gone_ascend : IsStrictlySortedBy nat_cmp gone_set

module _ (revision : ℕ) (come gone come_set gone_set : List ℕ) (rows : List IdentityRow) (cache : Cache) (given : Given revision come gone come_set gone_set rows cache) where
  pub moving_each : AllByRecursion (λ s. Moving rows come_set gone_set s.peer s.set) cache.live
  moving_each =
      every-weaker (λ s. s.set ≡ set_at (rows_without come rows) s.peer) (λ s. Moving rows come_set gone_set s.peer s.set)
      (λ s exact. record {
        rows_ascend = given.keeps.numbers;
        come_ascend = given.come_ascend;
        gone_ascend = given.gone_ascend;
        apart = λ n there. given.gone_members n ∙ every-in (λ m. has m gone ≡ false) come given.may.apart n (In-has n come (sym (given.come_members n) ∙ there));
        exact = exact ∙ ap (λ others. set_at others s.peer) (sym (rows_agree come_set come given.come_members rows));
      })
      cache.live given.may.exact

  pub changes_same : changes_for (rows_without gone_set rows) cache.live ≡ changes_for (rows_without gone rows) cache.live
  changes_same = ap (λ others. changes_for others cache.live) (rows_agree gone_set gone given.gone_members rows)

  pub exact_afterwards : AreExact (rows_without gone rows) (changed (changes_for (rows_without gone rows) cache.live) cache.live)
  exact_afterwards =
      plan_makes_exact (rows_without gone rows) (rows_without come rows)
      (rows_without_ascend gone rows given.keeps.numbers) (rows_without_ascend come rows given.keeps.numbers)
      cache.live given.sound.live.numbers given.may.exact

-- ---- one selector
module _ (after : List ℕ) (s : Live) (gained lost : List ℕ) (gained_is : gained ≡ without after s.set) (lost_is : lost ≡ without s.set after) where
  still : (b : Bool) → (is_empty gained && is_empty lost) ≡ b → (is_empty (without after s.set) && is_empty (without s.set after)) ≡ b
  still b is = (λ i. is_empty (sym gained_is i) && is_empty (sym lost_is i)) ∙ is

  pub stands : (is_empty gained && is_empty lost) ≡ true → None ≡ change_to after s
  stands is = sym (cond-true _ None _ (still true is))

  pub moves : (is_empty gained && is_empty lost) ≡ false → (next : List ℕ) → next ≡ after → Some (record { selector = s.number; gained = gained; lost = lost; set = next }) ≡ change_to after s
  moves is next next_is =
      let give : List ℕ → List ℕ → List ℕ → Option Planned = λ g l n. Some (record { selector = s.number; gained = g; lost = l; set = n }) in
      (λ i. give (gained_is i) (lost_is i) (next_is i)) ∙ sym (cond-false _ None _ (still false is))

-- ---- the selectors so far, and one more
so_far : {X Y : Type 0} (h : X → Option Y) (xs : List X) (i : ℕ) (x : X) → slice_get xs i ≡ Some x → filter_map h (take (i + 1) xs) ≡ filter_map h (take i xs) ++ cons_option (h x) []
so_far h xs i x at =
    let within : i < length xs = slice_get-within xs i x at in
    ap (filter_map h) (take_more xs i x within ∙ ap (λ y. take i xs ++ y ∷ []) (get_or_from_slice_get xs i x x at))
    ∙ filter_map-append h (take i xs) (x ∷ [])
  where
    slice_get-within : {X : Type 0} (xs : List X) (i : ℕ) (x : X) → slice_get xs i ≡ Some x → i < length xs
    slice_get-within [] i x at = absurd (let wrong : ⊥ = cc in wrong)
    slice_get-within (y ∷ xs) zero x at = omega arith
    slice_get-within (y ∷ xs) (suc i) x at = let rest = slice_get-within xs i x at in omega arith

pub changes_so_far : (rows : List IdentityRow) (live : List Live) (i : ℕ) (s : Live) → slice_get live i ≡ Some s
    → changes_for rows (take (i + 1) live) ≡ changes_for rows (take i live) ++ cons_option (change_to (set_at rows s.peer) s) []
changes_so_far rows live i s at = so_far (λ t. change_to (set_at rows t.peer) t) live i s at

-- the label selectors so far
pub labels-cons : (t : Live) (live : List Live) → label_selectors (t ∷ live) ≡ steps_of t.peer + label_selectors live
labels-cons t live = sum_by-cons (λ (u : Live). if is_label_peer u.peer then 1 else 0) t live

labels_next : (live : List Live) (i : ℕ) (s : Live) → slice_get live i ≡ Some s → label_selectors (take (suc i) live) ≡ label_selectors (take i live) + steps_of s.peer
labels_next [] i s at = absurd (let wrong : ⊥ = cc in wrong)
labels_next (t ∷ live) zero s at =
    let same : t ≡ s = cc in
    let one = labels-cons t [] in
    let own : steps_of t.peer ≡ steps_of s.peer = ap (λ (u : Live). steps_of u.peer) same in
    omega arith
labels_next (t ∷ live) (suc i) s at =
    let more = labels-cons t (take (suc i) live) in
    let before = labels-cons t (take i live) in
    let rest = labels_next live i s at in
    omega arith

labels_in_all : (live : List Live) (i : ℕ) → label_selectors (take i live) ≤ label_selectors live
labels_in_all [] zero = omega arith
labels_in_all [] (suc i) = omega arith
labels_in_all (t ∷ live) zero = omega arith
labels_in_all (t ∷ live) (suc i) =
    let rest = labels_in_all live i in
    let one = labels-cons t (take i live) in
    let all = labels-cons t live in
    omega arith

-- what that costs so far, and in all at most
module _ (live : List Live) (i : ℕ) (s : Live) (at : slice_get live i ≡ Some s) (start now later come : ℕ) (before : now ≤ start + label_selectors (take i live) * come) (one : later ≤ now + steps_of s.peer * come) where
  pub cost_so_far : later ≤ start + label_selectors (take (i + 1) live) * come
  cost_so_far = rw add-one (let next = ap (λ n. n * come) (labels_next live i s at) in omega arith)

  pub cost_in_all : later ≤ start + label_selectors live * come
  cost_in_all =
      let next = ap (λ n. n * come) (labels_next live i s at) in
      let all = mul-le-mul_left come (labels_in_all live (suc i)) in
      omega arith
