-- What comes and goes where sets change.
use Rattle.std.proofs.Common.{◌≡◌, ℕ, ◌+◌, ◌==◌, Bool, true, false, not, ◌&&◌, List, [], ◌++◌, filter, Result, Ok, Err, OnOk, refl, sym, ◌∙◌, ap, arith}
use Rattle.std.specs.List.{flat_map, sum_by}
use Rattle.std.specs.List.Sorted.{IsStrictlySortedBy}
use Rattle.std.specs.Ordering.{nat_cmp}
use Rattle.std.proofs.lemmas.Bool.{eqb-true}
use Rattle.std.proofs.lemmas.List.Filters.{sum_by-filter_both}
use Rattle.std.proofs.lemmas.List.Kept.{IsStrictlySortedBy-filter}
use Rattle.std.proofs.lemmas.Map.Views.{any-filter_same}
use Rattle.pol_mapkey.specs.Entries.{Entry}
use Rattle.pol_sets.specs.declared.sets.Move.{Move}
use Rattle.pol_set_changes.specs.Ids.{has, without}
use Rattle.pol_set_changes.specs.Sets.{IsMove}
use Rattle.pol_sets.proofs.IdLemmas.{same_ids}
use Rattle.pol_entry_tally.specs.Times.{times}
use Rattle.pol_entry_changes.specs.Balance.{GoesOn, Leads}
use Rattle.pol_entry_changes.specs.declared.staying.Moved.{Moved}
use Rattle.pol_entry_changes.proofs.Times.{times-append, times-flat_map}

abbrev Ascends : List ℕ → Type 0
Ascends ids = IsStrictlySortedBy nat_cmp ids

and_swap : (a b : Bool) → (a && b) ≡ (b && a)
and_swap true true = refl
and_swap true false = refl
and_swap false true = refl
and_swap false false = refl

has-kept : (p : ℕ → Bool) (id : ℕ) (ids : List ℕ) → has id (filter p ids) ≡ (p id && has id ids)
has-kept p id ids = any-filter_same (λ own. own == id) p (p id) (λ own same. ap p (eqb-true own id same)) ids

-- the numbers that stay are the same from either side
kept_both : (old new : List ℕ) → Ascends old → Ascends new → filter (λ id. has id old) new ≡ filter (λ id. has id new) old
kept_both old new ascend_old ascend_new =
    same_ids (filter (λ id. has id old) new) (filter (λ id. has id new) old)
    (IsStrictlySortedBy-filter nat_cmp (λ id. has id old) new ascend_new)
    (IsStrictlySortedBy-filter nat_cmp (λ id. has id new) old ascend_old)
    (λ id. has-kept (λ id. has id old) id new ∙ and_swap (has id old) (has id new) ∙ sym (has-kept (λ id. has id new) id old))

numbers_move : (f : ℕ → ℕ) (old new : List ℕ) → Ascends old → Ascends new
    → sum_by f new + sum_by f (without old new) ≡ sum_by f old + sum_by f (without new old)
numbers_move f old new ascend_old ascend_new =
    omega (
      arith,
      sum_by-filter_both (λ id. has id old) (λ id. not (has id old)) (λ id. refl) f new,
      sum_by-filter_both (λ id. has id new) (λ id. not (has id new)) (λ id. refl) f old,
      ap (sum_by f) (kept_both old new ascend_old ascend_new),
    )

module _ (f : ℕ → List Entry) (was is : List ℕ) (m : Move) (ascend_was : Ascends was) (ascend_is : Ascends is) (exact : IsMove was is m) (old new : Moved) where
  pub move_goes_on : new.come.items ≡ old.come.items ++ flat_map f m.gained → new.gone.items ≡ old.gone.items ++ flat_map f m.lost
      → GoesOn (flat_map f was) (flat_map f is) old new
  move_goes_on come gone q k =
      let F : ℕ → ℕ = λ id. times (f id) q k in
      omega (
        arith,
        numbers_move F was is ascend_was ascend_is,
        times-flat_map f was q k,
        times-flat_map f is q k,
        times-flat_map f m.gained q k,
        times-flat_map f m.lost q k,
        ap (sum_by F) exact.gained,
        ap (sum_by F) exact.lost,
        ap (λ es. times es q k) come ∙ times-append old.come.items (flat_map f m.gained) q k,
        ap (λ es. times es q k) gone ∙ times-append old.gone.items (flat_map f m.lost) q k,
      )

  pub moved_on : {X E : Type 0} (r : Result X E) → OnOk r (new.come.items ≡ old.come.items ++ flat_map f m.gained) → OnOk r (new.gone.items ≡ old.gone.items ++ flat_map f m.lost)
      → OnOk r (GoesOn (flat_map f was) (flat_map f is) old new)
  moved_on (Ok x) come gone = move_goes_on come gone
  moved_on (Err e) come gone = tt

-- nothing came or went
pub stays_on : (xs : List Entry) (out : Moved) → GoesOn xs xs out out
stays_on xs out q k = omega arith

-- ---- one after the other
pub goes_on : (a b c d : List Entry) (old mid new : Moved) → GoesOn a b old mid → GoesOn c d mid new → GoesOn (a ++ c) (b ++ d) old new
goes_on a b c d old mid new first second q k = omega (arith, first q k, second q k, times-append a c q k, times-append b d q k)

-- nothing had come or gone before
pub leads : (was is : List Entry) (old new : Moved) → old.come.items ≡ [] → old.gone.items ≡ [] → GoesOn was is old new → Leads was is new
leads was is old new come gone on q k =
    let no_come : times old.come.items q k ≡ 0 = ap (λ es. times es q k) come in
    let no_gone : times old.gone.items q k ≡ 0 = ap (λ es. times es q k) gone in
    omega (arith, no_come, no_gone, on q k)

-- three in turn
pub three_on : (a b c d e f : List Entry) (old one two new : Moved) → GoesOn a d old one → GoesOn b e one two
    → {X E : Type 0} (r : Result X E) → OnOk r (GoesOn c f two new) → OnOk r (GoesOn (a ++ b ++ c) (d ++ e ++ f) old new)
three_on a b c d e f old one two new first second (Ok x) third = goes_on (a ++ b) (d ++ e) c f old two new (goes_on a d b e old one two first second) third
three_on a b c d e f old one two new first second (Err x) third = tt

pub two_on : (a b d e : List Entry) (old one new : Moved) → GoesOn a d old one
    → {X E : Type 0} (r : Result X E) → OnOk r (GoesOn b e one new) → OnOk r (GoesOn (a ++ b) (d ++ e) old new)
two_on a b d e old one new first (Ok x) second = goes_on a d b e old one new first second
two_on a b d e old one new first (Err x) second = tt
