-- Numbers of ascending lists: which a list has, and that lists with the same numbers are one.
use Rattle.std.proofs.Common.{◌≡◌, ℕ, ◌<◌, ◌==◌, Bool, true, false, not, ◌&&◌, ◌||◌, nat_lt, List, [], ◌∷◌, ◌++◌, cond, filter, refl, sym, ap, ◌∙◌, inl, inr, arith}
use Rattle.std.specs.List.{AllByRecursion, Contains, dedup}
use Rattle.std.specs.List.Retain.{IsFiltered, DiffersFromLast}
use Rattle.std.specs.List.Sorted.{IsStrictlySortedBy, IsSorted}
use Rattle.std.specs.Ordering.{nat_cmp, eq_by_cmp}
use Rattle.std.specs.declared.cmp.Ordering.TheVariants.{Less, Equal, Greater}
use Rattle.std.proofs.lemmas.Bool.{cases_eq, cases_lt, eqb-true, eq-eqb, ne_eqb, lt-ltb, le-ltb, ltb-true, or_cases}
use Rattle.std.proofs.lemmas.Cmp.{nat_cmp_total}
use Rattle.std.proofs.lemmas.List.Filters.{dedup_is}
use Rattle.std.proofs.lemmas.List.Folds.{list_any-append}
use Rattle.std.proofs.lemmas.List.Kept.{IsStrictlySortedBy-filter, IsStrictlySortedBy-dedup, Contains-dedup_nat, Contains-from_dedup}
use Rattle.std.proofs.lemmas.Map.Views.{any-filter_same}
use Rattle.pol_data.proofs.Ascending.{same_members}
use Rattle.pol_data.proofs.Every.{every-append, every-filter}
use Rattle.pol_data.proofs.Members.{In, In-from_Contains, Contains-from_In, every-in, every-from_in}
use Rattle.pol_sets.specs.Ids.{has, without, placed, union}

abbrev pub Ascends : List ℕ → Type 0
Ascends ids = IsStrictlySortedBy nat_cmp ids

-- two tests that are true together are one
pub same_tests : (a b : Bool) → (a ≡ true → b ≡ true) → (b ≡ true → a ≡ true) → a ≡ b
same_tests true true to back = refl
same_tests true false to back = sym (to refl)
same_tests false true to back = back refl
same_tests false false to back = refl

-- ---- what a list has
in_from_has : (id : ℕ) (ids : List ℕ) → has id ids ≡ true → In id ids
in_from_has id [] there = let wrong : ⊥ = cc in wrong
in_from_has id (own ∷ ids) there =
    elim (or_cases (own == id) (has id ids) there) [
      | inl here ↦ inl (eqb-true own id here)
      | inr later ↦ inr (in_from_has id ids later)
    ]

has_from_in : (id : ℕ) (ids : List ℕ) → In id ids → has id ids ≡ true
has_from_in id [] there = elim there [ ]
has_from_in id (own ∷ ids) (inl same) = rw (eq-eqb own id same) refl
has_from_in id (own ∷ ids) (inr later) =
    elim (own == id) as (λ b. (b || has id ids) ≡ true) [ true ↦ refl | false ↦ has_from_in id ids later ]

-- what holds of all elements holds of each number that the list has, and the converse
pub has_of_all : (P : ℕ → Type 0) (ids : List ℕ) → AllByRecursion P ids → (id : ℕ) → has id ids ≡ true → P id
has_of_all P ids all id there = every-in P ids all id (in_from_has id ids there)

pub all_have : (P : ℕ → Type 0) (ids : List ℕ) → ((id : ℕ) → has id ids ≡ true → P id) → AllByRecursion P ids
all_have P ids each = every-from_in P ids (λ id there. each id (has_from_in id ids there))

-- ascending lists that have the same numbers are one list
pub same_ids : (xs ys : List ℕ) → Ascends xs → Ascends ys → ((id : ℕ) → has id xs ≡ has id ys) → xs ≡ ys
same_ids xs ys ascend_xs ascend_ys same =
    same_members nat_cmp_total xs ys ascend_xs ascend_ys
    (λ id there. in_from_has id ys (sym (same id) ∙ has_from_in id xs there))
    (λ id there. in_from_has id xs (same id ∙ has_from_in id ys there))

pub has-filter : (p : ℕ → Bool) (id : ℕ) (ids : List ℕ) → has id (filter p ids) ≡ (p id && has id ids)
has-filter p id ids = any-filter_same (λ own. own == id) p (p id) (λ own same. ap p (eqb-true own id same)) ids

pub has-without : (id : ℕ) (ids others : List ℕ) → has id (without ids others) ≡ (not (has id others) && has id ids)
has-without id ids others = has-filter (λ own. not (has own others)) id ids

pub and_all : (b : Bool) → (b && true) ≡ b
and_all true = refl
and_all false = refl

pub or_nothing : (b : Bool) → (b || false) ≡ b
or_nothing true = refl
or_nothing false = refl

has-placed : (id : ℕ) (ids : List ℕ) (new : ℕ) → has id (placed ids new) ≡ ((new == id) || has id ids)
has-placed id ids new =
    let parts : has id (placed ids new) ≡ ((nat_lt id new && has id ids) || ((new == id) || (nat_lt new id && has id ids))) =
    list_any-append (λ own. own == id) (filter (λ own. nat_lt own new) ids) (new ∷ filter (λ own. nat_lt new own) ids)
    ∙ (λ i. has-filter (λ own. nat_lt own new) id ids i || ((new == id) || has-filter (λ own. nat_lt new own) id ids i)) in
    parts ∙ elim (cases_eq new id) [
      | inl same ↦ rw (eq-eqb new id same, le-ltb id new (omega arith)) refl
      | inr differs ↦ elim (cases_lt new id) [
        | inl below ↦ rw (ne_eqb new id differs, lt-ltb new id below, le-ltb id new (omega arith)) refl
        | inr above ↦ rw (ne_eqb new id differs, lt-ltb id new (omega arith), le-ltb new id (omega arith)) (or_nothing (has id ids))
      ]
    ]

or_moves : (a b c : Bool) → ((b || a) || c) ≡ (a || (b || c))
or_moves true true c = refl
or_moves true false c = refl
or_moves false true c = refl
or_moves false false c = refl

pub has-union : (id : ℕ) (ids others : List ℕ) → has id (union ids others) ≡ (has id ids || has id others)
has-union id ids [] = sym (or_nothing (has id ids))
has-union id ids (new ∷ others) =
    has-union id (placed ids new) others ∙ ap (λ b. b || has id others) (has-placed id ids new) ∙ or_moves (has id ids) (new == id) (has id others)

-- ---- what ascends
pub less_cmp : (x y : ℕ) → x < y → nat_cmp x y ≡ Less
less_cmp x y less = rw (lt-ltb x y less) refl

pub less_is : (x y : ℕ) → nat_cmp x y ≡ Less → x < y
less_is x y less = by (nat_lt x y) refl (x == y) less
  where
    by : (b : Bool) → nat_lt x y ≡ b → (e : Bool) → cond b Less (cond e Equal Greater) ≡ Less → x < y
    by true is e less = ltb-true x y is
    by false is true less = absurd (let wrong : ⊥ = cc in wrong)
    by false is false less = absurd (let wrong : ⊥ = cc in wrong)

pub ascends-append : (xs ys : List ℕ) → Ascends xs → Ascends ys → AllByRecursion (λ x. AllByRecursion (λ y. nat_cmp x y ≡ Less) ys) xs → Ascends (xs ++ ys)
unfolding IsStrictlySortedBy
ascends-append [] ys front back across = back
ascends-append (x ∷ xs) ys front back across =
    (every-append (λ y. nat_cmp x y ≡ Less) xs ys front.0 across.0, ascends-append xs ys front.1 back across.1)

pub nothing_ascends : Ascends []
unfolding IsStrictlySortedBy
nothing_ascends = tt

pub without-ascends : (ids others : List ℕ) → Ascends ids → Ascends (without ids others)
without-ascends ids others ascend = IsStrictlySortedBy-filter nat_cmp (λ id. not (has id others)) ids ascend

placed-ascends : (ids : List ℕ) (new : ℕ) → Ascends ids → Ascends (placed ids new)
unfolding IsStrictlySortedBy
placed-ascends ids new ascend =
    let above : AllByRecursion (λ y. nat_cmp new y ≡ Less) (filter (λ own. nat_lt new own) ids) =
    every-filter (λ y. nat_cmp new y ≡ Less) (λ own. nat_lt new own) ids (every-from_in _ ids (λ y _ passes. less_cmp new y (ltb-true new y passes))) in
    ascends-append (filter (λ own. nat_lt own new) ids) (new ∷ filter (λ own. nat_lt new own) ids)
    (IsStrictlySortedBy-filter nat_cmp (λ own. nat_lt own new) ids ascend)
    (above, IsStrictlySortedBy-filter nat_cmp (λ own. nat_lt new own) ids ascend)
    (every-filter _ (λ own. nat_lt own new) ids (every-from_in _ ids (λ x _ passes. (
      less_cmp x new (ltb-true x new passes),
      every-filter (λ y. nat_cmp x y ≡ Less) (λ own. nat_lt new own) ids (every-from_in _ ids (λ y _ later. less_cmp x y (omega (arith, ltb-true x new passes, ltb-true new y later)))),
    )
    )))

pub union-ascends : (ids others : List ℕ) → Ascends ids → Ascends (union ids others)
union-ascends ids [] ascend = ascend
union-ascends ids (new ∷ others) ascend = union-ascends (placed ids new) others (placed-ascends ids new ascend)

-- ---- a `dedup` of a sorted list
has_all : (xs ys : List ℕ) → ((id : ℕ) → Contains xs id → Contains ys id) → (id : ℕ) → has id xs ≡ true → has id ys ≡ true
has_all xs ys all id there =
    has_from_in id ys (In-from_Contains ys id (all id (Contains-from_In xs id (in_from_has id xs there))))

ties : (x y : ℕ) → (x == y) ≡ eq_by_cmp nat_cmp x y
ties x y =
    elim (cases_eq x y) [
      | inl same ↦ rw (eq-eqb x y same, le-ltb x y (omega arith)) refl
      | inr differs ↦ elim (cases_lt x y) [
        | inl below ↦ rw (ne_eqb x y differs, lt-ltb x y below) refl
        | inr above ↦ rw (ne_eqb x y differs, le-ltb x y (omega arith)) refl
      ]
    ]

module _ (sorted result : List ℕ) (in_order : IsSorted nat_cmp sorted) (filtered : IsFiltered (DiffersFromLast (λ a b. a == b)) [] sorted result) where
  is_dedup : result ≡ dedup (λ a b. a == b) sorted
  is_dedup = dedup_is (λ a b. a == b) sorted result filtered

  pub dedup-ascends : Ascends result
  dedup-ascends = rw is_dedup (IsStrictlySortedBy-dedup nat_cmp_total ties sorted in_order)

  pub dedup-has : (id : ℕ) → has id result ≡ has id sorted
  dedup-has id =
      rw is_dedup
      (same_tests (has id (dedup (λ a b. a == b) sorted)) (has id sorted)
      (has_all (dedup (λ a b. a == b) sorted) sorted (Contains-from_dedup (λ a b. a == b) sorted) id)
      (has_all sorted (dedup (λ a b. a == b) sorted) (Contains-dedup_nat sorted) id))
