-- Ascending numbers in stretches: those below one, that one, and those above it.
use Rattle.std.proofs.Common.{◌≡◌, ℕ, zero, suc, ◌+◌, ◌<◌, ◌≤◌, Bool, true, false, not, cond, nat_lt, List, [], ◌∷◌, ◌++◌, filter, length, take, drop, slice_index_or, refl, sym, ap, subst, ◌∙◌, inl, inr, arith}
use Rattle.std.specs.List.{AllByRecursion}
use Rattle.std.specs.List.Sorted.{IsNonDecreasingBy, IsPartitionPoint, IsStrictlySortedBy}
use Rattle.std.specs.Ordering.{nat_cmp}
use Rattle.std.specs.declared.cmp.Ordering.TheVariants.{Less}
use Rattle.std.proofs.lemmas.Bool.{cases_lt, eq-eqb, ne_eqb, lt-ltb, le-ltb, ltb-true}
use Rattle.std.proofs.lemmas.List.{append_assoc}
use Rattle.std.proofs.lemmas.List.Elements.{filter-append}
use Rattle.std.proofs.lemmas.List.Kept.{IsStrictlySortedBy-filter}
use Rattle.std.proofs.Math.Seq.{drop-cons}
use Rattle.std.proofs.lemmas.Map.Keys.{non_decreasing_from_sorted}
use Rattle.pol_data.proofs.Every.{every-append, every-filter, every-weaker}
use Rattle.pol_data.proofs.Members.{every-from_in}
use Rattle.pol_sets.specs.Ids.{has, placed, union, without}
use Rattle.pol_sets.proofs.IdLemmas.{less_is}

-- ---- where a list parts
module _ {X : Type 0} (p : X → Bool) where
  none_pass : (xs : List X) → ((k : ℕ) (d : X) → k < length xs → p (slice_index_or xs k d) ≡ false) → (filter p xs ≡ []) × (filter (λ x. not (p x)) xs ≡ xs)
  none_pass [] none = (refl, refl)
  none_pass (x ∷ xs) none =
      let rest = none_pass xs (λ k d below. none (suc k) d (omega arith)) in
      rw (none 0 x (omega arith)) (rest.0, ap (λ ys. x ∷ ys) rest.1)

  -- where the first so many pass and the rest fail, they are those that pass, and the rest those that don't
  pub parts_at : (xs : List X) (i : ℕ) → i ≤ length xs → IsPartitionPoint (λ x. p x ≡ true) (λ x. p x ≡ false) xs i → (take i xs ≡ filter p xs) × (drop i xs ≡ filter (λ x. not (p x)) xs)
  parts_at xs zero within point =
      let none = none_pass xs (λ k d below. point.1 k d (omega arith) below) in
      (sym none.0, sym none.1)
  parts_at [] (suc i) within point = absurd (omega arith)
  parts_at (x ∷ xs) (suc i) within point =
      let rest = parts_at xs i (omega arith) (λ k d low below. point.0 (suc k) d (omega arith) (omega arith), λ k d low below. point.1 (suc k) d (omega arith) (omega arith)) in
      rw (point.0 0 x (omega arith) (omega arith)) (ap (λ ys. x ∷ ys) rest.0, rest.1)

pub never_fall : (xs : List ℕ) → IsStrictlySortedBy nat_cmp xs → IsNonDecreasingBy (λ x. x) xs
never_fall xs ascend i j d le within = non_decreasing_from_sorted xs ascend i j d le within

-- ---- what lies on either side of a number
-- not below it, and not below the next
pub above_is : (n : ℕ) (xs : List ℕ) → filter (λ x. not (nat_lt x (n + 1))) (filter (λ x. not (nat_lt x n)) xs) ≡ filter (λ x. nat_lt n x) xs
above_is n [] = refl
above_is n (x ∷ xs) =
    elim (cases_lt x n) [
      | inl below ↦ rw (lt-ltb x n below, le-ltb n x (omega arith)) (above_is n xs)
      | inr from ↦ elim (cases_lt n x) [
        | inl above ↦ rw (le-ltb x n from, lt-ltb n x above, le-ltb x (n + 1) (omega arith)) (ap (λ ys. x ∷ ys) (above_is n xs))
        | inr to ↦ rw (le-ltb x n from, le-ltb n x to, lt-ltb x (n + 1) (omega arith)) (above_is n xs)
      ]
    ]

pub above_of : (n bound : ℕ) (xs others above : List ℕ) → bound ≡ n → others ≡ filter (λ x. not (nat_lt x bound)) xs → above ≡ filter (λ x. not (nat_lt x (bound + 1))) others
    → above ≡ filter (λ x. nat_lt n x) xs
above_of n bound xs others above bound_is others_is above_is_of =
    above_is_of
    ∙ (λ i. filter (λ x. not (nat_lt x (bound_is i + 1))) ((others_is ∙ (λ j. filter (λ x. not (nat_lt x (bound_is j))) xs)) i))
    ∙ above_is n xs

-- those above one that ascend
abbrev AllAbove : ℕ → List ℕ → Type 0
AllAbove n xs = AllByRecursion (λ x. n < x) xs

pub above_first : (x : ℕ) (xs : List ℕ) → IsStrictlySortedBy nat_cmp (x ∷ xs) → AllAbove x xs
unfolding IsStrictlySortedBy
above_first x xs ascend = every-weaker (λ y. nat_cmp x y ≡ Less) (λ y. x < y) (λ y less. less_is x y less) xs ascend.0

pub rest_ascend : (x : ℕ) (xs : List ℕ) → IsStrictlySortedBy nat_cmp (x ∷ xs) → IsStrictlySortedBy nat_cmp xs
unfolding IsStrictlySortedBy
rest_ascend x xs ascend = ascend.1

-- all of them are on the one side
all_above : (n : ℕ) (xs : List ℕ) → AllAbove n xs → (filter (λ x. nat_lt x n) xs ≡ []) × (filter (λ x. nat_lt n x) xs ≡ xs)
all_above n [] above = (refl, refl)
all_above n (x ∷ xs) above =
    let rest = all_above n xs above.1 in
    let less = above.0 in
    rw (le-ltb x n (omega arith), lt-ltb n x less) (rest.0, ap (λ ys. x ∷ ys) rest.1)

all_below : (n : ℕ) (xs : List ℕ) → AllByRecursion (λ x. x < n) xs → (filter (λ x. nat_lt x n) xs ≡ xs) × (filter (λ x. nat_lt n x) xs ≡ [])
all_below n [] below = (refl, refl)
all_below n (x ∷ xs) below =
    let rest = all_below n xs below.1 in
    let less = below.0 in
    rw (lt-ltb x n less, le-ltb n x (omega arith)) (ap (λ ys. x ∷ ys) rest.0, rest.1)

none_there : (n : ℕ) (xs : List ℕ) → AllAbove n xs → has n xs ≡ false
none_there n [] above = refl
none_there n (x ∷ xs) above =
    let less = above.0 in
    rw (ne_eqb x n (λ same. (let is : x ≡ n = same in omega arith))) (none_there n xs above.1)

-- ---- numbers that go
-- of the numbers those below the first that goes stay, and those above it are looked at on
pub without_first : (n : ℕ) (ns xs : List ℕ) → IsStrictlySortedBy nat_cmp xs → AllAbove n ns
    → without xs (n ∷ ns) ≡ filter (λ x. nat_lt x n) xs ++ without (filter (λ x. nat_lt n x) xs) ns
without_first n ns [] ascend above = refl
without_first n ns (x ∷ xs) ascend above =
    let rest = without_first n ns xs (rest_ascend x xs ascend) above in
    elim (cases_lt x n) [
      | inl below ↦ rw (
        lt-ltb x n below,
        le-ltb n x (omega arith),
        ne_eqb n x (λ same. (let is : n ≡ x = same in omega arith)),
        none_there x ns (every-weaker (λ m. n < m) (λ m. x < m) (λ m less. omega arith) ns above),
      ) (ap (λ ys. x ∷ ys) rest)
      | inr from ↦ elim (cases_lt n x) [
        | inl over ↦ (
            let sides = all_above n xs (every-weaker (λ m. x < m) (λ m. n < m) (λ m less. omega arith) xs (above_first x xs ascend)) in
            rw (
              le-ltb x n from,
              lt-ltb n x over,
              ne_eqb n x (λ same. (let is : n ≡ x = same in omega arith)),
              sides.0,
              sides.1,
            ) (ap (λ ys. cond (not (has x ns)) (x ∷ ys) ys) (rest ∙ (λ i. sides.0 i ++ without (sides.1 i) ns)))
            )
        | inr to ↦ rw (
          le-ltb x n from,
          le-ltb n x to,
          eq-eqb n x (omega arith),
        ) rest
      ]
    ]

without_none : (xs : List ℕ) → without xs [] ≡ xs
without_none [] = refl
without_none (x ∷ xs) = ap (λ ys. x ∷ ys) (without_none xs)

pub none_go : (xs ns : List ℕ) → length ns ≡ 0 → without xs ns ≡ xs
none_go xs [] none = without_none xs
none_go xs (n ∷ ns) none = absurd (omega arith)

-- ---- numbers that come
placed_behind : (front back : List ℕ) (n : ℕ) → AllByRecursion (λ x. x < n) front → placed (front ++ back) n ≡ front ++ placed back n
placed_behind front back n below =
    let sides = all_below n front below in
    rw (filter-append (λ x. nat_lt x n) front back, filter-append (λ x. nat_lt n x) front back, sides.0, sides.1)
    (append_assoc front (filter (λ x. nat_lt x n) back) (n ∷ filter (λ x. nat_lt n x) back))

union_behind : (ns front back : List ℕ) → AllByRecursion (λ n. AllByRecursion (λ x. x < n) front) ns → union (front ++ back) ns ≡ front ++ union back ns
union_behind [] front back below = refl
union_behind (n ∷ ns) front back below =
    ap (λ xs. union xs ns) (placed_behind front back n below.0) ∙ union_behind ns front (placed back n) below.1

-- of the numbers those below the first that comes stand before it, and the others come among those above it
pub union_first : (n : ℕ) (ns xs : List ℕ) → AllAbove n ns
    → union xs (n ∷ ns) ≡ (filter (λ x. nat_lt x n) xs ++ n ∷ []) ++ union (filter (λ x. nat_lt n x) xs) ns
union_first n ns xs above =
    ap (λ ys. union ys ns) (sym (append_assoc (filter (λ x. nat_lt x n) xs) (n ∷ []) (filter (λ x. nat_lt n x) xs)))
    ∙ union_behind ns (filter (λ x. nat_lt x n) xs ++ n ∷ []) (filter (λ x. nat_lt n x) xs)
    (every-weaker (λ m. n < m) (λ m. AllByRecursion (λ x. x < m) (filter (λ x. nat_lt x n) xs ++ n ∷ [])) (λ m less. before m less) ns above)
  where
    before : (m : ℕ) → n < m → AllByRecursion (λ x. x < m) (filter (λ x. nat_lt x n) xs ++ n ∷ [])
    before m less =
        every-append (λ x. x < m) (filter (λ x. nat_lt x n) xs) (n ∷ [])
        (every-filter (λ x. x < m) (λ x. nat_lt x n) xs (every-from_in _ xs (λ x _ passes. (let low = ltb-true x n passes in omega arith))))
        (less, tt)

-- ---- one number more of those that go, or come
drop_ascend : (i : ℕ) (xs : List ℕ) → IsStrictlySortedBy nat_cmp xs → IsStrictlySortedBy nat_cmp (drop i xs)
drop_ascend zero xs ascend = ascend
drop_ascend (suc i) [] ascend = ascend
drop_ascend (suc i) (x ∷ xs) ascend = drop_ascend i xs (rest_ascend x xs ascend)

module _ (ns : List ℕ) (i : ℕ) (within : i < length ns) (ascend : IsStrictlySortedBy nat_cmp ns) (rest : List ℕ) (up : IsStrictlySortedBy nat_cmp rest) where
  abbrev first : ℕ
  first = slice_index_or ns i 0

  left : drop i ns ≡ first ∷ drop (i + 1) ns
  left = drop-cons ns i 0 within ∙ ap (λ k. first ∷ drop k ns) (let next : suc i ≡ i + 1 = omega arith in next)

  above : AllAbove first (drop (i + 1) ns)
  above = above_first first (drop (i + 1) ns) (subst (IsStrictlySortedBy nat_cmp) left (drop_ascend i ns ascend))

  pub above_ascend : (upper : List ℕ) → upper ≡ filter (λ x. nat_lt first x) rest → IsStrictlySortedBy nat_cmp upper
  above_ascend upper is = subst (IsStrictlySortedBy nat_cmp) (sym is) (IsStrictlySortedBy-filter nat_cmp (λ x. nat_lt first x) rest up)

  pub without_more : (kept more upper all : List ℕ) → more ≡ kept ++ filter (λ x. nat_lt x first) rest → upper ≡ filter (λ x. nat_lt first x) rest
      → kept ++ without rest (drop i ns) ≡ all → more ++ without upper (drop (i + 1) ns) ≡ all
  without_more kept more upper all more_is upper_is so_far =
      (λ j. more_is j ++ without (upper_is j) (drop (i + 1) ns))
      ∙ append_assoc kept (filter (λ x. nat_lt x first) rest) (without (filter (λ x. nat_lt first x) rest) (drop (i + 1) ns))
      ∙ ap (λ ys. kept ++ ys) (sym (ap (without rest) left ∙ without_first first (drop (i + 1) ns) rest up above))
      ∙ so_far

  pub union_more : (both more pushed upper all : List ℕ) → more ≡ both ++ filter (λ x. nat_lt x first) rest → pushed ≡ more ++ first ∷ []
      → upper ≡ filter (λ x. nat_lt first x) rest → both ++ union rest (drop i ns) ≡ all → pushed ++ union upper (drop (i + 1) ns) ≡ all
  union_more both more pushed upper all more_is pushed_is upper_is so_far =
      (λ j. (pushed_is ∙ ap (λ ys. ys ++ first ∷ []) more_is ∙ append_assoc both (filter (λ x. nat_lt x first) rest) (first ∷ [])) j ++ union (upper_is j) (drop (i + 1) ns))
      ∙ append_assoc both (filter (λ x. nat_lt x first) rest ++ first ∷ []) (union (filter (λ x. nat_lt first x) rest) (drop (i + 1) ns))
      ∙ ap (λ ys. both ++ ys) (sym (ap (union rest) left ∙ union_first first (drop (i + 1) ns) rest above))
      ∙ so_far

pub without_ended : (ns : List ℕ) (i : ℕ) (kept rest more all : List ℕ) → length ns ≤ i → more ≡ kept ++ rest → kept ++ without rest (drop i ns) ≡ all → more ≡ all
without_ended ns i kept rest more all ended more_is so_far =
    more_is ∙ ap (λ ys. kept ++ ys) (sym (ap (without rest) (none_left i ns ended) ∙ without_none rest)) ∙ so_far
  where
    none_left : (i : ℕ) (ns : List ℕ) → length ns ≤ i → drop i ns ≡ []
    none_left zero [] ended = refl
    none_left zero (n ∷ ns) ended = absurd (omega arith)
    none_left (suc i) [] ended = refl
    none_left (suc i) (n ∷ ns) ended = none_left i ns (omega arith)
