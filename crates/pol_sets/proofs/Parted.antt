-- A change of numbers in blocks is one change for each block.
use Rattle.std.proofs.Common.{◌≡◌, ℕ, zero, suc, ◌+◌, ◌^◌, ◌<◌, ◌≤◌, ◌==◌, Bool, true, false, not, ◌&&◌, ◌||◌, nat_lt, List, [], ◌∷◌, ◌++◌, Some, ◌-◌, drop, filter, get_or, length, slice_get, refl, sym, ap, subst, ◌∙◌, inl, inr, arith}
use Rattle.std.specs.List.{All, AllByRecursion}
use Rattle.std.specs.List.Sorted.{IsStrictlySortedBy}
use Rattle.std.specs.Ordering.{nat_cmp}
use Rattle.std.specs.declared.cmp.Ordering.TheVariants.{Less}
use Rattle.std.proofs.lemmas.Bool.{and_parts, cases_Bool, cases_lt, lt-ltb, le-ltb, ltb-true, or_cases}
use Rattle.std.proofs.Math.Seq.{drop-cons}
use Rattle.std.proofs.lemmas.List.{append_assoc, drop_all}
use Rattle.std.proofs.lemmas.List.Concat.{flat_map-cons}
use Rattle.std.proofs.lemmas.List.Elements.{All-cons, All-nil}
use Rattle.std.proofs.lemmas.List.Folds.{list_any-append}
use Rattle.std.proofs.lemmas.List.Kept.{IsStrictlySortedBy-filter}
use Rattle.pol_data.proofs.Every.{every-weaker}
use Rattle.pol_sets.specs.Blocks.{bound_after, bound_of, numbers_in}
use Rattle.pol_sets.specs.Ids.{has, union, without}
use Rattle.pol_sets.specs.IdSet.{IsIdSet}
use Rattle.pol_sets.proofs.Between.{above_first, none_go, rest_ascend}
use Rattle.pol_sets.proofs.IdLemmas.{Ascends, all_have, ascends-append, has-filter, has-union, has-without, has_of_all, less_cmp, nothing_ascends, or_nothing, same_ids, union-ascends, without-ascends}

-- ---- what lies before a bound, and what doesn't
abbrev AllBelow : ℕ → List ℕ → Type 0
AllBelow k xs = AllByRecursion (λ x. x < k) xs

abbrev AllFrom : ℕ → List ℕ → Type 0
AllFrom k xs = AllByRecursion (λ x. k ≤ x) xs

has-append : (n : ℕ) (xs ys : List ℕ) → has n (xs ++ ys) ≡ (has n xs || has n ys)
has-append n xs ys = list_any-append (λ own. own == n) xs ys

pub front_ascends : (xs ys : List ℕ) → Ascends (xs ++ ys) → Ascends xs
unfolding IsStrictlySortedBy
front_ascends [] ys ascend = tt
front_ascends (x ∷ xs) ys ascend =
    (all_have (λ y. nat_cmp x y ≡ Less) xs (λ y there. has_of_all (λ y. nat_cmp x y ≡ Less) (xs ++ ys) ascend.0 y (has-append y xs ys ∙ ap (λ b. b || has y ys) there)), front_ascends xs ys ascend.1)

pub back_ascends : (xs ys : List ℕ) → Ascends (xs ++ ys) → Ascends ys
back_ascends [] ys ascend = ascend
back_ascends (x ∷ xs) ys ascend = back_ascends xs ys (rest_ascend x (xs ++ ys) ascend)

-- the numbers are below the bound after them
after_below : (x : ℕ) (xs : List ℕ) → Ascends (x ∷ xs) → AllBelow (bound_after x xs) (x ∷ xs)
after_below x [] ascend = (omega arith, tt)
after_below x (y ∷ ys) ascend =
    let rest = after_below y ys (rest_ascend x (y ∷ ys) ascend) in
    let first = above_first x (y ∷ ys) ascend in
    (let less = first.0 in let low = rest.0 in omega arith, rest)

pub all_below : (xs : List ℕ) → Ascends xs → AllBelow (bound_of xs) xs
all_below [] ascend = tt
all_below (x ∷ xs) ascend = after_below x xs ascend

-- and what follows them isn't
after_from : (x : ℕ) (xs ys : List ℕ) → Ascends ((x ∷ xs) ++ ys) → AllFrom (bound_after x xs) ys
after_from x [] ys ascend = every-weaker (λ y. x < y) (λ y. x + 1 ≤ y) (λ y less. omega arith) ys (above_first x ys ascend)
after_from x (y ∷ ys) zs ascend = after_from y ys zs (rest_ascend x ((y ∷ ys) ++ zs) ascend)

pub all_from : (xs ys : List ℕ) → Ascends (xs ++ ys) → AllFrom (bound_of xs) ys
all_from [] ys ascend = all_have (λ y. 0 ≤ y) ys (λ y there. omega arith)
all_from (x ∷ xs) ys ascend = after_from x xs ys ascend

-- ---- one change, and the same in two parts
abbrev below : ℕ → List ℕ → List ℕ
below k xs = filter (λ x. nat_lt x k) xs

abbrev from : ℕ → List ℕ → List ℕ
from k xs = filter (λ x. not (nat_lt x k)) xs

abbrev moved : List ℕ → List ℕ → List ℕ → List ℕ
moved ids gained lost = union (without ids lost) gained

pub has-moved : (n : ℕ) (ids gained lost : List ℕ) → has n (moved ids gained lost) ≡ ((not (has n lost) && has n ids) || has n gained)
has-moved n ids gained lost = has-union n (without ids lost) gained ∙ ap (λ b. b || has n gained) (has-without n ids lost)

pub moved-ascends : (ids gained lost : List ℕ) → Ascends ids → Ascends (moved ids gained lost)
moved-ascends ids gained lost ascend = union-ascends (without ids lost) gained (without-ascends ids lost ascend)

below_side : (l f g : Bool) → ((not l && (f || false)) || g) ≡ (((not l && f) || g) || false)
below_side true true true = refl
below_side true true false = refl
below_side true false true = refl
below_side true false false = refl
below_side false true true = refl
below_side false true false = refl
below_side false false true = refl
below_side false false false = refl

not_there : (P : ℕ → Type 0) (xs : List ℕ) → AllByRecursion P xs → (n : ℕ) → (P n → ⊥) → has n xs ≡ false
not_there P xs all n none =
    elim (cases_Bool (has n xs)) [
      | inl there ↦ absurd (none (has_of_all P xs all n there))
      | inr missing ↦ missing
    ]

module _ (k : ℕ) (front back gained lost : List ℕ) (low : AllBelow k front) (high : AllFrom k back) (ascend : Ascends (front ++ back)) where
  abbrev first : List ℕ
  first = moved front (below k gained) (below k lost)

  abbrev second : List ℕ
  second = moved back (from k gained) (from k lost)

  first_low : (n : ℕ) → has n first ≡ true → n < k
  first_low n there =
      elim (or_cases (not (has n (below k lost)) && has n front) (has n (below k gained)) (sym (has-moved n front (below k gained) (below k lost)) ∙ there)) [
        | inl own ↦ has_of_all (λ x. x < k) front low n (and_parts (not (has n (below k lost))) (has n front) own).1
        | inr came ↦ ltb-true n k (and_parts (nat_lt n k) (has n gained) (sym (has-filter (λ x. nat_lt x k) n gained) ∙ came)).0
      ]

  second_high : (n : ℕ) → has n second ≡ true → k ≤ n
  second_high n there =
      elim (or_cases (not (has n (from k lost)) && has n back) (has n (from k gained)) (sym (has-moved n back (from k gained) (from k lost)) ∙ there)) [
        | inl own ↦ has_of_all (λ x. k ≤ x) back high n (and_parts (not (has n (from k lost))) (has n back) own).1
        | inr came ↦ not_below n (and_parts (not (nat_lt n k)) (has n gained) (sym (has-filter (λ x. not (nat_lt x k)) n gained) ∙ came)).0
      ]
    where
      not_below : (n : ℕ) → not (nat_lt n k) ≡ true → k ≤ n
      not_below n is =
          elim (cases_lt n k) [
            | inl less ↦ absurd (let wrong : not true ≡ true = ap not (sym (lt-ltb n k less)) ∙ is in let no : ⊥ = cc in no)
            | inr more ↦ more
          ]

  same_has : (n : ℕ) → has n (moved (front ++ back) gained lost) ≡ has n (first ++ second)
  same_has n =
      has-moved n (front ++ back) gained lost
      ∙ ap (λ b. (not (has n lost) && b) || has n gained) (has-append n front back)
      ∙ elim (cases_lt n k) [
        | inl less ↦ rw (
          has-append n first second,
          has-moved n front (below k gained) (below k lost),
          has-moved n back (from k gained) (from k lost),
          has-filter (λ x. nat_lt x k) n gained,
          has-filter (λ x. nat_lt x k) n lost,
          has-filter (λ x. not (nat_lt x k)) n gained,
          has-filter (λ x. not (nat_lt x k)) n lost,
          lt-ltb n k less,
          not_there (λ x. k ≤ x) back high n (λ le. omega arith),
        ) (below_side (has n lost) (has n front) (has n gained))
        | inr more ↦ rw (
          has-append n first second,
          has-moved n front (below k gained) (below k lost),
          has-moved n back (from k gained) (from k lost),
          has-filter (λ x. nat_lt x k) n gained,
          has-filter (λ x. nat_lt x k) n lost,
          has-filter (λ x. not (nat_lt x k)) n gained,
          has-filter (λ x. not (nat_lt x k)) n lost,
          le-ltb n k more,
          not_there (λ x. x < k) front low n (λ less. omega arith),
        ) refl
      ]

  pub moved_in_parts : moved (front ++ back) gained lost ≡ first ++ second
  moved_in_parts =
      same_ids (moved (front ++ back) gained lost) (first ++ second)
      (moved-ascends (front ++ back) gained lost ascend)
      (ascends-append first second
      (moved-ascends front (below k gained) (below k lost) (front_ascends front back ascend))
      (moved-ascends back (from k gained) (from k lost) (back_ascends front back ascend))
      (all_have _ first (λ x low_there. all_have _ second (λ y high_there. less_cmp x y (let l = first_low x low_there in let h = second_high y high_there in omega arith)))))
      same_has

-- ---- numbers that come to none
pub moved_nothing : (gained lost : List ℕ) → Ascends gained → moved [] gained lost ≡ gained
moved_nothing gained lost ascend =
    same_ids (moved [] gained lost) gained (moved-ascends [] gained lost nothing_ascends) ascend (λ n. has-union n [] gained)

-- one that neither gains nor loses anything is as it was
pub moved_still : (ids gained lost : List ℕ) → length gained ≡ 0 → length lost ≡ 0 → moved ids gained lost ≡ ids
moved_still ids [] [] none_gained none_lost = none_go ids [] refl
moved_still ids (g ∷ gained) lost none_gained none_lost = absurd (omega arith)
moved_still ids [] (l ∷ lost) none_gained none_lost = absurd (omega arith)

-- ---- the bound of numbers is one more than their last
after_is : (x : ℕ) (xs : List ℕ) (i last : ℕ) → i ≡ length xs → slice_get (x ∷ xs) i ≡ Some last → last + 1 ≡ bound_after x xs
after_is x [] zero last at is = ap (λ n. n + 1) (let same : last ≡ x = cc in same)
after_is x [] (suc i) last at is = absurd (omega arith)
after_is x (y ∷ ys) zero last at is = absurd (omega arith)
after_is x (y ∷ ys) (suc i) last at is = after_is y ys i last (omega arith) is

pub bound_is : (xs : List ℕ) (last : ℕ) → slice_get xs (length xs - 1) ≡ Some last → last + 1 ≡ bound_of xs
bound_is [] last is = absurd (let wrong : ⊥ = cc in wrong)
bound_is (x ∷ xs) last is = after_is x xs (length (x ∷ xs) - 1) last (omega arith) is

-- ---- the blocks that are left
-- the first of them, and those behind it
pub left_is : (blocks : List (List ℕ)) (i : ℕ) (block : List ℕ) → i < length blocks → block ≡ get_or blocks i block
    → numbers_in (drop i blocks) ≡ block ++ numbers_in (drop (i + 1) blocks)
left_is blocks i block within is =
    ap numbers_in (drop-cons blocks i block within)
    ∙ flat_map-cons (λ (b : List ℕ). b) (get_or blocks i block) (drop (suc i) blocks)
    ∙ (λ j. sym is j ++ numbers_in (drop (let next : suc i ≡ i + 1 = omega arith in next j) blocks))

pub none_left : (blocks : List (List ℕ)) (i : ℕ) → length blocks ≤ i → numbers_in (drop i blocks) ≡ []
none_left blocks i ended = ap numbers_in (drop_all i blocks ended)

-- ---- block by block
-- What stands there, and what the numbers that are left become, are all.
pub record IsParted (left gained lost done all : List ℕ) : Type 0 where
  pub left_ascend : Ascends left
  pub gained_ascend : Ascends gained
  pub lost_ascend : Ascends lost
  pub parted : done ++ moved left gained lost ≡ all

pub parted_more : (block left gained lost later_gained later_lost own_gained own_lost done more all : List ℕ) (bound : ℕ)
    → bound ≡ bound_of block
    → own_gained ≡ filter (λ x. nat_lt x bound) gained → later_gained ≡ filter (λ x. not (nat_lt x bound)) gained
    → own_lost ≡ filter (λ x. nat_lt x bound) lost → later_lost ≡ filter (λ x. not (nat_lt x bound)) lost
    → more ≡ done ++ moved block own_gained own_lost
    → IsParted (block ++ left) gained lost done all
    → IsParted left later_gained later_lost more all
parted_more block left gained lost later_gained later_lost own_gained own_lost done more all bound bound_is own_gained_is later_gained_is own_lost_is later_lost_is more_is so_far = record {
  left_ascend = back_ascends block left so_far.left_ascend;
  gained_ascend = subst Ascends (sym later_gained_is) (IsStrictlySortedBy-filter nat_cmp (λ x. not (nat_lt x bound)) gained so_far.gained_ascend);
  lost_ascend = subst Ascends (sym later_lost_is) (IsStrictlySortedBy-filter nat_cmp (λ x. not (nat_lt x bound)) lost so_far.lost_ascend);
  parted =
      (λ i. (more_is ∙ (λ j. done ++ moved block (own_gained_is j) (own_lost_is j))) i ++ moved left (later_gained_is i) (later_lost_is i))
      ∙ append_assoc done (moved block (below bound gained) (below bound lost)) (moved left (from bound gained) (from bound lost))
      ∙ ap (λ xs. done ++ xs) (sym (moved_in_parts bound block left gained lost low high so_far.left_ascend))
      ∙ so_far.parted;
}
  where
    low : AllBelow bound block
    low = subst (λ k. AllBelow k block) (sym bound_is) (all_below block (front_ascends block left so_far.left_ascend))

    high : AllFrom bound left
    high = subst (λ k. AllFrom k left) (sym bound_is) (all_from block left so_far.left_ascend)

pub parted_ended : (gained lost done more all : List ℕ) → more ≡ done ++ gained → IsParted [] gained lost done all → more ≡ all
parted_ended gained lost done more all more_is so_far =
    more_is ∙ ap (λ xs. done ++ xs) (sym (moved_nothing gained lost so_far.gained_ascend)) ∙ so_far.parted

-- ---- the block that has a number, if one has it
-- it isn't one that ends before the number
pub has_behind : (block left : List ℕ) (n : ℕ) → Ascends (block ++ left) → bound_of block ≤ n → has n (block ++ left) ≡ has n left
has_behind block left n ascend low =
    has-append n block left
    ∙ ap (λ b. b || has n left) (not_there (λ x. x < bound_of block) block (all_below block (front_ascends block left ascend)) n (λ less. omega arith))

-- and the first that doesn't is the one
pub has_before : (block left : List ℕ) (n : ℕ) → Ascends (block ++ left) → n < bound_of block → has n (block ++ left) ≡ has n block
has_before block left n ascend high =
    has-append n block left
    ∙ ap (λ b. has n block || b) (not_there (λ x. bound_of block ≤ x) left (all_from block left ascend) n (λ le. omega arith))
    ∙ or_nothing (has n block)

-- ---- a set stays one
all_of : (P : ℕ → Type 0) (xs : List ℕ) → AllByRecursion P xs → All P xs
all_of P [] each = All-nil P
all_of P (x ∷ xs) each = All-cons P x xs each.0 (all_of P xs each.1)

each_of : (P : ℕ → Type 0) (xs : List ℕ) → All P xs → AllByRecursion P xs
each_of P [] all = tt
each_of P (x ∷ xs) all = (all 0 x (omega arith), each_of P xs (λ k d within. all (suc k) d (omega arith)))

pub moved_ids : (ids gained lost : List ℕ) → IsIdSet ids → IsIdSet gained → IsIdSet (moved ids gained lost)
moved_ids ids gained lost own came = record {
  ascends = moved-ascends ids gained lost own.ascends;
  small = all_of (λ id. id < 2 ^ 32) (moved ids gained lost) (all_have (λ id. id < 2 ^ 32) (moved ids gained lost) (λ n there.
      elim (or_cases (not (has n lost) && has n ids) (has n gained) (sym (has-moved n ids gained lost) ∙ there)) [
        | inl stays ↦ has_of_all (λ id. id < 2 ^ 32) ids (each_of (λ id. id < 2 ^ 32) ids own.small) n (and_parts (not (has n lost)) (has n ids) stays).1
        | inr comes ↦ has_of_all (λ id. id < 2 ^ 32) gained (each_of (λ id. id < 2 ^ 32) gained came.small) n comes
      ]));
}
