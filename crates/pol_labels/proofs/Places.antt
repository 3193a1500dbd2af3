-- Facts on source and key: the order by them, two labels that share them, and the set of some labels.
use Rattle.std.proofs.Common.{◌≡◌, ℕ, zero, suc, ◌+◌, ◌<◌, ◌≤◌, List, [], ◌∷◌, length, get_or, ◌⊎◌, inl, inr, refl, sym, ◌∙◌, ap, subst, arith, Bool, true, false, cond, ◌||◌, ◌&&◌, add-one}
use Rattle.std.specs.Prelude.{Some, count_by}
use Rattle.std.specs.List.{AllByRecursion, list_any}
use Rattle.std.specs.List.Sorted.{IsStrictlySortedBy, IsPermutation, IsSorted}
use Rattle.std.specs.declared.cmp.Ordering.{Ordering}
use Rattle.std.specs.declared.cmp.Ordering.TheVariants.{Less, Equal, Greater}
use Rattle.std.specs.Ordering.{ordering_reverse, ordering_then, is_eq, is_lt, nat_cmp}
use Rattle.std.specs.Cmp.{IsTotalOrder, IsEquivalence, both_ways}
use Rattle.std.specs.Cmp.Lexicographic.{slice_cmp, nat_list_eq_equiv}
use Rattle.std.proofs.lemmas.Cmp.{then_total, on_total, nat_list_cmp_total, and_equiv, on_equiv}
use Rattle.std.proofs.lemmas.Bool.{or_parts, or_right}
use Rattle.std.proofs.lemmas.Map.Text.{is_eq-slice_cmp}
use Rattle.std.proofs.lemmas.List.Folds.{list_any_at}
use Rattle.std.proofs.lemmas.Map.Steps.{list_any_congr}
use Rattle.std.proofs.lemmas.List.Sorted.{sum_by-IsPermutation, Contains-permutation, IsPermutation-sym}
use Rattle.pol_labels.specs.declared.label.Label.{Label}
use Rattle.pol_labels.specs.Order.{label_order, place_order, IsLabelSet, same_place, has_duplicate_key, put_in_order, in_order, label_set_of}
use Rattle.pol_data.proofs.Members.{In, In-from_Contains, Contains-from_In, every-in, every-from_in, list_any-none_in}
use Rattle.pol_data.proofs.Ascending.{same_members}
use Rattle.pol_data.proofs.Counts.{count_by-cons, count_by-none, count_by-some}

pub place_order-total : IsTotalOrder place_order
place_order-total = then_total (on_total (λ (label : Label). label.source) nat_list_cmp_total) (on_total (λ (label : Label). label.key) nat_list_cmp_total)

pub same_place-equivalence : IsEquivalence same_place
same_place-equivalence = and_equiv (on_equiv (λ (label : Label). label.source) nat_list_eq_equiv) (on_equiv (λ (label : Label). label.key) nat_list_eq_equiv)

is_eq-ordering_then : (a b : Ordering) → is_eq (ordering_then a b) ≡ (is_eq a && is_eq b)
is_eq-ordering_then Less b = refl
is_eq-ordering_then Equal b = refl
is_eq-ordering_then Greater b = refl

-- the order ties exactly the labels of one source and key
pub is_eq-place_order : (a b : Label) → is_eq (place_order a b) ≡ same_place a b
is_eq-place_order a b =
    is_eq-ordering_then _ _ ∙ (λ i. is_eq-slice_cmp a.source b.source i && is_eq-slice_cmp a.key b.key i)

-- two labels of different places, of which the first isn't above the second
pub below_from_not_above : (a b : Label) → is_lt (place_order b a) ≡ false → same_place a b ≡ false → place_order a b ≡ Less
below_from_not_above a b not_above apart =
    by_cases (place_order a b) (place_order b a) (place_order-total.antisymm b a) (is_eq-place_order a b ∙ apart) not_above
  where
    by_cases : (r s : Ordering) → s ≡ ordering_reverse r → is_eq r ≡ false → is_lt s ≡ false → r ≡ Less
    by_cases Less s back apart not_above = refl
    by_cases Equal s back apart not_above = cc
    by_cases Greater s back apart not_above = let e : true ≡ false = ap is_lt (sym back) ∙ not_above in cc

-- a label below another has another place
pub apart_from_below : (a b : Label) → place_order a b ≡ Less → same_place a b ≡ false
apart_from_below a b below = sym (is_eq-place_order a b) ∙ ap is_eq below

not_above_by_place : (a b : Label) → is_lt (label_order a b) ≡ false → is_lt (place_order a b) ≡ false
not_above_by_place a b =
    by_cases (slice_cmp nat_cmp a.source b.source) (slice_cmp nat_cmp a.key b.key) (slice_cmp nat_cmp a.value b.value)
  where
    by_cases : (source key value : Ordering) → is_lt (ordering_then source (ordering_then key value)) ≡ false → is_lt (ordering_then source key) ≡ false
    by_cases Less key value not_above = not_above
    by_cases Equal Less value not_above = not_above
    by_cases Equal Equal value not_above = refl
    by_cases Equal Greater value not_above = refl
    by_cases Greater key value not_above = refl

-- a list whose neighbours ascend is a set
IsLabelSet-from_neighbours : (xs : List Label) → ((k : ℕ) (d : Label) → suc k < length xs → place_order (get_or xs k d) (get_or xs (suc k) d) ≡ Less) → IsLabelSet xs
unfolding IsStrictlySortedBy
IsLabelSet-from_neighbours [] ascends = tt
IsLabelSet-from_neighbours (x ∷ xs) ascends =
    let rest : IsLabelSet xs = IsLabelSet-from_neighbours xs (λ k d below. ascends (suc k) d (omega arith)) in
    (head xs rest (λ d below. ascends zero d below), rest)
  where
    head : (ys : List Label) → IsLabelSet ys → ((d : Label) → 1 < length (x ∷ ys) → place_order x (get_or ys zero d) ≡ Less) → AllByRecursion (λ y. place_order x y ≡ Less) ys
    head [] sorted first = tt
    head (y ∷ ys) sorted first =
        let above : place_order x y ≡ Less = first y (omega arith) in
        (above, every-from_in _ ys (λ z there. place_order-total.trans x y z above (every-in _ ys sorted.0 z there)))

-- a sorted list whose neighbours have different places is a set
pub IsLabelSet-sorted : (cmp : Label → Label → Ordering) → ((a b : Label) → cmp a b ≡ label_order a b) → (xs : List Label) → IsSorted cmp xs
    → ((k : ℕ) (d : Label) → k + 1 < length xs → same_place (get_or xs k d) (get_or xs (k + 1) d) ≡ false) → IsLabelSet xs
IsLabelSet-sorted cmp is xs sorted apart =
    IsLabelSet-from_neighbours xs (λ k d below.
    below_from_not_above (get_or xs k d) (get_or xs (suc k) d)
    (not_above_by_place (get_or xs (suc k) d) (get_or xs k d)
    (sym (ap is_lt (is _ _)) ∙ (ap (λ j. is_lt (cmp (get_or xs j d) (get_or xs k d))) (sym (add-one k)) ∙ sorted k d (omega arith) (omega arith))))
    (ap (λ j. same_place (get_or xs k d) (get_or xs j d)) (sym (add-one k)) ∙ apart k d (omega arith)))

-- ---- labels that share source and key

-- without such labels each place has at most one label
at_most_one : (xs : List Label) → has_duplicate_key xs ≡ false → (place : Label) → count_by (same_place place) xs ≤ 1
at_most_one [] none place = omega arith
at_most_one (x ∷ xs) none place =
    let others : list_any (same_place x) xs ≡ false = (or_parts _ (has_duplicate_key xs) none).0 in
    let rest = at_most_one xs ((or_parts (list_any (same_place x) xs) _ none).1) place in
    subst (λ n. n ≤ 1) (sym (count_by-cons (same_place place) x xs))
    (elim (same_place place x) as (λ b. same_place place x ≡ b → cond b 1 0 + count_by (same_place place) xs ≤ 1) [
      | true ↦ λ here.
          let none_here : list_any (same_place place) xs ≡ false = list_any_congr same_place-equivalence place x xs here ∙ others in
          let no_more = count_by-none (same_place place) xs none_here in
          omega (arith, no_more)
      | false ↦ λ _. omega (arith, rest)
    ] refl)

-- with such labels some place has two
two_counted : (xs : List Label) → has_duplicate_key xs ≡ true → (place : Label) × (2 ≤ count_by (same_place place) xs)
two_counted [] some = cc
two_counted (x ∷ xs) some =
    elim (list_any (same_place x) xs) as (λ b. list_any (same_place x) xs ≡ b → (b || has_duplicate_key xs) ≡ true → (place : Label) × (2 ≤ count_by (same_place place) (x ∷ xs))) [
      | true ↦ λ again _.
          let more : 1 ≤ count_by (same_place x) xs = count_by-some (same_place x) xs again in
          let one : ℕ = 1 in
          let itself : cond (same_place x x) 1 0 ≡ one = ap (λ b. cond b 1 0) (same_place-equivalence.refl x) in
          let all = count_by-cons (same_place x) x xs in
          (x, omega (arith, more, itself, all))
      | false ↦ λ _ later.
          let found = two_counted xs later in
          let all = count_by-cons (same_place found.0) x xs in
          (found.0, omega (arith, found.1, all))
    ] refl some

pub has_duplicate_key-IsPermutation : (xs ys : List Label) → IsPermutation xs ys → has_duplicate_key xs ≡ has_duplicate_key ys
has_duplicate_key-IsPermutation xs ys moved = both_ways _ _ (to xs ys moved) (to ys xs (IsPermutation-sym xs ys moved))
  where
    to : (xs ys : List Label) → IsPermutation xs ys → has_duplicate_key xs ≡ true → has_duplicate_key ys ≡ true
    to xs ys moved some =
        elim (has_duplicate_key ys) as (λ b. has_duplicate_key ys ≡ b → b ≡ true) [
          | true ↦ λ _. refl
          | false ↦ λ none.
              let two = two_counted xs some in
              let one = at_most_one ys none two.0 in
              let same = sum_by-IsPermutation (λ label. cond (same_place two.0 label) 1 0) xs ys moved in
              absurd (omega (arith, two.1, one, same))
        ] refl

-- a set has none
pub IsLabelSet-no_duplicate : (xs : List Label) → IsLabelSet xs → has_duplicate_key xs ≡ false
unfolding IsStrictlySortedBy
IsLabelSet-no_duplicate [] sorted = refl
IsLabelSet-no_duplicate (x ∷ xs) sorted =
    rw (none_after xs sorted.0, IsLabelSet-no_duplicate xs sorted.1) refl
  where
    none_after : (ys : List Label) → AllByRecursion (λ y. place_order x y ≡ Less) ys → list_any (same_place x) ys ≡ false
    none_after [] above = refl
    none_after (y ∷ ys) above = rw (apart_from_below x y above.0, none_after ys above.1) refl

-- two labels of the list that share source and key are found
pub has_duplicate_key-at : (xs : List Label) (i j : ℕ) (d : Label) → i < j → j < length xs
    → same_place (get_or xs i d) (get_or xs j d) ≡ true → has_duplicate_key xs ≡ true
has_duplicate_key-at [] i j d ordered below same = absurd (omega arith)
has_duplicate_key-at (x ∷ xs) i zero d ordered below same = absurd (omega arith)
has_duplicate_key-at (x ∷ xs) zero (suc j) d ordered below same =
    ap (λ b. b || has_duplicate_key xs) (list_any_at (same_place x) xs j d (omega arith) same)
has_duplicate_key-at (x ∷ xs) (suc i) (suc j) d ordered below same =
    ap (λ b. list_any (same_place x) xs || b) (has_duplicate_key-at xs i j d (omega arith) (omega arith) same) ∙ or_right _ true refl

-- ---- the labels in order

cond_in : {X : Type 0} (z : X) (b : Bool) (xs ys : List X) → In z (cond b xs ys) → In z xs ⊎ In z ys
cond_in z true xs ys there = inl there
cond_in z false xs ys there = inr there

in_put_order : (z new : Label) (xs : List Label) → In z (put_in_order new xs) → (new ≡ z) ⊎ In z xs
in_put_order z new [] there = there
in_put_order z new (x ∷ xs) there = by_cases (in_put_order z new xs) (cond_in z (is_lt (place_order x new)) _ _ there)
  where
    after : (new ≡ z) ⊎ In z xs → (new ≡ z) ⊎ In z (x ∷ xs)
    after (inl same) = inl same
    after (inr rest) = inr (inr rest)

    by_cases : (In z (put_in_order new xs) → (new ≡ z) ⊎ In z xs) → In z (x ∷ put_in_order new xs) ⊎ In z (new ∷ x ∷ xs) → (new ≡ z) ⊎ In z (x ∷ xs)
    by_cases later (inl (inl first)) = inr (inl first)
    by_cases later (inl (inr rest)) = after (later rest)
    by_cases later (inr here) = here

put_in_order-in : (z new : Label) (xs : List Label) → (new ≡ z) ⊎ In z xs → In z (put_in_order new xs)
put_in_order-in z new [] there = there
put_in_order-in z new (x ∷ xs) there =
    elim (is_lt (place_order x new)) as (λ b. In z (cond b (x ∷ put_in_order new xs) (new ∷ x ∷ xs))) [
      | true ↦ by_cases (put_in_order-in z new xs) there
      | false ↦ there
    ]
  where
    by_cases : ((new ≡ z) ⊎ In z xs → In z (put_in_order new xs)) → (new ≡ z) ⊎ In z (x ∷ xs) → In z (x ∷ put_in_order new xs)
    by_cases later (inl same) = inr (later (inl same))
    by_cases later (inr (inl first)) = inl first
    by_cases later (inr (inr rest)) = inr (later (inr rest))

pub in_order-in : (z : Label) (xs : List Label) → In z xs → In z (in_order xs)
in_order-in z [] there = there
in_order-in z (x ∷ xs) (inl first) = put_in_order-in z x (in_order xs) (inl first)
in_order-in z (x ∷ xs) (inr later) = put_in_order-in z x (in_order xs) (inr (in_order-in z xs later))

pub in_in_order : (z : Label) (xs : List Label) → In z (in_order xs) → In z xs
in_in_order z [] there = there
in_in_order z (x ∷ xs) there = by_cases (in_in_order z xs) (in_put_order z x (in_order xs) there)
  where
    by_cases : (In z (in_order xs) → In z xs) → (x ≡ z) ⊎ In z (in_order xs) → In z (x ∷ xs)
    by_cases later (inl same) = inl same
    by_cases later (inr rest) = inr (later rest)

-- a label of a new place, put in order into a set, gives a set
IsLabelSet-put_in_order : (new : Label) (xs : List Label) → IsLabelSet xs → ((z : Label) → In z xs → same_place new z ≡ false) → IsLabelSet (put_in_order new xs)
unfolding IsStrictlySortedBy
IsLabelSet-put_in_order new [] sorted apart = (tt, tt)
IsLabelSet-put_in_order new (x ∷ xs) sorted apart =
    elim (is_lt (place_order x new)) as (λ b. is_lt (place_order x new) ≡ b → IsLabelSet (cond b (x ∷ put_in_order new xs) (new ∷ x ∷ xs))) [
      | true ↦ λ below. (
        every-from_in _ (put_in_order new xs) (λ z there. above (less (place_order x new) below) z (in_put_order z new xs there)),
        IsLabelSet-put_in_order new xs sorted.1 (λ z there. apart z (inr there)),
      )
      | false ↦ λ not_above.
          let first : place_order new x ≡ Less = below_from_not_above new x not_above (apart x (inl refl)) in (
            (first, every-from_in _ xs (λ z there. place_order-total.trans new x z first (every-in _ xs sorted.0 z there))),
            sorted,
          )
    ] refl
  where
    less : (r : Ordering) → is_lt r ≡ true → r ≡ Less
    less Less is = refl
    less Equal is = cc
    less Greater is = cc

    above : place_order x new ≡ Less → (z : Label) → (new ≡ z) ⊎ In z xs → place_order x z ≡ Less
    above below z (inl same) = subst (λ w. place_order x w ≡ Less) same below
    above below z (inr there) = every-in _ xs sorted.0 z there

pub IsLabelSet-in_order : (xs : List Label) → has_duplicate_key xs ≡ false → IsLabelSet (in_order xs)
unfolding IsStrictlySortedBy
IsLabelSet-in_order [] none = tt
IsLabelSet-in_order (x ∷ xs) none =
    IsLabelSet-put_in_order x (in_order xs)
    (IsLabelSet-in_order xs ((or_parts (list_any (same_place x) xs) _ none).1))
    (λ z there. list_any-none_in (same_place x) xs ((or_parts _ (has_duplicate_key xs) none).0) z (in_in_order z xs there))

-- a set with the same labels is the labels in order
pub label_set_of-IsPermutation : (xs ys : List Label) → IsPermutation xs ys → IsLabelSet ys → label_set_of xs ≡ Some ys
label_set_of-IsPermutation xs ys moved sorted =
    let none : has_duplicate_key xs ≡ false = has_duplicate_key-IsPermutation xs ys moved ∙ IsLabelSet-no_duplicate ys sorted in
    let same : in_order xs ≡ ys = same_members place_order-total (in_order xs) ys (IsLabelSet-in_order xs none) sorted
    (λ z there. In-from_Contains ys z (Contains-permutation xs ys z moved (Contains-from_In xs z (in_in_order z xs there))))
    (λ z there. in_order-in z xs (In-from_Contains xs z (Contains-permutation ys xs z (IsPermutation-sym xs ys moved) (Contains-from_In ys z there)))) in
    rw (none, same) refl
