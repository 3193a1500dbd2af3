-- The free places of slots: which come and go, and which is the least.
use Rattle.std.proofs.Common.{zero, suc, ◌≡◌, ℕ, ◌+◌, ◌<◌, ◌≤◌, Bool, true, false, ◌==◌, cond, List, [], ◌∷◌, ◌++◌, length, get_or, set, Option, None, Some, is_some, count_by, refl, sym, ap, ◌∙◌, inl, inr, arith, eqb}
use Rattle.std.specs.Prelude.{is_none}
use Rattle.std.specs.BinaryHeap.{IsHeap, IsUpperBound, lt_by_cmp}
use Rattle.std.specs.List.{AllByRecursion}
use Rattle.std.specs.List.Sorted.{IsPermutation}
use Rattle.std.specs.Ordering.{is_lt}
use Rattle.std.specs.declared.cmp.Ordering.TheVariants.{Less, Equal, Greater}
use Rattle.std.specs.declared.cmp.Reverse.{Reverse}
use Rattle.std.proofs.lemmas.Bool.{eq-eqb, lt-ltb, le-ltb, ne_eqb, both_ways, cases_lt}
use Rattle.std.proofs.lemmas.Bool.Decides.{eqb_tells}
use Rattle.std.proofs.lemmas.Grind.{common_steps}
use Rattle.std.proofs.lemmas.List.{get_or-set_same, get_or-set_other, get_or_past, get_or_append_left, length-set, length_push}
use Rattle.std.proofs.lemmas.List.Sorted.{length_permutation, sum_by-IsPermutation}
use Rattle.std.proofs.lemmas.List.Sums.{sum_by-cons, sum_by-set, sum_by_push}
use Rattle.std.proofs.Math.Seq.{get_or-append_seam}
use Rattle.pol_interner.specs.Slots.{free_place}
use Rattle.pol_interner.specs.Tied.{empty_at, least_first, IsFreeOf}

abbrev is_place : ℕ → Reverse ℕ → Bool
is_place place other = eqb place other.0

-- no place is free below the least on the heap
none_below : (place : ℕ) (free : List (Reverse ℕ)) → AllByRecursion (λ other. place < other.0) free → count_by (is_place place) free ≡ 0
none_below place [] above = refl
none_below place (other ∷ free) above =
    sum_by-cons (λ x. cond (is_place place x) 1 0) other free
    ∙ ap (λ b. cond b 1 0 + count_by (is_place place) free) (ne_eqb place other.0 (omega (arith, above.0)))
    ∙ omega (arith, none_below place free above.1)

orders : (x y : Reverse ℕ) → lt_by_cmp least_first x y ≡ false → x.0 ≤ y.0
orders x y not_less =
    elim (cases_lt y.0 x.0) [
      | inl less ↦ absurd (both_ways (lt_by_cmp least_first x y) not_less (ap (λ b. is_lt (cond b Less (cond (y.0 == x.0) Equal Greater))) (lt-ltb y.0 x.0 less)))
      | inr more ↦ more
    ]

all_above : (k : ℕ) (first : Reverse ℕ) (free : List (Reverse ℕ)) → k < first.0 → IsUpperBound least_first first free → AllByRecursion (λ other. k < other.0) free
all_above k first [] less bound = tt
all_above k first (other ∷ free) less bound = (omega (arith, less, orders first other bound.0), all_above k first free less bound.1)

module _ {X : Type 0} where
  -- a place past the end is not empty
  empty_at-past : (slots : List (Option X)) (place : ℕ) → length slots ≤ place → empty_at slots place ≡ false
  empty_at-past slots place past = rw (le-ltb place (length slots) past)

  -- one below the end is empty where it has no value
  empty_at-within : (slots : List (Option X)) (place : ℕ) → place < length slots → empty_at slots place ≡ is_none (get_or slots place None)
  empty_at-within slots place within = rw (lt-ltb place (length slots) within)

  -- a value at the end is at no empty place
  empty_at-push : (slots : List (Option X)) (value : X) (place : ℕ) → empty_at (slots ++ Some value ∷ []) place ≡ empty_at slots place
  empty_at-push slots value place = grind (arith, common_steps, empty_at-past, empty_at-within, get_or_append_left, get_or-append_seam, length_push)

  -- a write changes this of no other place
  empty_at-set : (slots : List (Option X)) (at place : ℕ) (slot : Option X) → at < length slots → empty_at (set slots at slot) place ≡ cond (eqb place at) (is_none slot) (empty_at slots place)
  empty_at-set slots at place slot within =
      elim (eqb_tells place at) [
        | inl same ↦ rw (same.1, eq-eqb at at refl, length-set, lt-ltb at (length slots) within, get_or-set_same slots at slot None within)
        | inr differs ↦ rw (length-set, get_or-set_other slots at place slot None differs.1, differs.0)
      ]

  -- an empty place lies below the end, and has no value
  pub empty_within : (slots : List (Option X)) (place : ℕ) → empty_at slots place ≡ true → place < length slots
  empty_within slots place empty = grind (arith, empty_at-past)

  pub empty_is_none : (slots : List (Option X)) (place : ℕ) → empty_at slots place ≡ true → get_or slots place None ≡ None
  empty_is_none slots place empty = grind (arith, empty_at-past, empty_at-within)

  -- a taken place lies below the end, and isn't empty
  pub taken_within : (slots : List (Option X)) (place : ℕ) (value : X) → get_or slots place None ≡ Some value → place < length slots
  taken_within slots place value taken = grind (arith, get_or_past)

  taken_not_empty : (slots : List (Option X)) (place : ℕ) (value : X) → get_or slots place None ≡ Some value → empty_at slots place ≡ false
  taken_not_empty slots place value taken = empty_at-within slots place (taken_within slots place value taken) ∙ ap is_none taken

  not_none : (slots : List (Option X)) (k : ℕ) → k < length slots → empty_at slots k ≡ false → is_none (get_or slots k None) ≡ false
  not_none slots k within used = sym (empty_at-within slots k within) ∙ used

  -- what is on the heap is empty
  first_is_empty : (slots : List (Option X)) (first : Reverse ℕ) (rest : List (Reverse ℕ)) → count_by (is_place first.0) (first ∷ rest) ≡ cond (empty_at slots first.0) 1 0 → empty_at slots first.0 ≡ true
  first_is_empty slots first rest once =
      let counted = sum_by-cons (λ x. cond (is_place first.0 x) 1 0) first rest in
      let same = eq-eqb first.0 first.0 refl in
      grind arith

  pub popped_is_empty : (slots : List (Option X)) (free rest : List (Reverse ℕ)) (first : Reverse ℕ) → IsFreeOf free slots → IsPermutation free (first ∷ rest) → empty_at slots first.0 ≡ true
  popped_is_empty slots free rest first is perm =
      first_is_empty slots first rest (sum_by-IsPermutation (λ x. cond (is_place first.0 x) 1 0) free (first ∷ rest) perm ∙ is.once first.0)

  -- a free place is taken
  pub IsFreeOf-popped : (slots : List (Option X)) (free rest : List (Reverse ℕ)) (first : Reverse ℕ) (value : X) → IsFreeOf free slots → IsPermutation free (first ∷ rest) → IsHeap least_first rest → IsFreeOf rest (set slots first.0 (Some value))
  IsFreeOf-popped slots free rest first value is perm heap =
      let empty = popped_is_empty slots free rest first is perm in
      let within = empty_within slots first.0 empty in
      let none = empty_is_none slots first.0 empty in
      let long = length_permutation free (first ∷ rest) perm in
      let counted = is.counted in
      record {
        heap = heap;
        once = λ place. once_less place empty within (sum_by-IsPermutation (λ x. cond (is_place place x) 1 0) free (first ∷ rest) perm ∙ is.once place);
        counted =
            let more = rw none at (sum_by-set (λ o. cond (is_some o) 1 0) slots first.0 (Some value) None within) in
            let same = length-set slots first.0 (Some value) in
            omega arith;
      }
    where
      once_less : (place : ℕ) → empty_at slots first.0 ≡ true → first.0 < length slots → count_by (is_place place) (first ∷ rest) ≡ cond (empty_at slots place) 1 0 → count_by (is_place place) rest ≡ cond (empty_at (set slots first.0 (Some value)) place) 1 0
      once_less place empty within once =
          let counted = sum_by-cons (λ x. cond (is_place place x) 1 0) first rest in
          let written = empty_at-set slots first.0 place (Some value) within in
          grind (arith, eqb_tells)

  -- a new place is taken, where none is free
  pub IsFreeOf-grown : (slots : List (Option X)) (value : X) → IsFreeOf [] slots → IsFreeOf [] (slots ++ Some value ∷ [])
  IsFreeOf-grown slots value is =
      let pushed = sum_by_push (λ o. cond (is_some o) 1 0) slots (Some value) in
      let longer = length_push slots (Some value) in
      let counted = is.counted in
      record {
        heap = is.heap;
        once = λ place. rw (empty_at-push slots value place) (is.once place);
        counted = omega arith;
      }

  -- a place is given back
  pub IsFreeOf-pushed : (slots : List (Option X)) (free more : List (Reverse ℕ)) (first : Reverse ℕ) (value : X) → IsFreeOf free slots → get_or slots first.0 None ≡ Some value → IsPermutation (first ∷ free) more → IsHeap least_first more → IsFreeOf more (set slots first.0 None)
  IsFreeOf-pushed slots free more first value is taken perm heap =
      let within = taken_within slots first.0 value taken in
      let used = taken_not_empty slots first.0 value taken in
      let long = length_permutation (first ∷ free) more perm in
      let counted = is.counted in
      record {
        heap = heap;
        once = λ place. sum_by-IsPermutation (λ x. cond (is_place place x) 1 0) (first ∷ free) more perm ∙ once_more place used within (is.once place);
        counted =
            let less = rw taken at (sum_by-set (λ o. cond (is_some o) 1 0) slots first.0 None None within) in
            let same = length-set slots first.0 None in
            omega arith;
      }
    where
      once_more : (place : ℕ) → empty_at slots first.0 ≡ false → first.0 < length slots → count_by (is_place place) free ≡ cond (empty_at slots place) 1 0 → count_by (is_place place) (first ∷ free) ≡ cond (empty_at (set slots first.0 None) place) 1 0
      once_more place used within once =
          let counted = sum_by-cons (λ x. cond (is_place place x) 1 0) first free in
          let written = empty_at-set slots first.0 place None within in
          grind (arith, eqb_tells)

  -- a taken place gets another value
  pub IsFreeOf-kept : (slots : List (Option X)) (free : List (Reverse ℕ)) (at : ℕ) (value other : X) → IsFreeOf free slots → get_or slots at None ≡ Some value → IsFreeOf free (set slots at (Some other))
  IsFreeOf-kept slots free at value other is taken =
      let within = taken_within slots at value taken in
      let used = taken_not_empty slots at value taken in
      let counted = is.counted in
      record {
        heap = is.heap;
        once = λ place. is.once place ∙ ap (λ b. cond b 1 0) (same place within used);
        counted =
            let kept = rw taken at (sum_by-set (λ o. cond (is_some o) 1 0) slots at (Some other) None within) in
            let long = length-set slots at (Some other) in
            omega arith;
      }
    where
      same : (place : ℕ) → at < length slots → empty_at slots at ≡ false → empty_at slots place ≡ empty_at (set slots at (Some other)) place
      same place within used =
          let written = empty_at-set slots at place (Some other) within in
          grind (arith, eqb_tells)

  -- there are fewer free places than places, where one is taken
  pub free-few : (slots : List (Option X)) (free : List (Reverse ℕ)) (place : ℕ) (value : X) → IsFreeOf free slots → get_or slots place None ≡ Some value → length free < length slots
  free-few slots free place value is taken =
      let within = taken_within slots place value taken in
      let gone = rw taken at (sum_by-set (λ o. cond (is_some o) 1 0) slots place None None within) in
      let counted = is.counted in
      omega arith

  -- the least free place, from what is known of the places
  pub free_place-at : (slots : List (Option X)) (place : ℕ) → place < length slots → get_or slots place None ≡ None → ((k : ℕ) → k < place → is_none (get_or slots k None) ≡ false) → free_place slots ≡ place
  free_place-at [] place within none taken = absurd (omega (arith, within))
  free_place-at (None ∷ slots) zero within none taken = refl
  free_place-at (None ∷ slots) (suc place) within none taken = absurd (let wrong : true ≡ false = taken 0 (omega arith) in cc)
  free_place-at (Some held ∷ slots) zero within none taken = absurd cc
  free_place-at (Some held ∷ slots) (suc place) within none taken =
      omega (arith, free_place-at slots place (omega (arith, within)) none (λ k less. taken (suc k) (omega (arith, less))))

  pub free_place-end : (slots : List (Option X)) → ((k : ℕ) → k < length slots → is_none (get_or slots k None) ≡ false) → free_place slots ≡ length slots
  free_place-end [] taken = refl
  free_place-end (None ∷ slots) taken = absurd (let wrong : true ≡ false = taken 0 (omega arith) in cc)
  free_place-end (Some held ∷ slots) taken = omega (arith, free_place-end slots (λ k less. taken (suc k) (omega (arith, less))))

  pub free_place-le : (slots : List (Option X)) → free_place slots ≤ length slots
  free_place-le [] = omega arith
  free_place-le (None ∷ slots) = omega arith
  free_place-le (Some held ∷ slots) = omega (arith, free_place-le slots)

  none_on : (slots : List (Option X)) (free : List (Reverse ℕ)) (k : ℕ) → IsFreeOf free slots → count_by (is_place k) free ≡ 0 → empty_at slots k ≡ false
  none_on slots free k is none = let once = is.once k in grind arith

  -- it is the first on the heap
  pub least_on_heap : (slots : List (Option X)) (first : Reverse ℕ) (free : List (Reverse ℕ)) → IsFreeOf free slots → IsUpperBound least_first first free → empty_at slots first.0 ≡ true → free_place slots ≡ first.0
  least_on_heap slots first free is bound empty =
      let within = empty_within slots first.0 empty in
      free_place-at slots first.0 within (empty_is_none slots first.0 empty)
      (λ k less. not_none slots k (omega (arith, within, less)) (none_on slots free k is (none_below k free (all_above k first free less bound))))

  -- none is on it
  pub least_at_end : (slots : List (Option X)) (free : List (Reverse ℕ)) → IsFreeOf free slots → (0 < length free → ⊥) → free_place slots ≡ length slots
  least_at_end slots [] is nothing = free_place-end slots (λ k less. not_none slots k less (none_on slots [] k is refl))
  least_at_end slots (other ∷ free) is nothing = absurd (nothing (omega arith))

  -- what is peeked at is on the heap
  pub peeked_is_empty : (slots : List (Option X)) (first : Reverse ℕ) (free : List (Reverse ℕ)) → IsFreeOf free slots → 0 < length free → first ≡ get_or free 0 first → empty_at slots first.0 ≡ true
  peeked_is_empty slots first [] is some at = absurd (omega (arith, some))
  peeked_is_empty slots first (other ∷ free) is some at =
      let there = first_is_empty slots other free (is.once other.0) in
      rw at there
