-- How many elements of a list pass a test.
use Rattle.std.proofs.Common.{◌≡◌, ℕ, zero, suc, ◌+◌, ◌<◌, ◌≤◌, ◌==◌, Bool, true, false, cond, nat_lt, count_by, List, [], ◌∷◌, length, slice_index_or, refl, ◌∙◌, inl, inr, arith}
use Rattle.std.specs.List.Sorted.{IsPartitionPoint}
use Rattle.std.proofs.lemmas.Bool.{cases_eq, cases_lt, eq-eqb, ne_eqb, lt-ltb, le-ltb}
use Rattle.pol_data.proofs.Counts.{count_by-cons}
use Rattle.pol_set_changes.specs.Net.{times}

module _ {X : Type 0} (p : X → Bool) where
  count_nothing : (xs : List X) → ((k : ℕ) (d : X) → k < length xs → p (slice_index_or xs k d) ≡ false) → count_by p xs ≡ 0
  count_nothing [] none = refl
  count_nothing (x ∷ xs) none =
      count_by-cons p x xs ∙ rw (none 0 x (omega arith)) (omega (arith, count_nothing xs (λ k d below. none (suc k) d (omega arith))))

  -- where the first so many pass and the rest fail, so many pass
  pub count_to_point : (xs : List X) (i : ℕ) → i ≤ length xs → IsPartitionPoint (λ x. p x ≡ true) (λ x. p x ≡ false) xs i → count_by p xs ≡ i
  count_to_point xs zero within point = count_nothing xs (λ k d below. point.1 k d (omega arith) below)
  count_to_point [] (suc i) within point = absurd (omega arith)
  count_to_point (x ∷ xs) (suc i) within point =
      count_by-cons p x xs
      ∙ rw (point.0 0 x (omega arith) (omega arith))
      (omega (arith, count_to_point xs i (omega arith) (λ k d low below. point.0 (suc k) d (omega arith) (omega arith), λ k d low below. point.1 (suc k) d (omega arith) (omega arith))))

-- as many are below the next number as are below this one, and are this one
one_more : (own id : ℕ) → cond (nat_lt own (id + 1)) 1 0 ≡ cond (nat_lt own id) 1 0 + cond (own == id) 1 0
one_more own id =
    elim (cases_lt own id) [
      | inl below ↦ rw (lt-ltb own id below, lt-ltb own (id + 1) (omega arith), ne_eqb own id (λ same. (let is : own ≡ id = same in omega arith))) refl
      | inr above ↦ elim (cases_eq own id) [
        | inl same ↦ rw (le-ltb own id above, lt-ltb own (id + 1) (omega arith), eq-eqb own id same) refl
        | inr differs ↦ rw (le-ltb own id above, le-ltb own (id + 1) (omega arith), ne_eqb own id differs) refl
      ]
    ]

sums : (a b c x y z : ℕ) → a ≡ b + c → x ≡ y + z → a + x ≡ (b + y) + (c + z)
sums a b c x y z one other = omega arith

pub below_next : (id : ℕ) (ids : List ℕ) → count_by (λ own. nat_lt own (id + 1)) ids ≡ count_by (λ own. nat_lt own id) ids + times id ids
below_next id [] = refl
below_next id (own ∷ ids) =
    rw (count_by-cons (λ n. nat_lt n (id + 1)) own ids, count_by-cons (λ n. nat_lt n id) own ids, count_by-cons (λ n. n == id) own ids)
    (sums (cond (nat_lt own (id + 1)) 1 0) (cond (nat_lt own id) 1 0) (cond (own == id) 1 0) (count_by (λ n. nat_lt n (id + 1)) ids) (count_by (λ n. nat_lt n id) ids) (times id ids) (one_more own id) (below_next id ids))
