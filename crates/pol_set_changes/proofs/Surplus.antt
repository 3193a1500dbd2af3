-- How often lists have numbers, and which stand more often in one than in another.
use Rattle.std.proofs.Common.{◌≡◌, ℕ, ◌==◌, false, ◌&&◌, nat_lt, List, [], ◌∷◌, cond, filter, zero-add, refl, sym, ap, subst, ◌∙◌, inl, inr, arith}
use Rattle.std.specs.List.{AllByRecursion}
use Rattle.std.specs.List.Retain.{IsFiltered, DiffersFromLast}
use Rattle.std.specs.List.Sorted.{IsStrictlySortedBy, IsSorted, IsPermutation}
use Rattle.std.specs.Ordering.{nat_cmp, is_lt}
use Rattle.std.specs.declared.cmp.Ordering.TheVariants.{Less}
use Rattle.std.proofs.lemmas.Bool.{cases_Bool, cases_eq, eq-eqb, ne_eqb, le-ltb}
use Rattle.std.proofs.lemmas.Cmp.{nat_cmp_total, tied_itself}
use Rattle.std.proofs.lemmas.List.Kept.{IsSortedBy-filter, IsStrictlySortedBy-filter}
use Rattle.std.proofs.lemmas.List.Sorted.{ranks_by, sum_by-IsPermutation}
use Rattle.pol_data.proofs.Counts.{count_by-cons, count_by-none}
use Rattle.pol_sets.proofs.IdLemmas.{Ascends, and_all, dedup-ascends, dedup-has, has-filter, has-union, has_of_all, nothing_ascends, same_ids, union-ascends}
use Rattle.pol_set_changes.specs.Ids.{has, union}
use Rattle.pol_set_changes.specs.Net.{times, surplus}

-- ---- how often a number stands in a list
pub has-surplus : (id : ℕ) (ids others : List ℕ) → has id (surplus ids others) ≡ nat_lt (times id others) (times id ids)
has-surplus id ids others =
    has-filter (λ own. nat_lt (times own others) (times own ids)) id (union [] ids)
    ∙ ap (λ b. nat_lt (times id others) (times id ids) && b) (has-union id [] ids)
    ∙ elim (cases_Bool (has id ids)) [
      | inl there ↦ rw there (and_all (nat_lt (times id others) (times id ids)))
      | inr none ↦ rw (count_by-none (λ own. own == id) ids none, le-ltb (times id others) 0 (omega arith)) refl
    ]

pub surplus-ascends : (ids others : List ℕ) → Ascends (surplus ids others)
surplus-ascends ids others =
    IsStrictlySortedBy-filter nat_cmp (λ id. nat_lt (times id others) (times id ids)) (union [] ids) (union-ascends [] ids nothing_ascends)

-- the order of the lists doesn't matter
pub surplus-permuted : (ids sorted others others_sorted : List ℕ) → IsPermutation ids sorted → IsPermutation others others_sorted → surplus sorted others_sorted ≡ surplus ids others
surplus-permuted ids sorted others others_sorted moves other_moves =
    same_ids (surplus sorted others_sorted) (surplus ids others) (surplus-ascends sorted others_sorted) (surplus-ascends ids others) (λ id.
    has-surplus id sorted others_sorted
    ∙ (λ i. nat_lt (sum_by-IsPermutation (λ own. cond (own == id) 1 0) others others_sorted other_moves i) (sum_by-IsPermutation (λ own. cond (own == id) 1 0) ids sorted moves i))
    ∙ sym (has-surplus id ids others))

-- a filter of the sorted list and a `dedup` give it
module _ (ids others kept result : List ℕ) (in_order : IsSorted nat_cmp ids) (is : kept ≡ filter (λ id. nat_lt (times id others) (times id ids)) ids) (filtered : IsFiltered (DiffersFromLast (λ a b. a == b)) [] kept result) where
  kept_sorted : IsSorted nat_cmp kept
  kept_sorted =
      rw is (IsSortedBy-filter (λ x y. is_lt (nat_cmp x y)) (ranks_by nat_cmp_total (λ (x : ℕ). x)) (λ id. nat_lt (times id others) (times id ids)) ids in_order)

  pub kept-ascends : Ascends result
  kept-ascends = dedup-ascends kept result kept_sorted filtered

  pub kept-surplus : result ≡ surplus ids others
  kept-surplus =
      same_ids result (surplus ids others) kept-ascends (surplus-ascends ids others) (λ id.
      dedup-has kept result kept_sorted filtered id
      ∙ ap (has id) is
      ∙ has-filter (λ own. nat_lt (times own others) (times own ids)) id ids
      ∙ ap (λ b. nat_lt (times id others) (times id ids) && b) (sym (has-union id [] ids))
      ∙ sym (has-filter (λ own. nat_lt (times own others) (times own ids)) id (union [] ids)))

none_later : (own id : ℕ) (ids : List ℕ) → own ≡ id → AllByRecursion (λ y. nat_cmp own y ≡ Less) ids → has id ids ≡ false
none_later own id ids same above =
    elim (cases_Bool (has id ids)) [
      | inl there ↦ (let less : nat_cmp id id ≡ Less = subst (λ n. nat_cmp n id ≡ Less) same (has_of_all (λ y. nat_cmp own y ≡ Less) ids above id there) in let tied = tied_itself nat_cmp_total id in cc)
      | inr none ↦ none
    ]

-- an ascending list has a number once or not at all
pub times_once : (id : ℕ) (ids : List ℕ) → Ascends ids → times id ids ≡ cond (has id ids) 1 0
unfolding IsStrictlySortedBy
times_once id [] ascend = refl
times_once id (own ∷ ids) ascend =
    count_by-cons (λ own. own == id) own ids
    ∙ elim (cases_eq own id) [
      | inl same ↦ rw (eq-eqb own id same, count_by-none (λ own. own == id) ids (none_later own id ids same ascend.0)) refl
      | inr differs ↦ rw (ne_eqb own id differs) (zero-add (times id ids) ∙ times_once id ids ascend.1)
    ]
