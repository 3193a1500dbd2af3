-- Sorted numbers, each once.
use Rattle.std.proofs.Common.{◌≡◌, ℕ, eqb, List, sym, subst}
use Rattle.std.specs.Cmp.{unsigned_ties}
use Rattle.std.specs.List.{Contains, dedup}
use Rattle.std.specs.List.Sorted.{IsPermutation, IsSorted, IsStrictlySortedBy}
use Rattle.std.specs.Ordering.{nat_cmp}
use Rattle.std.proofs.lemmas.Cmp.{nat_cmp_total}
use Rattle.std.proofs.lemmas.List.Kept.{Contains-dedup_nat, Contains-from_dedup, IsStrictlySortedBy-dedup}
use Rattle.std.proofs.lemmas.List.Sorted.{Contains-permutation, IsPermutation-sym}
use Rattle.pol_entry_tally.specs.Affected.{Has}

module _ (given sorted last : List ℕ) (moved : IsPermutation given sorted) (up : IsSorted nat_cmp sorted) (is : last ≡ dedup eqb sorted) where
  pub once_ascends : IsStrictlySortedBy nat_cmp last
  once_ascends = subst (IsStrictlySortedBy nat_cmp) (sym is) (IsStrictlySortedBy-dedup nat_cmp_total unsigned_ties sorted up)

  pub once_all : Has given last
  once_all n there = subst (λ l. Contains l n) (sym is) (Contains-dedup_nat sorted n (Contains-permutation given sorted n moved there))

  pub once_no_more : Has last given
  once_no_more n there = Contains-permutation sorted given n (IsPermutation-sym given sorted moved) (Contains-from_dedup eqb sorted n (subst (λ l. Contains l n) is there))
