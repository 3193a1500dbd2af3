-- Rows that a sort by name and then revision gives ascend.
use Rattle.std.proofs.Common.{suc, ◌≡◌, ◌+◌, Bool, true, false, List, [], ◌∷◌, get_or, ap, subst, arith}
use Rattle.std.specs.Cmp.{IsTotalOrder, IsStrictWeakOrder}
use Rattle.std.specs.Cmp.Lexicographic.{slice_cmp, nat_list_cmp_total}
use Rattle.std.specs.List.Sorted.{IsSortedBy}
use Rattle.std.specs.Ordering.{nat_cmp, ordering_then, ordering_reverse, is_le, is_lt}
use Rattle.std.specs.declared.cmp.Ordering.{Ordering}
use Rattle.std.specs.declared.cmp.Ordering.TheVariants.{Less, Equal, Greater}
use Rattle.std.proofs.lemmas.Cmp.{nat_cmp_total, on_total, then_total}
use Rattle.std.proofs.lemmas.List.Sorted.{ranks_by}
use Rattle.pol_model.specs.declared.answer.FullSlot.{FullSlot}
use Rattle.pol_model.specs.FullRows.{FullRowsAscend, full_row_le}

abbrev pub by_name_and_revision : FullSlot → FullSlot → Ordering
by_name_and_revision a b = ordering_then (slice_cmp nat_cmp a.name b.name) (nat_cmp a.revision b.revision)

abbrev pub comes_before : FullSlot → FullSlot → Bool
comes_before a b = is_lt (by_name_and_revision a b)

rows_total : IsTotalOrder by_name_and_revision
rows_total = then_total (on_total (λ (row : FullSlot). row.name) nat_list_cmp_total) (on_total (λ (row : FullSlot). row.revision) nat_cmp_total)

pub rows_ranked : IsStrictWeakOrder comes_before
rows_ranked = ranks_by rows_total (λ (row : FullSlot). row)

at_most : (there back : Ordering) → there ≡ ordering_reverse back → is_lt back ≡ false → is_le there ≡ true
at_most there Less turned later = cc
at_most there Equal turned later = ap is_le turned
at_most there Greater turned later = ap is_le turned

follows : (a b : FullSlot) → comes_before b a ≡ false → full_row_le a b ≡ true
follows a b later = at_most (by_name_and_revision a b) (by_name_and_revision b a) (rows_total.antisymm a b) later

pub rows_ascend : (rows : List FullSlot) → IsSortedBy comes_before rows → FullRowsAscend rows
rows_ascend [] sorted = tt
rows_ascend (row ∷ []) sorted = tt
rows_ascend (row ∷ next ∷ rows) sorted = (
  follows row next (sorted 0 row (omega arith) (omega arith)),
  rows_ascend (next ∷ rows) (λ k d low within.
      subst (λ m. comes_before (get_or (row ∷ next ∷ rows) m d) (get_or (row ∷ next ∷ rows) (suc k) d) ≡ false) {x = suc k + 1} {y = suc (k + 1)} (omega arith)
      (sorted (suc k) d (omega arith) (omega arith))),
)
