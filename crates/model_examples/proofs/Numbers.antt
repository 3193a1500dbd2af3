-- Where numbers run out, said of the tests that faults make.
use Rattle.std.proofs.Common.{◌≡◌, ◌≤◌, ℕ, List, map, false}
use Rattle.std.proofs.lemmas.Bool.{both_ways, false_from_ne_true}
use Rattle.pol_labels.specs.declared.label.Label.{Label}
use Rattle.pol_model.specs.declared.row.IdentityRow.{IdentityRow}
use Rattle.pol_model.specs.Ascending.{Ascends}
use Rattle.pol_model.specs.Fault.{is_exhausted}
use Rattle.pol_model_laws.specs.Holding.{has_row}
use Rattle.pol_model_laws.proofs.FoundRows.{exhausted-exactly}

-- a number that is free
pub not_exhausted : (labels : List Label) (rows : List IdentityRow) (number : ℕ) → Ascends (map (λ row. row.number) rows)
    → 256 ≤ number → number ≤ 65535 → has_row number rows ≡ false → is_exhausted labels rows ≡ false
not_exhausted labels rows number ascend from to free =
    false_from_ne_true (is_exhausted labels rows)
    (λ full. both_ways (has_row number rows) free (((exhausted-exactly labels rows ascend).0 full).1 number from to))
