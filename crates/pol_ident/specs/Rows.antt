-- The rows of identities that slots stand for: the reserved ones, then those of label sets, then those of prefixes.
-- No public clause cites this module.
use Rattle.std.specs.Prelude.{ℕ, ◌≡◌, ◌+◌, ◌≤◌, List, [], ◌∷◌, ◌++◌, length, Option, Some, None}
use Rattle.pol_addr.specs.Cidr.{IsPrefix}
use Rattle.pol_addr.specs.declared.network.Prefix.{Prefix}
use Rattle.pol_labels.specs.declared.label.Label.{Label}
use Rattle.pol_model.specs.declared.limits.TheConstants.{CLUSTER_FIRST, CLUSTER_IDENTITIES, LOCAL_FIRST, LOCAL_IDENTITIES}
use Rattle.pol_model.specs.declared.row.IdentityRow.{IdentityRow}
use Rattle.pol_model.specs.Identities.{reserved_identities}
use Rattle.pol_model.specs.Worlds.{world_around, world_labels}
use Rattle.pol_model_laws.specs.Keeps.{KeepsRows}
use Rattle.pol_interner.specs.Slots.{Slot, slot_at}

module _ {K : Type 0} (labels : K → List Label) (prefix : K → Option Prefix) where
  -- the row of a key under a number
  abbrev pub row_with : ℕ → K × ℕ → IdentityRow
  row_with number held = record { number = number; labels = labels held.0; prefix = prefix held.0; holders = held.1 }

  -- the rows of the keys, whose numbers are from `first` on, and then these
  abbrev pub rows_then : ℕ → List (Slot K) → List IdentityRow → List IdentityRow
  rows_then first [] rest = rest
  rows_then first (None ∷ slots) rest = rows_then (first + 1) slots rest
  rows_then first (Some held ∷ slots) rest = row_with first held ∷ rows_then (first + 1) slots rest

abbrev pub local_rows : List (Slot Prefix) → List IdentityRow
local_rows slots = rows_then (λ prefix. world_labels (world_around prefix)) Some LOCAL_FIRST slots []

-- the prefix of each place is one
abbrev pub ArePrefixes : List (Slot Prefix) → Type 0
ArePrefixes slots = (place : ℕ) (own : Prefix × ℕ) → slot_at slots place ≡ Some own → IsPrefix own.0

abbrev pub cluster_rows : List (Slot (List Label)) → List IdentityRow → List IdentityRow
cluster_rows slots rest = rows_then (λ labels. labels) (λ _. None) CLUSTER_FIRST slots rest

abbrev pub rows_of : List (Slot (List Label)) → List (Slot Prefix) → List IdentityRow
rows_of cluster local = reserved_identities ++ cluster_rows cluster (local_rows local)

-- the reserved rows are those of the start, the rows fit together, and no slot lies past the last number
pub record IsIdentities (reserved : List IdentityRow) (cluster : List (Slot (List Label))) (local : List (Slot Prefix)) : Type 0 where
  pub start : reserved ≡ reserved_identities
  pub keeps : KeepsRows (rows_of cluster local)
  pub cluster_few : length cluster ≤ CLUSTER_IDENTITIES
  pub local_few : length local ≤ LOCAL_IDENTITIES
