-- Security identities: which numbers there are, and how they are held and released (Cilium, Terminology,
-- "Identity" and "Special Identities"). Which free number is taken, the labels and the one holder of a reserved
-- identity, the release at the last holder, and the last local number are 'profile'.
use Rattle.std.specs.Prelude.{ℕ, ◌+◌, ◌-◌, ◌==◌, ◌&&◌, not, nat_lt, nat_le, Bool, if◌then◌else◌, List, [], ◌∷◌, codes, map, filter, find, Option, None, Some, option_map}
use Rattle.pol_labels.specs.declared.label.Label.{Label}
use Rattle.pol_labels.specs.Same.{same_labels}
use Rattle.pol_model.specs.declared.limits.TheConstants.{CLUSTER_FIRST, LOCAL_FIRST, RESERVED_LAST}
use Rattle.pol_model.specs.declared.row.IdentityRow.{IdentityRow}
use Rattle.pol_model.specs.Numbers.{least_free, placed_by}
use Rattle.pol_addr.specs.declared.family.Family.TheVariants.{Ipv4, Ipv6}
use Rattle.pol_model.specs.Worlds.{either_world, named_world, prefix_of_reserved, reserved_label, world_in}

-- the reserved numbers are allocated from the start and for ever
abbrev pub is_reserved : ℕ → Bool
is_reserved number = nat_le 1 number && nat_le number RESERVED_LAST

-- whether the number is one that prefixes take
abbrev pub is_local : ℕ → Bool
is_local number = nat_le LOCAL_FIRST number

abbrev pub reserved_row : ℕ → List ℕ → IdentityRow
reserved_row number name =
    record { number = number; labels = reserved_label name ∷ []; prefix = prefix_of_reserved number; holders = 1 }

-- the row of what lies outside the cluster
abbrev pub world_row : ℕ × List ℕ → IdentityRow
world_row w = reserved_row w.0 w.1

-- the identities before the first request
abbrev pub reserved_identities : List IdentityRow
reserved_identities =
    reserved_row 1 (codes "host")
    ∷ world_row either_world
    ∷ reserved_row 3 (codes "unmanaged")
    ∷ reserved_row 4 (codes "health")
    ∷ reserved_row 5 (codes "init")
    ∷ reserved_row 6 (codes "remote-node")
    ∷ reserved_row 7 (codes "kube-apiserver")
    ∷ reserved_row 8 (codes "ingress")
    ∷ world_row (named_world (world_in Ipv4))
    ∷ world_row (named_world (world_in Ipv6))
    ∷ []

-- the row, or the row with this count where its number is this one and isn't reserved
abbrev pub recounted : ℕ → (ℕ → ℕ) → IdentityRow → IdentityRow
recounted number count row =
    if (row.number == number) && not (is_reserved number) then record row { holders = count row.holders } else row

-- one holder more of a number that has a row
abbrev pub with_holder : ℕ → List IdentityRow → List IdentityRow
with_holder number rows = map (recounted number (λ count. count + 1)) rows

-- one holder less of a number; a row without a holder goes
abbrev pub released : ℕ → List IdentityRow → List IdentityRow
released number rows = filter (λ row. nat_lt 0 row.holders) (map (recounted number (λ count. count - 1)) rows)

-- the first row that passes, by its number
abbrev pub number_where : (IdentityRow → Bool) → List IdentityRow → Option ℕ
number_where passes rows = option_map (λ row. row.number) (find passes rows)

-- the least free number from `first` on
abbrev pub free_number : ℕ → List IdentityRow → ℕ
free_number first rows = least_free first (map (λ row. row.number) rows)

-- The rows with one holder more: of the number that is there, or of a new row with one holder.
abbrev pub held_or_new : Option ℕ → IdentityRow → List IdentityRow → List IdentityRow
held_or_new (Some number) new rows = with_holder number rows
held_or_new None new rows = placed_by (λ row. row.number) new rows

-- the number of an equal label set, prefixes' identities aside
abbrev pub number_of_labels : List Label → List IdentityRow → Option ℕ
number_of_labels labels rows =
    number_where (λ row. not (is_local row.number) && same_labels row.labels labels) rows

abbrev pub or_free : Option ℕ → ℕ → ℕ
or_free (Some number) free = number
or_free None free = free

-- the number that a label set takes: that of an equal set, else the least free one of the cluster's
abbrev pub number_for : List Label → List IdentityRow → ℕ
number_for labels rows = or_free (number_of_labels labels rows) (free_number CLUSTER_FIRST rows)

-- the rows once the label set is held once more
abbrev pub labels_held : List Label → List IdentityRow → List IdentityRow
labels_held labels rows =
    held_or_new (number_of_labels labels rows)
    (record { number = free_number CLUSTER_FIRST rows; labels = labels; prefix = None; holders = 1 }) rows

-- the rows once the number is released, where there is one
abbrev pub number_released : Option ℕ → List IdentityRow → List IdentityRow
number_released None rows = rows
number_released (Some number) rows = released number rows
