-- The identities of prefixes (Cilium, Terminology, "Identity", local identities). Which free number is taken, and that
-- a prefix's identity has the label of its world alone, is 'profile'.
use Rattle.std.specs.Prelude.{ℕ, Bool, false, List, [], ◌∷◌, Option, None, Some}
use Rattle.pol_addr.specs.declared.network.Prefix.{Prefix}
use Rattle.pol_addr.specs.Prefix.{same_prefix}
use Rattle.pol_model.specs.declared.limits.TheConstants.{LOCAL_FIRST}
use Rattle.pol_model.specs.declared.row.IdentityRow.{IdentityRow}
use Rattle.pol_model.specs.Identities.{number_where, held_or_new, number_released, free_number}
use Rattle.pol_model.specs.Worlds.{world_around, world_labels}

abbrev pub has_prefix : Prefix → Option Prefix → Bool
has_prefix prefix None = false
has_prefix prefix (Some own) = same_prefix prefix own

-- a new row for a prefix
abbrev pub prefix_row : Prefix → ℕ → IdentityRow
prefix_row prefix number =
    record { number = number; labels = world_labels (world_around prefix); prefix = Some prefix; holders = 1 }

abbrev pub number_of_prefix : Prefix → List IdentityRow → Option ℕ
number_of_prefix prefix rows = number_where (λ row. has_prefix prefix row.prefix) rows

-- The rows once the prefix is held once more. A world's prefix has the world's row, which takes no holder.
abbrev pub prefix_held : Prefix → List IdentityRow → List IdentityRow
prefix_held prefix rows =
    held_or_new (number_of_prefix prefix rows) (prefix_row prefix (free_number LOCAL_FIRST rows)) rows

-- the rows once the prefix is held once less
abbrev pub prefix_released : Prefix → List IdentityRow → List IdentityRow
prefix_released prefix rows = number_released (number_of_prefix prefix rows) rows

-- one prefix after another
abbrev pub prefixes_held : List Prefix → List IdentityRow → List IdentityRow
prefixes_held [] rows = rows
prefixes_held (prefix ∷ others) rows = prefixes_held others (prefix_held prefix rows)

abbrev pub prefixes_released : List Prefix → List IdentityRow → List IdentityRow
prefixes_released [] rows = rows
prefixes_released (prefix ∷ others) rows = prefixes_released others (prefix_released prefix rows)
