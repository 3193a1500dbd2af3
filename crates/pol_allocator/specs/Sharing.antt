-- A table of prefixes as prefixes are held and released. No public clause cites this module.
use Rattle.std.specs.Prelude.{◌≡◌, ◌&&◌, Bool, false, cond, is_none, List, None}
use Rattle.std.specs.List.{list_any}
use Rattle.std.specs.FinMap.{get}
use Rattle.pol_addr.specs.declared.network.Prefix.{Prefix}
use Rattle.pol_addr.specs.Prefix.{same_prefix}
use Rattle.pol_model.specs.declared.row.IdentityRow.{IdentityRow}
use Rattle.pol_model.specs.Prefixes.{number_of_prefix}
use Rattle.pol_prefix_table.specs.Table.{PrefixMap}

-- one of these
abbrev pub is_of : List Prefix → Prefix → Bool
is_of prefixes own = list_any (same_prefix own) prefixes

-- one of these that has no number
abbrev pub is_gone : List Prefix → List IdentityRow → Prefix → Bool
is_gone prefixes rows own = is_of prefixes own && is_none (number_of_prefix own rows)

-- the table is that of the rows, but perhaps at some prefixes
abbrev pub IsTableBut : (Prefix → Bool) → List IdentityRow → PrefixMap → Type 0
IsTableBut but rows table = (own : Prefix) → but own ≡ false → get table own ≡ number_of_prefix own rows

-- the new table is that of the rows at this prefix, and elsewhere as the old one
abbrev pub IsRenewedAt : Prefix → List IdentityRow → PrefixMap → PrefixMap → Type 0
IsRenewedAt prefix rows old new = (own : Prefix) → get new own ≡ cond (same_prefix own prefix) (number_of_prefix prefix rows) (get old own)

-- the new table is as the old one, but without this prefix where the rows have no number of it
abbrev pub IsWithoutGone : Prefix → List IdentityRow → PrefixMap → PrefixMap → Type 0
IsWithoutGone prefix rows old new = (own : Prefix) → get new own ≡ cond (same_prefix own prefix && is_none (number_of_prefix own rows)) None (get old own)
