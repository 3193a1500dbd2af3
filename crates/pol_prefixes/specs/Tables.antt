-- A prefix table over the rows of identities.
use Rattle.std.specs.Prelude.{◌≡◌, List}
use Rattle.std.specs.FinMap.{get}
use Rattle.pol_addr.specs.declared.network.Prefix.{Prefix}
use Rattle.pol_model.specs.declared.row.IdentityRow.{IdentityRow}
use Rattle.pol_model.specs.Prefixes.{number_of_prefix}
use Rattle.pol_prefix_table.specs.Table.{PrefixMap}

-- the table has the number of each prefix that has a row, and nothing else
abbrev pub IsTableOf : List IdentityRow → PrefixMap → Type 0
IsTableOf rows table = (prefix : Prefix) → get table prefix ≡ number_of_prefix prefix rows
