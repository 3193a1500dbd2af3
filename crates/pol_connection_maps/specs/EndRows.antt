-- The ends of a state as rows: who each is, its number, and whether it has a policy of its own.
use Rattle.std.specs.Prelude.{ℕ, ◌++◌, true, false, List, map, filter, is_some}
use Rattle.pol_addr.specs.declared.network.Prefix.{Prefix}
use Rattle.pol_model.specs.declared.row.Endpoint.{Endpoint}
use Rattle.pol_model.specs.declared.row.IdentityRow.{IdentityRow}
use Rattle.pol_model.specs.declared.row.NamedIdentity.{NamedIdentity}
use Rattle.pol_connections.specs.declared.end.EndName.TheVariants as name
use Rattle.pol_connections.specs.Ends.{End, by_name, stands_alone}
use Rattle.pol_connections.specs.Regions.{region_number}
use Rattle.pol_connection_maps.specs.declared.end_row.EndRow.{EndRow}
use Rattle.pol_connection_maps.specs.declared.rows.StateRows.{StateRows}

-- the row of an end
abbrev pub row_of_end : End → EndRow
row_of_end end = record { name = end.name; number = end.number; own = is_some end.subject }

abbrev pub endpoint_row : Endpoint → EndRow
endpoint_row endpoint = record { name = name.Endpoint endpoint.name; number = endpoint.identity; own = true }

-- the row of an endpoint's name and number
abbrev pub number_row : List ℕ × ℕ → EndRow
number_row entry = record { name = name.Endpoint entry.0; number = entry.1; own = true }

abbrev pub named_row : NamedIdentity → EndRow
named_row identity = record { name = name.Identity identity.name; number = identity.number; own = true }

abbrev pub alone_row : IdentityRow → EndRow
alone_row row = record { name = name.Reserved row.number; number = row.number; own = false }

abbrev pub region_row : List IdentityRow → Prefix → EndRow
region_row identities region = record { name = name.Region region; number = region_number region identities; own = false }

-- the ends of a state with these rows
abbrev pub end_rows : StateRows → List Prefix → List EndRow
end_rows rows regions =
    map endpoint_row (by_name (λ endpoint. endpoint.name) rows.endpoints.now)
    ++ map named_row rows.named.now
    ++ map alone_row (filter stands_alone rows.identities.now)
    ++ map (region_row rows.identities.now) regions
