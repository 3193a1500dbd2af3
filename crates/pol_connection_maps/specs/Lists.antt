-- The lists of connections, by the ends and their maps.
use Rattle.std.specs.Prelude.{ℕ, ◌≡◌, not, Bool, List, [], ◌∷◌, map, filter, find, Option, option_map}
use Rattle.std.specs.List.{filter_map, flat_map, list_any}
use Rattle.pol_addr.specs.declared.network.Prefix.{Prefix}
use Rattle.pol_ports.specs.declared.Proto.{Proto}
use Rattle.pol_ports.specs.declared.Proto.TheVariants.{Tcp, Udp, Sctp}
use Rattle.pol_port_ranges.specs.declared.said.PortSaid.{PortSaid}
use Rattle.pol_port_ranges.specs.declared.said.Range.{Range}
use Rattle.pol_port_ranges.specs.Ranges.{ranges}
use Rattle.pol_sets.specs.declared.sets.SetRow.{SetRow}
use Rattle.pol_connections.specs.declared.end.Connection.{Connection}
use Rattle.pol_connections.specs.declared.end.EndName.{EndName}
use Rattle.pol_connections.specs.Ends.{same_name}
use Rattle.pol_connection_maps.specs.declared.end_row.EndRow.{EndRow}
use Rattle.pol_connection_maps.specs.declared.rows.StateRows.{StateRows}
use Rattle.pol_connection_maps.specs.EndRows.{end_rows}
use Rattle.pol_connection_maps.specs.Maps.{number_maps}
use Rattle.pol_connection_maps.specs.Seen.{Kept, Seen, kept_asked, seen_alone, seen_asked, seen_changed, seen_row}
use Rattle.pol_connection_maps.specs.Sets.{AreSetsOf, peers_of}

-- ---- a pair
abbrev pub connection_of : EndName → EndName → Proto → Range → Connection
connection_of from to proto range = record { from = from; to = to; proto = proto; range = range }

abbrev pub proto_list : (Proto → ℕ → PortSaid) → EndName → EndName → Proto → List Connection
proto_list said from to proto = map (connection_of from to proto) (ranges (said proto))

abbrev pub pair_list : (Proto → ℕ → PortSaid) → EndName → EndName → List Connection
pair_list said from to = flat_map (proto_list said from to) (Tcp ∷ Udp ∷ Sctp ∷ [])

-- ---- one state
abbrev pub open_pair : Seen → Seen → List Connection
open_pair from to = pair_list (seen_alone from to) from.name to.name

abbrev pub open_from : List Seen → Seen → List Connection
open_from ends from = flat_map (open_pair from) (filter (seen_asked from) ends)

abbrev pub open_list : List Seen → List Connection
open_list ends = flat_map (open_from ends) ends

-- ---- a change
abbrev pub changed_pair : Kept → Kept → List Connection
changed_pair from to = pair_list (seen_changed from to) from.after.name to.after.name

abbrev pub changed_from : List Kept → Kept → List Connection
changed_from ends from = flat_map (changed_pair from) (filter (kept_asked from) ends)

abbrev pub changed_list : List Kept → List Connection
changed_list ends = flat_map (changed_from ends) ends

-- the end of that name
abbrev pub seen_of : EndName → List Seen → Option Seen
seen_of name ends = find (λ end. same_name end.name name) ends

abbrev pub kept_end : Bool → List Seen → Seen → Option Kept
kept_end halves before end = option_map (λ old. record { before = old; after = end; halves = halves }) (seen_of end.name before)

-- the ends that both states have, in the order of the second
abbrev pub kept_ends : Bool → List Seen → List Seen → List Kept
kept_ends halves before after = filter_map (kept_end halves before) after

-- ---- names
-- whether some row has the name
abbrev pub has_name : EndName → List EndRow → Bool
has_name name rows = list_any (λ row. same_name row.name name) rows

-- the names of the second rows that the first ones don't have
abbrev pub names_alone : List EndRow → List EndRow → List EndName
names_alone one other = map (λ row. row.name) (filter (λ row. not (has_name row.name one)) other)

-- ---- ends with their maps
pub record AreSeenOf (rows : StateRows) (regions : List Prefix) (ends : List Seen) : Type 0 where
  pub sets : List SetRow
  pub are : AreSetsOf rows.identities.now (peers_of rows.policies.now) sets
  pub is : ends ≡ map (seen_row (number_maps rows sets)) (end_rows rows regions)
