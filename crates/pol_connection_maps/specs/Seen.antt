-- Ends with the entries of their maps, and what these say of a pair.
use Rattle.std.specs.Prelude.{ℕ, ◌≡◌, not, ◌&&◌, Bool, false, List, Option, None, Some, is_some, if◌then◌else◌}
use Rattle.pol_ports.specs.declared.Direction.{Direction}
use Rattle.pol_ports.specs.declared.Direction.TheVariants.{Ingress, Egress}
use Rattle.pol_ports.specs.declared.Proto.{Proto}
use Rattle.pol_mapkey.specs.Entries.{Entry, read_map}
use Rattle.pol_mapkey.specs.declared.Word.{Word}
use Rattle.pol_mapkey.specs.declared.Word.TheVariants.{Allowed}
use Rattle.pol_port_ranges.specs.declared.said.Halves.{Halves}
use Rattle.pol_port_ranges.specs.declared.said.PortSaid.{PortSaid}
use Rattle.pol_connections.specs.declared.end.EndName.{EndName}
use Rattle.pol_connection_maps.specs.declared.end_row.EndRow.{EndRow}
use Rattle.pol_connection_maps.specs.Maps.{NumberEntries, entries_at}

-- an end, with the entries of its map where it has a policy of its own
pub record Seen : Type 0 where
  pub name : EndName
  pub number : ℕ
  pub entries : Option (List Entry)

abbrev pub seen_row : List NumberEntries → EndRow → Seen
seen_row maps row = record { name = row.name; number = row.number; entries = if row.own then entries_at row.number maps else None }

-- an end that both states have, and whether a change of its connections is told of each half
pub record Kept : Type 0 where
  pub before : Seen
  pub after : Seen
  pub halves : Bool

-- ---- what two ends say of a port
abbrev pub seen_half : Option (List Entry) → Direction → ℕ → Proto → ℕ → Word
seen_half None dir number proto port = Allowed
seen_half (Some entries) dir number proto port = read_map entries dir number proto port

abbrev pub seen_halves : Seen → Seen → Proto → ℕ → Halves
seen_halves from to proto port = record {
  sent = seen_half from.entries Egress to.number proto port;
  received = seen_half to.entries Ingress from.number proto port;
}

abbrev pub seen_alone : Seen → Seen → Proto → ℕ → PortSaid
seen_alone from to proto port = record { before = None; after = seen_halves from to proto port; halves = false }

abbrev pub seen_changed : Kept → Kept → Proto → ℕ → PortSaid
seen_changed from to proto port = record {
  before = Some (seen_halves from.before to.before proto port);
  after = seen_halves from.after to.after proto port;
  halves = from.halves;
}

-- a connection between two ends without policies isn't asked
abbrev pub seen_asked : Seen → Seen → Bool
seen_asked from to = not (not (is_some from.entries) && not (is_some to.entries))

abbrev pub kept_asked : Kept → Kept → Bool
kept_asked from to = seen_asked from.after to.after

-- ---- what stays
-- the end is seen by the number by which it was, and has the map that it had
pub record IsAsItWas (end : Kept) : Type 0 where
  pub number : end.before.number ≡ end.after.number
  pub entries : end.before.entries ≡ end.after.entries

abbrev pub StayAsTheyAre : Kept → Kept → Type 0
StayAsTheyAre from to = IsAsItWas from × IsAsItWas to
