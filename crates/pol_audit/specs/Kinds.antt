-- What entries say of a port, by the last of them that has it: where keys are in order, that one's key is the longest.
use Rattle.std.specs.Prelude.{ℕ, Bool, false, not, nat_le, ◌==◌, List, [], ◌∷◌, Option, Some, None, option_map, filter, if◌then◌else◌}
use Rattle.std.specs.List.Sorted.{IsNonDecreasingBy}
use Rattle.pol_ports.specs.declared.Proto.{Proto}
use Rattle.pol_ports.specs.PortPrefix.{prefix_holds}
use Rattle.pol_mapkey.specs.declared.Kind.{Kind}
use Rattle.pol_mapkey.specs.declared.Word.{Word}
use Rattle.pol_mapkey.specs.Entries.{Entry, word_of_kinds}
use Rattle.pol_mapkey.specs.KeyProto.{key_proto, proto_covers}

-- the second, or the first where there is no second
abbrev pub later : Option Entry → Option Entry → Option Entry
later a None = a
later a (Some e) = Some e

-- the last of the entries that has the port
unfoldable pub last_at : ℕ → List Entry → Option Entry
last_at port [] = None
last_at port (e ∷ es) = later (if prefix_holds e.0.port port then Some e else None) (last_at port es)

-- its kind
abbrev pub kind_at : List Entry → ℕ → Option Kind
kind_at entries port = option_map (λ (e : Entry). e.1) (last_at port entries)

-- the entries for packets of a protocol
abbrev pub those_for : Proto → List Entry → List Entry
those_for proto entries = filter (λ e. proto_covers e.0.proto (key_proto proto)) entries

-- whether there is an entry, and its ports begin at this one or before it
abbrev pub begins_by : ℕ → Option Entry → Bool
begins_by port None = false
begins_by port (Some e) = nat_le e.0.port.bits port

-- whether there is an entry, and it hasn't the port
abbrev pub has_ended : ℕ → Option Entry → Bool
has_ended port None = false
has_ended port (Some e) = not (prefix_holds e.0.port port)

-- what the entries of a number and those of 0 say of a port
abbrev pub said_by : Proto → List Entry → List Entry → ℕ → Word
said_by proto own every port = word_of_kinds (kind_at (those_for proto own) port) (kind_at (those_for proto every) port)

-- for each protocol, the ports begin in order
abbrev pub PortsAscend : List Entry → Type 0
PortsAscend entries = (proto : Proto) → IsNonDecreasingBy (λ (e : Entry). e.0.port.bits) (those_for proto entries)

-- the entries of a number
abbrev pub numbered : ℕ → List Entry → List Entry
numbered id part = filter (λ e. e.0.id == id) part

-- those of a number that isn't 0
abbrev pub own_of : ℕ → List Entry → List Entry
own_of id part = if id == 0 then [] else numbered id part

-- what two tables say of a port, by their entries of a number and of 0
abbrev pub both_said : Proto → List Entry → List Entry → List Entry → List Entry → ℕ → Word × Word
both_said proto left right left_every right_every port = (said_by proto left left_every port, said_by proto right right_every port)
