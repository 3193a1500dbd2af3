-- The ports at which what a table says of a direction, number and protocol may change.
use Rattle.std.specs.Prelude.{ℕ, nat_lt, List, [], ◌∷◌, ◌++◌, if◌then◌else◌}
use Rattle.std.specs.List.{flat_map}
use Rattle.pol_ports.specs.declared.PortPrefix.{PortPrefix}
use Rattle.pol_ports.specs.declared.Proto.{Proto}
use Rattle.pol_ports.specs.PortPrefix.{end_of}
use Rattle.pol_mapkey.specs.Entries.{Entry}
use Rattle.pol_mapkey.specs.KeyProto.{key_proto, proto_covers}

-- where a prefix begins, and where it has just ended, if that is a port
abbrev pub ends_of : PortPrefix → List ℕ
ends_of prefix = prefix.bits ∷ (if nat_lt (end_of prefix) 65536 then end_of prefix ∷ [] else [])

-- those of an entry's prefix, if it is for the protocol
abbrev pub cuts_at : Proto → Entry → List ℕ
cuts_at proto e = if proto_covers e.0.proto (key_proto proto) then ends_of e.0.port else []

-- those of the entries of a number and of 0 in two tables
abbrev pub all_cuts : Proto → List Entry → List Entry → List Entry → List Entry → List ℕ
all_cuts proto left right left_every right_every =
    ((flat_map (cuts_at proto) left ++ flat_map (cuts_at proto) right) ++ flat_map (cuts_at proto) left_every) ++ flat_map (cuts_at proto) right_every
