-- Packets in their order, and what two tables say of one.
use Rattle.std.specs.Prelude.{◌≡◌, ◌<◌, ℕ, ◌⊎◌, List}
use Rattle.pol_ports.specs.declared.Direction.{Direction}
use Rattle.pol_ports.specs.declared.Direction.TheVariants.{Ingress, Egress}
use Rattle.pol_ports.specs.declared.Proto.{Proto}
use Rattle.pol_mapkey.specs.declared.Word.{Word}
use Rattle.pol_mapkey.specs.Entries.{Entry, read_map}
use Rattle.pol_mapkey.specs.KeyProto.{key_proto, proto_place}

-- a number for each direction, in their order
abbrev pub direction_place : Direction → ℕ
direction_place Ingress = 0
direction_place Egress = 1

-- a number for each protocol, in their order
abbrev pub packet_place : Proto → ℕ
packet_place proto = proto_place (key_proto proto)

-- the words of the left and the right table
abbrev pub words : List Entry → List Entry → Direction → ℕ → Proto → ℕ → Word × Word
words left right dir id proto port = (read_map left dir id proto port, read_map right dir id proto port)

-- The first comes before the second: by direction, number, protocol, and what is given for the ports.
abbrev pub ComesBefore : Direction → ℕ → Proto → Direction → ℕ → Proto → Type 0 → Type 0
ComesBefore dir id proto dir' id' proto' ports =
    (direction_place dir < direction_place dir')
    ⊎ ((dir ≡ dir') × ((id < id') ⊎ ((id ≡ id') × ((packet_place proto < packet_place proto') ⊎ ((proto ≡ proto') × ports)))))
