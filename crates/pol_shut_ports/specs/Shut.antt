-- What a policy map shuts: how it differs from a map that allows all.
use Rattle.std.specs.Prelude.{ℕ, ◌+◌, ◌*◌, ◌^◌, ◌&&◌, ◌==◌, nat_le, Bool, List, [], ◌∷◌, filter, if◌then◌else◌}
use Rattle.pol_ports.specs.declared.Direction.{Direction}
use Rattle.pol_ports.specs.declared.Direction.TheVariants.{Ingress, Egress}
use Rattle.pol_ports.specs.declared.Proto.{Proto}
use Rattle.pol_mapkey.specs.declared.Kind.TheVariants.{Allow}
use Rattle.pol_mapkey.specs.declared.Word.{Word}
use Rattle.pol_mapkey.specs.declared.Word.TheVariants.{Allowed}
use Rattle.pol_mapkey.specs.Entries.{Entry}
use Rattle.pol_mapkey.specs.MapKey.{every_key}
use Rattle.pol_audit.specs.declared.difference.Difference.{Difference}
use Rattle.pol_audit.specs.Difference.{least_number}
use Rattle.pol_audit.specs.Packets.{direction_place, packet_place}
use Rattle.pol_audit.specs.Tables.{stands}

-- the map that allows all
abbrev pub all_allowed : List Entry
all_allowed = (every_key Ingress 0, Allow) ∷ (every_key Egress 0, Allow) ∷ []

-- ---- ranges of what is shut
abbrev pub shuts : Difference → ℕ → Bool
shuts d port = nat_le d.first port && nat_le port d.last

-- what the ranges say of a port: what the first says that has it, and else that it is allowed
abbrev pub word_in : List Difference → ℕ → Word
word_in [] port = Allowed
word_in (d ∷ others) port = if shuts d port then d.right else word_in others port

-- ---- where ranges stand
-- a number for each direction, number and protocol, in their order
abbrev pub number_place : ℕ → ℕ → ℕ
number_place dir number = dir * 2 ^ 32 + number

abbrev pub group_place : ℕ → ℕ → ℕ → ℕ
group_place dir number proto = number_place dir number * 4 + proto

abbrev pub place_of : Difference → ℕ
place_of d = group_place (direction_place d.dir) (least_number d.numbers) (packet_place d.proto)

-- a number that stands in the map by itself, or 0 for every other
abbrev pub number_in : List Entry → Direction → ℕ → ℕ
number_in entries dir id = if stands dir id entries then id else 0

-- the ranges of a direction, number and protocol
abbrev pub shut_at : List Entry → List Difference → Direction → ℕ → Proto → List Difference
shut_at entries list dir id proto =
    filter (λ d. place_of d == group_place (direction_place dir) (number_in entries dir id) (packet_place proto)) list

-- ---- where entries stand
abbrev pub entry_place : Entry → ℕ
entry_place e = number_place (direction_place e.0.dir) e.0.id
