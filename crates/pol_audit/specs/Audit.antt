-- Whether two tables are alike, and the least packet on which they differ.
use Rattle.std.specs.Prelude.{◌≡◌, ◌≢◌, ◌<◌, ◌^◌, ℕ, List, Option, None, Some}
use Rattle.pol_ports.specs.declared.Direction.{Direction}
use Rattle.pol_ports.specs.declared.Proto.{Proto}
use Rattle.pol_mapkey.specs.Entries.{Entry, read_map}
use Rattle.pol_audit.specs.declared.packet.Audit.{Audit}
use Rattle.pol_audit.specs.declared.packet.Audit.TheVariants.{Same, Differs}
use Rattle.pol_audit.specs.declared.packet.Packet.{Packet}
use Rattle.pol_audit.specs.declared.difference.Difference.{Difference}
use Rattle.pol_audit.specs.Difference.{least_number}
use Rattle.pol_audit.specs.Packets.{ComesBefore}

-- two tables give one word for every direction, number, protocol and port
abbrev pub Alike : List Entry → List Entry → Type 0
Alike left right =
    (dir : Direction) (id : ℕ) (proto : Proto) (port : ℕ) → port < 2 ^ 16 → read_map left dir id proto port ≡ read_map right dir id proto port

-- the tables give the packet its two words, these differ, and no packet before it differs
pub record IsLeastDiffering (left right : List Entry) (p : Packet) : Type 0 where
  pub left_word : read_map left p.dir p.id p.proto p.port ≡ p.left
  pub right_word : read_map right p.dir p.id p.proto p.port ≡ p.right
  pub differ : p.left ≢ p.right
  pub least : (dir : Direction) (id : ℕ) (proto : Proto) (port : ℕ) → port < 2 ^ 16
      → ComesBefore dir id proto p.dir p.id p.proto (port < p.port)
      → read_map left dir id proto port ≡ read_map right dir id proto port

-- what an audit says is so
abbrev pub IsAudit : List Entry → List Entry → Audit → Type 0
IsAudit left right Same = Alike left right
IsAudit left right (Differs packet) = IsLeastDiffering left right packet

-- the least packet of a range
abbrev pub least_packet : Difference → Packet
least_packet d = record { dir = d.dir; id = least_number d.numbers; proto = d.proto; port = d.first; left = d.left; right = d.right }

-- what an audit says where the difference begins with this range, or there is none
abbrev pub audit_from : Option Difference → Audit
audit_from None = Same
audit_from (Some d) = Differs (least_packet d)
