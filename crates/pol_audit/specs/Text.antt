-- The text of a table: a line for each entry, in the order of the keys ('profile').
use Rattle.std.specs.Prelude.{◌≡◌, ◌≢◌, ◌+◌, ◌<◌, ◌^◌, ℕ, List, [], ◌∷◌, ◌++◌, codes, length, Result, Ok, Err}
use Rattle.std.specs.Fmt.{decimal}
use Rattle.std.specs.List.{All, Contains, flat_map}
use Rattle.pol_ports.specs.declared.Direction.{Direction}
use Rattle.pol_ports.specs.declared.Direction.TheVariants.{Ingress, Egress}
use Rattle.pol_ports.specs.declared.PortPrefix.{PortPrefix}
use Rattle.pol_mapkey.specs.declared.KeyProto.{KeyProto}
use Rattle.pol_mapkey.specs.declared.KeyProto.TheVariants.{Every, Tcp, Udp, Sctp}
use Rattle.pol_mapkey.specs.declared.Kind.{Kind}
use Rattle.pol_mapkey.specs.declared.Kind.TheVariants.{Allow, Deny}
use Rattle.pol_mapkey.specs.Entries.{Entry}
use Rattle.pol_audit.specs.declared.error.TableError.{TableError}
use Rattle.pol_audit.specs.declared.error.TableError.TheVariants.{Line, Memory}
use Rattle.pol_audit.specs.Tables.{IsTable}

-- ---- words
abbrev pub direction_word : Direction → List ℕ
direction_word Ingress = codes "ingress"
direction_word Egress = codes "egress"

abbrev pub proto_word : KeyProto → List ℕ
proto_word Every = codes "every"
proto_word Tcp = codes "TCP"
proto_word Udp = codes "UDP"
proto_word Sctp = codes "SCTP"

abbrev pub kind_word : Kind → List ℕ
kind_word Allow = codes "allow"
kind_word Deny = codes "deny"

-- ---- lines
-- two words with a space between them
abbrev pub spaced : List ℕ → List ℕ → List ℕ
spaced front back = front ++ (codes " " ++ back)

-- a prefix by its first port and its length
abbrev pub port_text : PortPrefix → List ℕ
port_text port = decimal port.bits ++ (codes "/" ++ decimal port.len)

-- the words of an entry behind its direction
abbrev pub said_words : ℕ → KeyProto → PortPrefix → Kind → List ℕ
said_words id proto port kind = spaced (decimal id) (spaced (proto_word proto) (spaced (port_text port) (kind_word kind)))

-- the words of an entry
abbrev pub entry_words : Entry → List ℕ
entry_words e = spaced (direction_word e.0.dir) (said_words e.0.id e.0.proto e.0.port e.1)

-- its line, which ends with a newline byte
abbrev pub line_of : Entry → List ℕ
line_of e = entry_words e ++ codes "\n"

-- the text of a table
abbrev pub text_of : List Entry → List ℕ
text_of entries = flat_map line_of entries

-- ---- which texts aren't one
-- no byte of the text is this one
abbrev pub Lacks : ℕ → List ℕ → Type 0
Lacks byte text = All (λ b. b ≢ byte) text

-- the numbers of the entry's key have 32 bits and 16 bits, as a program's have
abbrev pub IsKept : Entry → Type 0
IsKept e = (e.0.id < 2 ^ 32) × (e.0.port.bits < 2 ^ 16)

abbrev pub AreKept : List Entry → Type 0
AreKept entries = (e : Entry) → Contains entries e → IsKept e

-- The lines before this one are the text of a table, and no line stands here that could go on with it: neither an entry's,
-- nor with a key above those before. Lines are counted from 1.
pub record IsBadLine (text : List ℕ) (line : ℕ) : Type 0 where
  pub front : List Entry
  pub rest : List ℕ
  pub kept : AreKept front
  pub table : IsTable front
  pub split : text ≡ text_of front ++ rest
  pub place : line ≡ length front + 1
  pub some : rest ≢ []
  pub bad : (e : Entry) (behind : List ℕ) → IsKept e → IsTable (front ++ e ∷ []) → rest ≢ line_of e ++ behind

-- what a text that isn't read has
abbrev pub IsCause : List ℕ → TableError → Type 0
IsCause text (Line line) = IsBadLine text line
IsCause text Memory = Unit {0}

-- what the text of a table is read as: that table, want of memory aside
abbrev pub IsReadAs : List Entry → Result (List Entry) TableError → Type 0
IsReadAs table (Ok read) = read ≡ table
IsReadAs table (Err (Line line)) = ⊥
IsReadAs table (Err Memory) = Unit {0}
