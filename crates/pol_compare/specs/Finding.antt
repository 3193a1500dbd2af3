-- What is found of a text of two tables.
use Rattle.std.specs.Prelude.{◌≡◌, ◌+◌, ◌<◌, ◌^◌, ◌⊎◌, ℕ, Bool, true, false, List, Option, None, Some, length}
use Rattle.pol_mapkey.specs.Entries.{Entry}
use Rattle.pol_audit.specs.declared.packet.Audit.{Audit}
use Rattle.pol_audit.specs.declared.packet.Audit.TheVariants.{Same, Differs}
use Rattle.pol_audit.specs.Audit.{IsAudit}
use Rattle.pol_audit.specs.Tables.{IsTable}
use Rattle.pol_audit.specs.Text.{AreKept, IsBadLine, text_of}
use Rattle.pol_compare.specs.declared.finding.Finding.{Finding}
use Rattle.pol_compare.specs.declared.finding.Finding.TheVariants.{BadTable, NoDivider, Compared}
use Rattle.pol_compare.specs.Parts.{parts_of}

-- the text is that of the table
pub record IsTextOf (table : List Entry) (text : List ℕ) : Type 0 where
  pub ascends : IsTable table
  pub kept : AreKept table
  pub written : text ≡ text_of table

-- a line of the first of two tables is its first bad one
abbrev pub IsBadFirst : List ℕ → Finding → Type 0
IsBadFirst front (BadTable line) = IsBadLine front line
IsBadFirst front NoDivider = ⊥
IsBadFirst front (Compared audit) = ⊥

-- What is found of the second table, behind the first and the divider: a bad line, which is counted from the first line of
-- the text, or what an audit of both finds.
abbrev pub IsFoundBehind : List Entry → List ℕ → Finding → Type 0
IsFoundBehind left back (BadTable line) = (place : ℕ) × IsBadLine back place × (line ≡ length left + 1 + place)
IsFoundBehind left back NoDivider = ⊥
IsFoundBehind left back (Compared audit) = (right : List Entry) × IsTextOf right back × IsAudit left right audit

-- what is found of a text without a divider: a bad line, or that it is one table
abbrev pub IsFoundAlone : List ℕ → Finding → Type 0
IsFoundAlone text (BadTable line) = IsBadLine text line
IsFoundAlone text NoDivider = (table : List Entry) × IsTextOf table text
IsFoundAlone text (Compared audit) = ⊥

-- what is found of the parts of a text
abbrev pub IsFoundIn : List ℕ → Option (List ℕ) → Finding → Type 0
IsFoundIn front None finding = IsFoundAlone front finding
IsFoundIn front (Some back) finding =
    IsBadFirst front finding ⊎ ((left : List Entry) × IsTextOf left front × IsFoundBehind left back finding)

-- What is found of a text: its first bad line; or, where each line can stand in its table, that no line divides two tables,
-- or what an audit of the two finds ('profile').
abbrev pub IsFinding : List ℕ → Finding → Type 0
IsFinding text finding = IsFoundIn (parts_of text).front (parts_of text).back finding

-- both are tables, and they say the same
abbrev pub is_same : Finding → Bool
is_same (BadTable line) = false
is_same NoDivider = false
is_same (Compared Same) = true
is_same (Compared _) = false

-- the port of a packet has 16 bits, as a program's has
abbrev pub HasPort : Audit → Type 0
HasPort Same = Unit {0}
HasPort (Differs packet) = packet.port < 2 ^ 16

abbrev pub AreSmall : Finding → Type 0
AreSmall (BadTable line) = Unit {0}
AreSmall NoDivider = Unit {0}
AreSmall (Compared audit) = HasPort audit
