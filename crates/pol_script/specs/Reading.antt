-- What a line of the script reads as: its command, or its first fault ('profile').
use Rattle.std.specs.Prelude.{ℕ, Bool, if◌then◌else◌, List, codes, Option, None, option_and_then, ok_or, is_some, Result}
use Rattle.std.specs.Str.{is_utf8}
use Rattle.serde_json.specs.Data.{Data}
use Rattle.serde_json.specs.Find.{as_object}
use Rattle.serde_json.specs.Read.{read}
use Rattle.pol_json.specs.Members.{text_at}
use Rattle.pol_script.specs.declared.command.Command.{Command}
use Rattle.pol_script.specs.declared.line_fault.LineFault.{LineFault}
use Rattle.pol_script.specs.declared.line_fault.LineFault.TheVariants.{Json, NoOp}
use Rattle.pol_script.specs.declared.op.Op.{Op}
use Rattle.pol_script.specs.Commands.{make}
use Rattle.pol_script.specs.Forms.{word_among}
use Rattle.pol_script.specs.Members.{Takes, given, known}
use Rattle.pol_script.specs.Steps.{◌>>=◌, only}
use Rattle.pol_script.specs.Table.{Row, ops, names, rows}

-- the JSON value of a line, where it is one (RFC 8259)
abbrev pub json_of : List ℕ → Option Data
json_of line = if is_utf8 line then read line else None

abbrev pub is_object : Data → Bool
is_object d = is_some (as_object d)

abbrev pub object_of : List ℕ → Result Data LineFault
object_of line = ok_or (only is_object (json_of line)) Json

abbrev pub op_of : Data → Result Op LineFault
op_of d = ok_or (option_and_then (word_among ops) (text_at (codes "op") d)) NoOp

-- what is made of the members of some rows: a bad member comes before one of another name, and that before
-- what the members hold
abbrev pub read_rows : (table : List Row) → Takes table (Result Command LineFault) → Data → Result Command LineFault
read_rows table make d = do
  command ← given table make d
  _ ← known (names table) d
  command

abbrev pub read_op : Op → Data → Result Command LineFault
read_op op d = read_rows (rows op) (make op) d

abbrev pub read_object : Data → Result Command LineFault
read_object d = op_of d >>= λ op. read_op op d

abbrev pub reading_of : List ℕ → Result Command LineFault
reading_of line = object_of line >>= read_object
