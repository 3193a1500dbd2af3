-- The members of a line that its operation doesn't have, and the least of them in byte order ('profile').
use Rattle.std.specs.Prelude.{◌≡◌, ℕ, ◌&&◌, Bool, not, List, IsTrue, is_some, Ok}
use Rattle.std.specs.Cmp.Lexicographic.{slice_cmp}
use Rattle.std.specs.Ordering.{nat_cmp, is_le}
use Rattle.serde_json.specs.Data.{Data}
use Rattle.pol_json.specs.Members.{present}
use Rattle.pol_script.specs.declared.op.Op.{Op}
use Rattle.pol_script.specs.Members.{is_among}
use Rattle.pol_script.specs.Reading.{object_of, op_of}
use Rattle.pol_script.specs.Table.{names, rows}

-- the line has a member of that name that isn't null, and none of these has the name
abbrev pub is_beside : List (List ℕ) → Data → List ℕ → Bool
is_beside known d name = is_some (present name d) && not (is_among known name)

-- the line has a member of that name, and the operation has none
abbrev pub is_unknown : Op → Data → List ℕ → Bool
is_unknown op d name = is_beside (names (rows op)) d name

-- the name is at most the other one, byte by byte
abbrev pub name_le : List ℕ → List ℕ → Bool
name_le name other = is_le (slice_cmp nat_cmp name other)

-- the least name of a member that the operation doesn't have
pub record IsLeastUnknown (op : Op) (d : Data) (name : List ℕ) : Type 0 where
  pub unknown : IsTrue (is_unknown op d name)
  pub least : (other : List ℕ) → IsTrue (is_unknown op d other) → IsTrue (name_le name other)

-- the line is an object of an operation, and has this least name
pub record HasLeastUnknown (line name : List ℕ) : Type 0 where
  pub value : Data
  pub operation : Op
  pub is_read : object_of line ≡ Ok value
  pub is_of : op_of value ≡ Ok operation
  pub least : IsLeastUnknown operation value name
