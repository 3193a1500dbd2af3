-- The members of a line, by the rows of its operation. A member whose value is null counts as absent.
use Rattle.std.specs.Prelude.{ℕ, ◌||◌, Bool, true, false, not, if◌then◌else◌, List, [], ◌∷◌, Option, None, Some, is_some, option_map, option_and_then, ok_or, Result, Ok, Err, ⊤}
use Rattle.std.specs.List.{list_any}
use Rattle.std.specs.Str.{bytes_eq}
use Rattle.serde_json.specs.Data.{Data, Members, no_members, member}
use Rattle.serde_json.specs.Find.{as_object}
use Rattle.pol_json.specs.Members.{is_null, present}
use Rattle.pol_script.specs.declared.line_fault.LineFault.{LineFault}
use Rattle.pol_script.specs.declared.line_fault.LineFault.TheVariants.{BadField, UnknownField}
use Rattle.pol_script.specs.Forms.{Form, Read, read_as}
use Rattle.pol_script.specs.Steps.{◌>>=◌}
use Rattle.pol_script.specs.Table.{Need, needed, optional, or_else, Row}

-- ---- the members that the operation has

-- what is known of a member, once it is read
abbrev pub Value : Need → Form → Type 0
Value needed form = Read form
Value optional form = Option (Read form)
Value (or_else other) form = Option (Read form)

-- a member that has to be there
abbrev pub read_needed : {A : Type 0} → (Data → Option A) → List ℕ → Option Data → Result A LineFault
read_needed read name there = ok_or (option_and_then read there) (BadField name)

-- a member that may be there
abbrev pub read_optional : {A : Type 0} → (Data → Option A) → List ℕ → Option Data → Result (Option A) LineFault
read_optional read name None = Ok None
read_optional read name (Some d) = ok_or (option_map Some (read d)) (BadField name)

-- whether exactly one of two holds
abbrev pub one_of : Bool → Bool → Bool
one_of true b = not b
one_of false b = b

-- a member that has to be there where another isn't, and not beside it
abbrev pub read_or_else : {A : Type 0} → (Data → Option A) → List ℕ → Option Data → Option Data → Result (Option A) LineFault
read_or_else read name there other =
    if one_of (is_some there) (is_some other) then read_optional read name there else Err (BadField name)

-- what a member reads as; `BadField` where it is absent though it has to be there, or of another form
abbrev pub value_of : (need : Need) (form : Form) → List ℕ → Data → Result (Value need form) LineFault
value_of needed form name d = read_needed (read_as form) name (present name d)
value_of optional form name d = read_optional (read_as form) name (present name d)
value_of (or_else other) form name d = read_or_else (read_as form) name (present name d) (present other d)

-- ---- all of them

-- what is made of the values of the rows, in order
abbrev pub Takes : List Row → Type 0 → Type 0
Takes [] made = made
Takes (row ∷ rows) made = Value row.need row.form → Takes rows made

-- what is made of the members, or the first of them that is bad
abbrev pub given : {M : Type 0} → (rows : List Row) → Takes rows M → Data → Result M LineFault
given [] make d = Ok make
given (row ∷ rows) make d = value_of row.need row.form row.name d >>= λ value. given rows (make value) d

-- ---- the others

abbrev pub is_among : List (List ℕ) → List ℕ → Bool
is_among names name = list_any (λ n. bytes_eq n name) names

abbrev pub known_member : List (List ℕ) → List ℕ → Data → Result ⊤ LineFault
known_member names name d = if is_null d || is_among names name then Ok tt else Err (UnknownField name)

-- the first member of another name, in the order of members, which is the byte order of their names
abbrev pub known_members : List (List ℕ) → Members → Result ⊤ LineFault
known_members names no_members = Ok tt
known_members names (member name d others) = known_member names name d >>= λ _. known_members names others

abbrev pub known_in : List (List ℕ) → Option Members → Result ⊤ LineFault
known_in names None = Ok tt
known_in names (Some ms) = known_members names ms

abbrev pub known : List (List ℕ) → Data → Result ⊤ LineFault
known names d = known_in names (as_object d)
