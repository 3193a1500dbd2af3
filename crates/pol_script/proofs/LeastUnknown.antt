-- The unknown member that is told is the least one, since the members of what is read ascend by their names.
use Rattle.std.proofs.Common.{◌≡◌, ℕ, Bool, true, false, cond, not, ◌&&◌, ◌||◌, List, Option, Some, None, is_some, option_and_then, Result, Ok, Err, ok_or, Ordering, Less, Equal, Greater, nat_cmp, IsTrue, refl, sym, ap, subst, ◌∙◌}
use Rattle.std.proofs.lemmas.Cmp.{nat_list_cmp_total, tied_itself}
use Rattle.std.proofs.lemmas.Map.Lookups.{exact_bytes}
use Rattle.std.specs.Cmp.Lexicographic.{slice_cmp}
use Rattle.std.specs.Ordering.{match_ordering, ordering_reverse, is_le}
use Rattle.std.specs.Prelude.{⊤}
use Rattle.std.specs.Str.{is_utf8}
use Rattle.serde_json.specs.Data.{Data, null, boolean, number, string, array, object, Members, no_members, member}
use Rattle.serde_json.specs.Find.{get_member}
use Rattle.serde_json.specs.Read.{read}
use Rattle.pol_json.specs.Look.{IsBelow, NamesAscend, MembersAscend}
use Rattle.pol_json.specs.Members.{is_null, unless_null}
use Rattle.pol_json.proofs.Names.{read_ascends}
use Rattle.pol_script.specs.declared.command.Command.{Command}
use Rattle.pol_script.specs.declared.line_fault.LineFault.{LineFault}
use Rattle.pol_script.specs.declared.line_fault.LineFault.TheVariants.{Json, UnknownField}
use Rattle.pol_script.specs.declared.op.Op.{Op}
use Rattle.pol_script.specs.Commands.{make}
use Rattle.pol_script.specs.Members.{given, is_among, known, known_member, known_members}
use Rattle.pol_script.specs.Reading.{json_of, is_object, object_of, op_of, read_object, read_rows, reading_of}
use Rattle.pol_script.specs.Steps.{◌>>=◌, only}
use Rattle.pol_script.specs.Table.{names, rows}
use Rattle.pol_script.specs.Unknown.{is_beside, is_unknown, name_le, IsLeastUnknown}
use Rattle.pol_script.proofs.ScriptLaws.{both_parts}

-- ---- where a name is found

abbrev Compares : List ℕ → List ℕ → Ordering → Type 0
Compares a b o = slice_cmp nat_cmp a b ≡ o

not_less : Less ≡ Equal → ⊥
not_less e = cc

-- a name that comes before each member is found at none, and before each that is found
below_found_at : (o : Ordering) (name k other : List ℕ) (d : Data) (ms : Members) → Compares other k o → Compares name k Less
    → is_some (match_ordering o (get_member other ms) (Some d) (get_member other ms)) ≡ true
    → (is_some (get_member other ms) ≡ true → Compares name other Less) → Compares name other Less
below_found_at Less name k other d ms is less found more = more found
below_found_at Equal name k other d ms is less found more = subst (λ x. Compares name x Less) (sym (exact_bytes other k is)) less
below_found_at Greater name k other d ms is less found more = more found

below_found : (name other : List ℕ) (ms : Members) → IsBelow name ms → is_some (get_member other ms) ≡ true → Compares name other Less
below_found name other no_members below found = absurd cc
below_found name other (member k d ms) below found =
    below_found_at (slice_cmp nat_cmp other k) name k other d ms refl below.0 found (below_found name other ms below.1)

-- ---- the members beside those of a table

abbrev beside : List (List ℕ) → Members → List ℕ → Bool
beside table ms name = is_beside table (object ms) name

has_present : (there : Option Data) → is_some (option_and_then unless_null there) ≡ true → is_some there ≡ true
has_present None e = e
has_present (Some d) e = refl

beside_found : (table : List (List ℕ)) (ms : Members) (name : List ℕ) → beside table ms name ≡ true → is_some (get_member name ms) ≡ true
beside_found table ms name is =
    has_present (get_member name ms) (both_parts (is_some (option_and_then unless_null (get_member name ms))) (not (is_among table name)) is).0

-- what a walk over the members tells: none is beside the table, or one that is no less than another
abbrev Tells : List (List ℕ) → Data → Result ⊤ LineFault → Type 0
Tells table d (Ok done) = (other : List ℕ) → is_beside table d other ≡ false
Tells table d (Err fault) =
    (name : List ℕ) × (fault ≡ UnknownField name) × (is_beside table d name ≡ true)
    × ((other : List ℕ) → is_beside table d other ≡ true → name_le name other ≡ true)

abbrev SameBeside : List (List ℕ) → Members → Members → Type 0
SameBeside table ms ns = (other : List ℕ) → beside table ms other ≡ beside table ns other

tells_same : (table : List (List ℕ)) (ms ns : Members) (r : Result ⊤ LineFault) → SameBeside table ms ns → Tells table (object ns) r → Tells table (object ms) r
tells_same table ms ns (Ok done) same tells = λ other. same other ∙ tells other
tells_same table ms ns (Err fault) same tells =
    (tells.0, tells.1, same tells.0 ∙ tells.2, λ other is. tells.3 other (sym (same other) ∙ is))

-- ---- one member more

false_where_none : (there : Bool) → (there ≡ true → ⊥) → there ≡ false
false_where_none true none = absurd (none refl)
false_where_none false none = refl

not_beside : (absent there : Bool) → (absent || there) ≡ true → (not absent && not there) ≡ false
not_beside true there e = refl
not_beside false there e = rw e refl

both_not : (absent there : Bool) → (absent || there) ≡ false → (not absent && not there) ≡ true
both_not true there e = absurd cc
both_not false there e = rw e refl

there_is : (d : Data) (absent : Bool) → is_some (cond absent None (Some d)) ≡ not absent
there_is d true = refl
there_is d false = refl

own_name : (table : List (List ℕ)) (name : List ℕ) (d : Data)
    → (is_some (unless_null d) && not (is_among table name)) ≡ (not (is_null d) && not (is_among table name))
own_name table name d = ap (λ b. b && not (is_among table name)) (there_is d (is_null d))

-- the first member, seen by its name
own_beside : (table : List (List ℕ)) (name : List ℕ) (d : Data) (ms : Members)
    → beside table (member name d ms) name ≡ (not (is_null d) && not (is_among table name))
own_beside table name d ms =
    ap (λ o. is_some (option_and_then unless_null (match_ordering o (get_member name ms) (Some d) (get_member name ms))) && not (is_among table name))
    (tied_itself nat_list_cmp_total name)
    ∙ own_name table name d

none_behind : (table : List (List ℕ)) (name : List ℕ) (ms : Members) → IsBelow name ms → beside table ms name ≡ false
none_behind table name ms below =
    false_where_none (beside table ms name)
    (λ there. not_less (sym (below_found name name ms below (beside_found table ms name there)) ∙ tied_itself nat_list_cmp_total name))

passed_own : (table : List (List ℕ)) (name other : List ℕ) (d : Data) (ms : Members) → other ≡ name → IsBelow name ms → (is_null d || is_among table name) ≡ true
    → (is_some (unless_null d) && not (is_among table other)) ≡ beside table ms other
passed_own table name other d ms same below skip =
    rw same (own_name table name d ∙ not_beside (is_null d) (is_among table name) skip ∙ sym (none_behind table name ms below))

passed_at : (o : Ordering) (table : List (List ℕ)) (name other : List ℕ) (d : Data) (ms : Members) → Compares other name o → IsBelow name ms
    → (is_null d || is_among table name) ≡ true
    → (is_some (option_and_then unless_null (match_ordering o (get_member other ms) (Some d) (get_member other ms))) && not (is_among table other)) ≡ beside table ms other
passed_at Less table name other d ms is below skip = refl
passed_at Equal table name other d ms is below skip = passed_own table name other d ms (exact_bytes other name is) below skip
passed_at Greater table name other d ms is below skip = refl

-- a member of the table, or a null one, is passed
passed : (table : List (List ℕ)) (name : List ℕ) (d : Data) (ms : Members) → IsBelow name ms → (is_null d || is_among table name) ≡ true
    → SameBeside table (member name d ms) ms
passed table name d ms below skip = λ other. passed_at (slice_cmp nat_cmp other name) table name other d ms refl below skip

least_at : (o : Ordering) (name other : List ℕ) (d : Data) (ms : Members) → Compares other name o → IsBelow name ms
    → is_some (match_ordering o (get_member other ms) (Some d) (get_member other ms)) ≡ true → name_le name other ≡ true
least_at Less name other d ms is below found = ap is_le (below_found name other ms below found)
least_at Equal name other d ms is below found = ap (name_le name) (exact_bytes other name is) ∙ ap is_le (tied_itself nat_list_cmp_total name)
least_at Greater name other d ms is below found = ap is_le (below_found name other ms below found)

stopped : (table : List (List ℕ)) (name : List ℕ) (d : Data) (ms : Members) → IsBelow name ms → (is_null d || is_among table name) ≡ false
    → Tells table (object (member name d ms)) (Err (UnknownField name))
stopped table name d ms below new = (
  name,
  refl,
  own_beside table name d ms ∙ both_not (is_null d) (is_among table name) new,
  λ other is. least_at (slice_cmp nat_cmp other name) name other d ms refl below (beside_found table (member name d ms) other is),
)

-- the walk at one member, which is passed or told
abbrev passed_or_told : Bool → List ℕ → Result ⊤ LineFault
passed_or_told true name = Ok tt
passed_or_told false name = Err (UnknownField name)

tells_step : (b : Bool) (table : List (List ℕ)) (name : List ℕ) (d : Data) (ms : Members) → IsBelow name ms → (is_null d || is_among table name) ≡ b
    → Tells table (object ms) (known_members table ms)
    → Tells table (object (member name d ms)) (passed_or_told b name >>= λ _. known_members table ms)
tells_step true table name d ms below is more = tells_same table (member name d ms) ms (known_members table ms) (passed table name d ms below is) more
tells_step false table name d ms below is more = stopped table name d ms below is

walked : (b : Bool) (table : List (List ℕ)) (name : List ℕ) (d : Data) → (is_null d || is_among table name) ≡ b → known_member table name d ≡ passed_or_told b name
walked true table name d is = rw is refl
walked false table name d is = rw is refl

tells_all : (table : List (List ℕ)) (ms : Members) → MembersAscend ms → Tells table (object ms) (known_members table ms)
tells_all table no_members ascend = λ other. refl
tells_all table (member name d ms) ascend =
    subst (λ r. Tells table (object (member name d ms)) (r >>= λ _. known_members table ms)) (sym (walked (is_null d || is_among table name) table name d refl))
    (tells_step (is_null d || is_among table name) table name d ms ascend.1 refl (tells_all table ms ascend.2))

-- ---- a line

tells_object : (table : List (List ℕ)) (d : Data) → NamesAscend d → is_object d ≡ true → Tells table d (known table d)
tells_object table null ascend is = absurd cc
tells_object table (boolean b) ascend is = absurd cc
tells_object table (number n) ascend is = absurd cc
tells_object table (string s) ascend is = absurd cc
tells_object table (array ds) ascend is = absurd cc
tells_object table (object ms) ascend is = tells_all table ms ascend

read_where : (b : Bool) (line : List ℕ) (d : Data) → cond b (read line) None ≡ Some d → read line ≡ Some d
read_where true line d e = e
read_where false line d e = absurd cc

only_where : (b : Bool) (x d : Data) → is_object x ≡ b → ok_or (cond b (Some x) None) Json ≡ Ok d → (Some x ≡ Some d) × (is_object d ≡ true)
only_where true x d is e = let same : x ≡ d = cc in (ap Some same, ap is_object (sym same) ∙ is)
only_where false x d is e = absurd cc

only_objects : (found : Option Data) (d : Data) → ok_or (only is_object found) Json ≡ Ok d → (found ≡ Some d) × (is_object d ≡ true)
only_objects None d e = absurd cc
only_objects (Some x) d e = only_where (is_object x) x d refl e

-- what is told of the members of a line
tells_line : (line : List ℕ) (d : Data) (op : Op) → object_of line ≡ Ok d → Tells (names (rows op)) d (known (names (rows op)) d)
tells_line line d op is =
    let read = only_objects (json_of line) d is in
    tells_object (names (rows op)) d (read_ascends line d (read_where (is_utf8 line) line d read.0)) read.1

reading_is : (line : List ℕ) (d : Data) (op : Op) (command : Result Command LineFault) → object_of line ≡ Ok d → op_of d ≡ Ok op
    → given (rows op) (make op) d ≡ Ok command → reading_of line ≡ (known (names (rows op)) d >>= λ _. command)
reading_is line d op command is own all =
    ap (λ r. r >>= read_object) is ∙ ap (λ r. r >>= λ o. read_rows (rows o) (make o) d) own
    ∙ ap (λ r. r >>= λ c. known (names (rows op)) d >>= λ _. c) all

-- ---- the laws

le_both : (o : Ordering) (a b : List ℕ) → Compares a b o → name_le a b ≡ true → name_le b a ≡ true → a ≡ b
le_both Less a b is one two =
    let back : slice_cmp nat_cmp b a ≡ Greater = nat_list_cmp_total.antisymm b a ∙ ap ordering_reverse is in
    absurd (let e : is_le Greater ≡ true = sym (ap is_le back) ∙ two in cc)
le_both Equal a b is one two = exact_bytes a b is
le_both Greater a b is one two = absurd (let e : is_le Greater ≡ true = sym (ap is_le is) ∙ one in cc)

least_told : (table : List (List ℕ)) (d : Data) (r : Result ⊤ LineFault) (name : List ℕ) → Tells table d r → is_beside table d name ≡ true
    → ((other : List ℕ) → is_beside table d other ≡ true → name_le name other ≡ true) → r ≡ Err (UnknownField name)
least_told table d (Ok done) name tells is least = absurd (let e : true ≡ false = sym is ∙ tells name in cc)
least_told table d (Err fault) name tells is least =
    ap Err (tells.1 ∙ ap UnknownField (le_both (slice_cmp nat_cmp tells.0 name) tells.0 name refl (tells.3 name is) (least tells.0 tells.2)))

none_told : (table : List (List ℕ)) (d : Data) (r : Result ⊤ LineFault) (command : Result Command LineFault) → Tells table d r
    → ((name : List ℕ) → is_beside table d name ≡ false) → (r >>= λ _. command) ≡ command
none_told table d (Ok done) command tells none = refl
none_told table d (Err fault) command tells none = absurd (let e : true ≡ false = sym tells.2 ∙ none tells.0 in cc)

one_told : (op : Op) (d : Data) (r : Result ⊤ LineFault) (other : List ℕ) → Tells (names (rows op)) d r → is_unknown op d other ≡ true
    → (name : List ℕ) × IsLeastUnknown op d name
one_told op d (Ok done) other tells is = absurd (let e : true ≡ false = sym is ∙ tells other in cc)
one_told op d (Err fault) other tells is = (tells.0, record { unknown = tells.2; least = tells.3 })

pub least : (line : List ℕ) (d : Data) (op : Op) (command : Result Command LineFault) (name : List ℕ) → object_of line ≡ Ok d → op_of d ≡ Ok op
    → given (rows op) (make op) d ≡ Ok command → IsLeastUnknown op d name → reading_of line ≡ Err (UnknownField name)
least line d op command name is own all told =
    reading_is line d op command is own all
    ∙ ap (λ r. r >>= λ _. command) (least_told (names (rows op)) d (known (names (rows op)) d) name (tells_line line d op is) told.unknown told.least)

pub none : (line : List ℕ) (d : Data) (op : Op) (command : Result Command LineFault) → object_of line ≡ Ok d → op_of d ≡ Ok op
    → given (rows op) (make op) d ≡ Ok command → ((name : List ℕ) → is_unknown op d name ≡ false) → reading_of line ≡ command
none line d op command is own all absent =
    reading_is line d op command is own all
    ∙ none_told (names (rows op)) d (known (names (rows op)) d) command (tells_line line d op is) absent

pub some : (line : List ℕ) (d : Data) (op : Op) (other : List ℕ) → object_of line ≡ Ok d → IsTrue (is_unknown op d other)
    → (name : List ℕ) × IsLeastUnknown op d name
some line d op other is there = one_told op d (known (names (rows op)) d) other (tells_line line d op is) there

known_told : (op : Op) (d : Data) (r : Result ⊤ LineFault) (name : List ℕ) → Tells (names (rows op)) d r → r ≡ Err (UnknownField name) → IsLeastUnknown op d name
known_told op d (Ok done) name tells is = absurd cc
known_told op d (Err fault) name tells is =
    let same : tells.0 ≡ name = named_once fault tells.0 name tells.1 (let f : fault ≡ UnknownField name = cc in f) in
    subst (IsLeastUnknown op d) same (record { unknown = tells.2; least = tells.3 })
  where
    named_once : (f : LineFault) (a b : List ℕ) → f ≡ UnknownField a → f ≡ UnknownField b → a ≡ b
    named_once f a b one two = let e : UnknownField a ≡ UnknownField b = sym one ∙ two in cc

pub told_by_walk : (line : List ℕ) (d : Data) (op : Op) (name : List ℕ) → object_of line ≡ Ok d → known (names (rows op)) d ≡ Err (UnknownField name)
    → IsLeastUnknown op d name
told_by_walk line d op name is told = known_told op d (known (names (rows op)) d) name (tells_line line d op is) told
