-- What is made of a line's members: each value has the form of its row, so what holds of all that is made of such values holds of
-- what an operation reads as.
use Rattle.std.proofs.Common.{◌≡◌, ℕ, Bool, true, false, if◌then◌else◌, List, [], ◌∷◌, Option, None, Some, is_some, ok_or, option_map, option_and_then, IfSome, Result, Ok, Err, inl, inr, refl, ap, subst}
use Rattle.std.specs.Prelude.{⊤, ◌⊎◌}
use Rattle.std.specs.Str.{bytes_eq}
use Rattle.serde_json.specs.Data.{Data}
use Rattle.serde_json.specs.Find.{as_number, as_str, as_u64}
use Rattle.pol_json.specs.Members.{present}
use Rattle.pol_json.specs.Texts.{is_name}
use Rattle.pol_script.specs.Commands.{make}
use Rattle.pol_script.specs.Forms.{Form, a_name, a_text, texts, anything, a_kind, a_mode, a_direction, a_protocol, whole, Read, is_within, kinds, read_as, word_among}
use Rattle.pol_script.specs.Members.{Takes, Value, given, known, one_of, read_optional, value_of}
use Rattle.pol_script.specs.Reading.{read_op}
use Rattle.pol_script.specs.Steps.{◌>>=◌, only}
use Rattle.pol_script.specs.Table.{Need, needed, optional, or_else, Row, names, rows}
use Rattle.pol_script.specs.declared.command.Command.{Command}
use Rattle.pol_script.specs.declared.line_fault.LineFault.{LineFault}
use Rattle.pol_script.specs.declared.line_fault.LineFault.TheVariants as fault
use Rattle.pol_script.specs.declared.op.Op.{Op}

-- ---- what gives a value

pub there : {A : Type 0} (o : Option A) (f : LineFault) (x : A) → ok_or o f ≡ Ok x → o ≡ Some x
there None f x is = absurd cc
there (Some y) f x is = let same : y ≡ x = cc in ap Some same

-- the value is that of one of the words
abbrev pub IsOfWords : {A : Type 0} → List (List ℕ × A) → A → Type 0
IsOfWords [] value = ⊥
IsOfWords (word ∷ words) value = (word.1 ≡ value) ⊎ IsOfWords words value

word_first : {A : Type 0} (words : List (List ℕ × A)) (b : Bool) (one value : A) (more : Option A) → (if b then Some one else more) ≡ Some value
    → (more ≡ Some value → IsOfWords words value) → (one ≡ value) ⊎ IsOfWords words value
word_first words true one value more is behind = inl cc
word_first words false one value more is behind = inr (behind is)

pub word_found : {A : Type 0} (words : List (List ℕ × A)) (said : List ℕ) (value : A) → word_among words said ≡ Some value → IsOfWords words value
word_found [] said value is = absurd cc
word_found (word ∷ words) said value is =
    word_first words (bytes_eq said word.0) word.1 value (word_among words said) is (word_found words said value)

-- ---- a value has its form

abbrev pub HasForm : (form : Form) → Read form → Type 0
HasForm a_name value = is_name value ≡ true
HasForm (whole least greatest) value = is_within least greatest value ≡ true
HasForm a_kind value = IsOfWords kinds value
HasForm form value = Unit {0}

abbrev pub Fits : (need : Need) (form : Form) → Value need form → Type 0
Fits needed form value = HasForm form value
Fits optional form value = IfSome value (HasForm form)
Fits (or_else other) form value = IfSome value (HasForm form)

passes : {A : Type 0} (test : A → Bool) (b : Bool) (x y : A) → test x ≡ b → (if b then Some x else None) ≡ Some y → test y ≡ true
passes test true x y is found = let same : x ≡ y = cc in subst (λ z. test z ≡ true) same is
passes test false x y is found = absurd cc

only_passes : {A : Type 0} (test : A → Bool) (o : Option A) (y : A) → only test o ≡ Some y → test y ≡ true
only_passes test None y found = absurd cc
only_passes test (Some x) y found = passes test (test x) x y refl found

kind_read : (said : Option (List ℕ)) (value : Read a_kind) → option_and_then (word_among kinds) said ≡ Some value → IsOfWords kinds value
kind_read None value found = absurd cc
kind_read (Some said) value found = word_found kinds said value found

form_read : (form : Form) (d : Data) (value : Read form) → read_as form d ≡ Some value → HasForm form value
form_read a_name d value found = only_passes is_name (as_str d) value found
form_read (whole least greatest) d value found = only_passes (is_within least greatest) (option_and_then as_u64 (as_number d)) value found
form_read a_text d value found = tt
form_read texts d value found = tt
form_read anything d value found = tt
form_read a_kind d value found = kind_read (as_str d) value found
form_read a_mode d value found = tt
form_read a_direction d value found = tt
form_read a_protocol d value found = tt

needed_fits : (form : Form) (name : List ℕ) (o : Option Data) (value : Read form) → ok_or (option_and_then (read_as form) o) (fault.BadField name) ≡ Ok value
    → HasForm form value
needed_fits form name None value is = absurd cc
needed_fits form name (Some d) value is = form_read form d value (there (read_as form d) (fault.BadField name) value is)

some_fits : (form : Form) (name : List ℕ) (d : Data) (o : Option (Read form)) (value : Option (Read form)) → read_as form d ≡ o
    → ok_or (option_map Some o) (fault.BadField name) ≡ Ok value → IfSome value (HasForm form)
some_fits form name d None value reads is = absurd cc
some_fits form name d (Some x) value reads is = let same : Some x ≡ value = cc in subst (λ v. IfSome v (HasForm form)) same (form_read form d x reads)

optional_fits : (form : Form) (name : List ℕ) (o : Option Data) (value : Option (Read form)) → read_optional (read_as form) name o ≡ Ok value
    → IfSome value (HasForm form)
optional_fits form name None value is = let same : None ≡ value = cc in subst (λ v. IfSome v (HasForm form)) same tt
optional_fits form name (Some d) value is = some_fits form name d (read_as form d) value refl is

or_else_fits : (form : Form) (name : List ℕ) (o : Option Data) (one : Bool) (value : Option (Read form))
    → (if one then read_optional (read_as form) name o else Err (fault.BadField name)) ≡ Ok value → IfSome value (HasForm form)
or_else_fits form name o true value is = optional_fits form name o value is
or_else_fits form name o false value is = absurd cc

value_fits : (need : Need) (form : Form) (name : List ℕ) (d : Data) (value : Value need form) → value_of need form name d ≡ Ok value → Fits need form value
value_fits needed form name d value is = needed_fits form name (present name d) value is
value_fits optional form name d value is = optional_fits form name (present name d) value is
value_fits (or_else other) form name d value is =
    or_else_fits form name (present name d) (one_of (is_some (present name d)) (is_some (present other d))) value is

-- ---- what is made of them

abbrev Asked : Type 0
Asked = Result Command LineFault

-- whatever values of their forms the members have, it holds of what is made of them
abbrev pub AllHold : (Asked → Type 0) → (table : List Row) → Takes table Asked → Type 0
AllHold Holds [] made = Holds made
AllHold Holds (row ∷ table) make = (value : Value row.need row.form) → Fits row.need row.form value → AllHold Holds table (make value)

given_value : (Holds : Asked → Type 0) (row : Row) (table : List Row) (make : Takes (row ∷ table) Asked) (d : Data) (made : Asked)
    (v : Result (Value row.need row.form) LineFault) → AllHold Holds (row ∷ table) make → value_of row.need row.form row.name d ≡ v
    → (v >>= λ value. given table (make value) d) ≡ Ok made
    → ((value : Value row.need row.form) → AllHold Holds table (make value) → given table (make value) d ≡ Ok made → Holds made) → Holds made
given_value Holds row table make d made (Ok value) all of is more = more value (all value (value_fits row.need row.form row.name d value of)) is
given_value Holds row table make d made (Err f) all of is more = absurd cc

given_holds : (Holds : Asked → Type 0) (table : List Row) (make : Takes table Asked) (d : Data) (made : Asked) → AllHold Holds table make
    → given table make d ≡ Ok made → Holds made
given_holds Holds [] make d made all is = let same : make ≡ made = cc in subst Holds same all
given_holds Holds (row ∷ table) make d made all is =
    given_value Holds row table make d made (value_of row.need row.form row.name d) all refl is (λ value. given_holds Holds table (make value) d made)

module _ (Holds : Asked → Type 0) (refused : (f : LineFault) → Holds (Err f)) where
  rows_known : (k : Result ⊤ LineFault) (made : Asked) → Holds made → Holds (k >>= λ _. made)
  rows_known (Ok u) made own = own
  rows_known (Err f) made own = refused f

  rows_given : (g : Result Asked LineFault) (k : Result ⊤ LineFault) → ((made : Asked) → g ≡ Ok made → Holds made) → Holds (g >>= λ made. k >>= λ _. made)
  rows_given (Ok made) k own = rows_known k made (own made refl)
  rows_given (Err f) k own = refused f

  -- so it holds of what the operation reads as, where it holds of each line that isn't read
  pub op_holds : (o : Op) (d : Data) → AllHold Holds (rows o) (make o) → Holds (read_op o d)
  op_holds o d all = rows_given (given (rows o) (make o) d) (known (names (rows o)) d) (λ made. given_holds Holds (rows o) (make o) d made all)
