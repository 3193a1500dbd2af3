-- What a line reads as is small: its policy by the bytes of the line, a fault of a rule too, and the other side that a query names has 32 bits.
use Rattle.std.proofs.Common.{◌≡◌, ℕ, ◌+◌, ◌≤◌, ◌||◌, nat_le, Bool, true, false, if◌then◌else◌, List, [], ◌∷◌, length, codes, Option, None, Some, option_map, option_and_then, ok_or, is_some, IfSome, Result, Ok, Err, refl, sym, subst, arith, leb-true}
use Rattle.std.specs.List.{AllByRecursion}
use Rattle.std.specs.Prelude.{⊤}
use Rattle.std.specs.Str.{is_utf8}
use Rattle.serde_json.specs.Data.{Data, Members, no_members, member}
use Rattle.serde_json.specs.Find.{as_number, as_object, as_u64}
use Rattle.serde_json.specs.Read.{read}
use Rattle.pol_addr.specs.Address.{read_addr}
use Rattle.pol_addr.specs.declared.address.Addr.{Addr}
use Rattle.pol_json.specs.Members.{is_null, present, text_at}
use Rattle.pol_labels.specs.LabelText.{read_label}
use Rattle.pol_labels.specs.Order.{label_set_of}
use Rattle.pol_labels.specs.declared.label.Label.{Label}
use Rattle.pol_model.specs.declared.request.Remote.{Remote}
use Rattle.pol_model.specs.declared.request.Remote.TheVariants as remote
use Rattle.pol_model.specs.declared.request.Request.{Request}
use Rattle.pol_model.specs.declared.request.Request.TheVariants as request
use Rattle.pol_ports.specs.declared.Direction.{Direction}
use Rattle.pol_ports.specs.declared.Proto.{Proto}
use Rattle.pol_rule.specs.declared.policy.Policy.{Policy}
use Rattle.pol_script.proofs.Given.{there}
use Rattle.pol_script.proofs.ScriptLaws.{both_parts}
use Rattle.pol_script.specs.Commands.{address_of, asks, commit, labels_of, make, policy_of, query_from, remote_of}
use Rattle.pol_script.specs.Forms.{Form, a_name, a_text, texts, anything, a_kind, a_mode, a_direction, a_protocol, whole, Read, is_within, read_as}
use Rattle.pol_script.specs.Members.{Takes, Value, given, is_among, known, known_in, known_member, known_members, one_of, read_optional, value_of}
use Rattle.pol_script.specs.Reading.{is_object, json_of, read_object, read_op, reading_of}
use Rattle.pol_script.specs.Steps.{◌>>=◌, each, only}
use Rattle.pol_script.specs.Table.{ops, Need, needed, optional, or_else, Row, names, rows}
use Rattle.pol_script.specs.declared.command.Command.{Command}
use Rattle.pol_script.specs.declared.command.Command.TheVariants as command
use Rattle.pol_script.specs.declared.line_fault.LineFault.{LineFault}
use Rattle.pol_script.specs.declared.line_fault.LineFault.TheVariants as fault
use Rattle.answer_laws.proofs.ShortPolicies.{AtMost, IsShortReading, IsSmallFault, present_few, read_short}
use Rattle.answer_laws.proofs.TextNodes.{read_nodes}
use Rattle.answer_laws.proofs.Words.{words_hold}
use Rattle.answer_laws.specs.Nodes.{nodes}
use Rattle.answer_laws.specs.Short.{IsShortPolicy}

abbrev Asked : Type 0
Asked = Result Command LineFault

-- ---- what is asked

-- the number of an identity that a query names
abbrev pub IsSmallRemote : Remote → Type 0
IsSmallRemote (remote.Identity number) = number ≤ 4294967295
IsSmallRemote (remote.Address address) = Unit {0}

module _ (n : ℕ) where
  abbrev pub BringsShort : Request → Type 0
  BringsShort (request.Apply policy) = IsShortPolicy n policy
  BringsShort other = Unit {0}

  abbrev pub AsksSmall : Command → Type 0
  AsksSmall (command.Commit session asked) = BringsShort asked
  AsksSmall (command.Trace session query) = IsSmallRemote query.remote
  AsksSmall other = Unit {0}

  abbrev pub IsSmallReading : Asked → Type 0
  IsSmallReading (Ok asked) = AsksSmall asked
  IsSmallReading (Err f) = IsSmallFault n f

-- ---- the members of a line

-- what is known of a value that was read of an object of at most so many nodes
abbrev HasForm : ℕ → (form : Form) → Read form → Type 0
HasForm n (whole least greatest) value = value ≤ greatest
HasForm n anything value = nodes value ≤ n
HasForm n form value = Unit {0}

abbrev Fits : ℕ → (need : Need) (form : Form) → Value need form → Type 0
Fits n needed form value = HasForm n form value
Fits n optional form value = IfSome value (HasForm n form)
Fits n (or_else other) form value = IfSome value (HasForm n form)

passes : (least greatest x y : ℕ) (b : Bool) → is_within least greatest x ≡ b → (if b then Some x else None) ≡ Some y → y ≤ greatest
passes least greatest x y true is found =
    let same : x ≡ y = cc in
    let below : x ≤ greatest = leb-true x greatest (both_parts (nat_le least x) (nat_le x greatest) is).1 in
    subst (λ (z : ℕ). z ≤ greatest) same below
passes least greatest x y false is found = absurd cc

only_passes : (least greatest y : ℕ) (o : Option ℕ) → only (is_within least greatest) o ≡ Some y → y ≤ greatest
only_passes least greatest y None found = absurd cc
only_passes least greatest y (Some x) found = passes least greatest x y (is_within least greatest x) refl found

form_read : (n : ℕ) (form : Form) (d : Data) (value : Read form) → nodes d ≤ n → read_as form d ≡ Some value → HasForm n form value
form_read n a_name d value few found = tt
form_read n (whole least greatest) d value few found = only_passes least greatest value (option_and_then as_u64 (as_number d)) found
form_read n a_text d value few found = tt
form_read n texts d value few found = tt
form_read n anything d value few found = let same : d ≡ value = cc in subst (λ (x : Data). nodes x ≤ n) same few
form_read n a_kind d value few found = tt
form_read n a_mode d value few found = tt
form_read n a_direction d value few found = tt
form_read n a_protocol d value few found = tt

-- a member that is there has few nodes
abbrev IsFew : ℕ → Option Data → Type 0
IsFew n None = Unit {0}
IsFew n (Some d) = nodes d ≤ n

needed_fits : (n : ℕ) (form : Form) (name : List ℕ) (o : Option Data) (value : Read form) → IsFew n o
    → ok_or (option_and_then (read_as form) o) (fault.BadField name) ≡ Ok value → HasForm n form value
needed_fits n form name None value few is = absurd cc
needed_fits n form name (Some d) value few is = form_read n form d value few (there (read_as form d) (fault.BadField name) value is)

some_fits : (n : ℕ) (form : Form) (name : List ℕ) (d : Data) (o : Option (Read form)) (value : Option (Read form)) → nodes d ≤ n → read_as form d ≡ o
    → ok_or (option_map Some o) (fault.BadField name) ≡ Ok value → IfSome value (HasForm n form)
some_fits n form name d None value few reads is = absurd cc
some_fits n form name d (Some x) value few reads is = let same : Some x ≡ value = cc in subst (λ v. IfSome v (HasForm n form)) same (form_read n form d x few reads)

optional_fits : (n : ℕ) (form : Form) (name : List ℕ) (o : Option Data) (value : Option (Read form)) → IsFew n o → read_optional (read_as form) name o ≡ Ok value
    → IfSome value (HasForm n form)
optional_fits n form name None value few is = let same : None ≡ value = cc in subst (λ v. IfSome v (HasForm n form)) same tt
optional_fits n form name (Some d) value few is = some_fits n form name d (read_as form d) value few refl is

or_else_fits : (n : ℕ) (form : Form) (name : List ℕ) (o : Option Data) (one : Bool) (value : Option (Read form)) → IsFew n o
    → (if one then read_optional (read_as form) name o else Err (fault.BadField name)) ≡ Ok value → IfSome value (HasForm n form)
or_else_fits n form name o true value few is = optional_fits n form name o value few is
or_else_fits n form name o false value few is = absurd cc

value_fits : (n : ℕ) (need : Need) (form : Form) (name : List ℕ) (d : Data) (value : Value need form) → IsFew n (present name d) → value_of need form name d ≡ Ok value
    → Fits n need form value
value_fits n needed form name d value few is = needed_fits n form name (present name d) value few is
value_fits n optional form name d value few is = optional_fits n form name (present name d) value few is
value_fits n (or_else other) form name d value few is =
    or_else_fits n form name (present name d) (one_of (is_some (present name d)) (is_some (present other d))) value few is

-- ---- what a value is refused for

abbrev IsBad : {A : Type 0} → List ℕ → Result A LineFault → Type 0
IsBad name (Ok value) = Unit {0}
IsBad name (Err f) = f ≡ fault.BadField name

ok_or_bad : {A : Type 0} (name : List ℕ) (o : Option A) → IsBad name (ok_or o (fault.BadField name))
ok_or_bad name None = refl
ok_or_bad name (Some x) = tt

optional_bad : {A : Type 0} (read : Data → Option A) (name : List ℕ) (o : Option Data) → IsBad name (read_optional read name o)
optional_bad read name None = tt
optional_bad read name (Some d) = ok_or_bad name (option_map Some (read d))

or_else_bad : {A : Type 0} (read : Data → Option A) (name : List ℕ) (o : Option Data) (one : Bool)
    → IsBad name (if one then read_optional read name o else Err (fault.BadField name))
or_else_bad read name o true = optional_bad read name o
or_else_bad read name o false = refl

value_bad : (need : Need) (form : Form) (name : List ℕ) (d : Data) → IsBad name (value_of need form name d)
value_bad needed form name d = ok_or_bad name (option_and_then (read_as form) (present name d))
value_bad optional form name d = optional_bad (read_as form) name (present name d)
value_bad (or_else other) form name d =
    or_else_bad (read_as form) name (present name d) (one_of (is_some (present name d)) (is_some (present other d)))

-- ---- what is made of the members

module _ (n : ℕ) where
  abbrev Holds : Asked → Type 0
  Holds made = IsSmallReading n made

  abbrev IfGiven : Result Asked LineFault → Type 0
  IfGiven (Ok made) = Holds made
  IfGiven (Err f) = IsSmallFault n f

  abbrev AllHold : (table : List Row) → Takes table Asked → Type 0
  AllHold [] made = Holds made
  AllHold (row ∷ table) make = (value : Value row.need row.form) → Fits n row.need row.form value → AllHold table (make value)

  given_value : (row : Row) (table : List Row) (make : Takes (row ∷ table) Asked) (d : Data) (v : Result (Value row.need row.form) LineFault) → value_of row.need row.form row.name d ≡ v
      → IsFew n (present row.name d) → IsBad row.name v → AllHold (row ∷ table) make
      → ((value : Value row.need row.form) → AllHold table (make value) → IfGiven (given table (make value) d)) → IfGiven (v >>= λ value. given table (make value) d)
  given_value row table make d (Ok value) of few bad all more = more value (all value (value_fits n row.need row.form row.name d value few of))
  given_value row table make d (Err f) of few bad all more = subst (IsSmallFault n) (sym bad) tt

  given_holds : (table : List Row) (make : Takes table Asked) (d : Data) → ((name : List ℕ) → IsFew n (present name d)) → AllHold table make → IfGiven (given table make d)
  given_holds [] make d few all = all
  given_holds (row ∷ table) make d few all =
      given_value row table make d (value_of row.need row.form row.name d) refl (few row.name) (value_bad row.need row.form row.name d) all
      (λ value own. given_holds table (make value) d few own)

  -- members of other names
  abbrev IfKnown : Result ⊤ LineFault → Type 0
  IfKnown (Ok u) = Unit {0}
  IfKnown (Err f) = IsSmallFault n f

  one_known : (name : List ℕ) (b : Bool) → IfKnown (if b then Ok tt else Err (fault.UnknownField name))
  one_known name true = tt
  one_known name false = tt

  then_known : (r s : Result ⊤ LineFault) → IfKnown r → IfKnown s → IfKnown (r >>= λ _. s)
  then_known (Ok u) s one others = others
  then_known (Err f) s one others = one

  members_known : (of : List (List ℕ)) (ms : Members) → IfKnown (known_members of ms)
  members_known of no_members = tt
  members_known of (member name d ms) =
      then_known (known_member of name d) (known_members of ms) (one_known name (is_null d || is_among of name)) (members_known of ms)

  object_known : (of : List (List ℕ)) (o : Option Members) → IfKnown (known_in of o)
  object_known of None = tt
  object_known of (Some ms) = members_known of ms

  rows_known : (k : Result ⊤ LineFault) (made : Asked) → IfKnown k → Holds made → Holds (k >>= λ _. made)
  rows_known (Ok u) made known own = own
  rows_known (Err f) made known own = known

  rows_given : (g : Result Asked LineFault) (k : Result ⊤ LineFault) → IfKnown k → IfGiven g → Holds (g >>= λ made. k >>= λ _. made)
  rows_given (Ok made) k known own = rows_known k made known own
  rows_given (Err f) k known own = own

  -- ---- the operations

  abbrev IsPlain : {A : Type 0} → Result A LineFault → Type 0
  IsPlain (Ok x) = Unit {0}
  IsPlain (Err f) = IsSmallFault n f

  set_plain : (o : Option (List Label)) → IsPlain (ok_or o fault.DuplicateLabelKey)
  set_plain None = tt
  set_plain (Some set) = tt

  labels_by : (o : Option (List Label)) → IsPlain (ok_or o fault.BadLabel >>= λ labels. ok_or (label_set_of labels) fault.DuplicateLabelKey)
  labels_by None = tt
  labels_by (Some labels) = set_plain (label_set_of labels)

  labels_plain : (said : List (List ℕ)) → IsPlain (labels_of said)
  labels_plain said = labels_by (each read_label said)

  address_by : (o : Option Addr) → IsPlain (ok_or o fault.BadAddress)
  address_by None = tt
  address_by (Some address) = tt

  address_plain : (said : List ℕ) → IsPlain (address_of said)
  address_plain said = address_by (read_addr said)

  abbrev IsSmallOther : Result Remote LineFault → Type 0
  IsSmallOther (Ok other) = IsSmallRemote other
  IsSmallOther (Err f) = IsSmallFault n f

  at_address : (address : Result Addr LineFault) → IsPlain address → IsSmallOther (address >>= λ at. Ok (remote.Address at))
  at_address (Ok at) plain = tt
  at_address (Err f) plain = plain

  remote_small : (identity : Option ℕ) (address : Option (List ℕ)) → IfSome identity (λ number. number ≤ 4294967295) → IsSmallOther (remote_of identity address)
  remote_small (Some number) address small = small
  remote_small None (Some said) small = at_address (address_of said) (address_plain said)
  remote_small None None small = tt

  endpoint_small : (name : List ℕ) (session : Option ℕ) (labels : Result (List Label) LineFault) (address : Result Addr LineFault) → IsPlain labels → IsPlain address
      → Holds (labels >>= λ set. address >>= λ at. Ok (commit session (request.AddEndpoint name set at)))
  endpoint_small name session (Ok set) (Ok at) plain other = tt
  endpoint_small name session (Ok set) (Err f) plain other = other
  endpoint_small name session (Err f) address plain other = plain

  identity_small : (name : List ℕ) (session : Option ℕ) (labels : Result (List Label) LineFault) → IsPlain labels
      → Holds (labels >>= λ set. Ok (commit session (request.AddIdentity name set)))
  identity_small name session (Ok set) plain = tt
  identity_small name session (Err f) plain = plain

  apply_small : (session : Option ℕ) (p : Result Policy LineFault) → IsShortReading n p → Holds (p >>= λ policy. Ok (commit session (request.Apply policy)))
  apply_small session (Ok policy) short = short
  apply_small session (Err f) short = short

  query_small : (is_trace : Bool) (endpoint : List ℕ) (dir : Direction) (proto : Proto) (port : ℕ) (session : Option ℕ) (other : Result Remote LineFault) → IsSmallOther other
      → Holds (other >>= λ remote. Ok (asks is_trace session (query_from endpoint dir proto port remote)))
  query_small true endpoint dir proto port session (Ok remote) small = small
  query_small false endpoint dir proto port session (Ok remote) small = tt
  query_small is_trace endpoint dir proto port session (Err f) small = small

  -- in the order of the words of the operations
  ops_small : AllByRecursion (λ word. AllHold (rows word.1) (make word.1)) ops
  ops_small = (
    λ name _ labels _ address _ session _. endpoint_small name session (labels_of labels) (address_of address) (labels_plain labels) (address_plain address),
    (
      λ name _ session _. tt,
      (
        λ name _ labels _ session _. identity_small name session (labels_of labels) (labels_plain labels),
        (
          λ name _ session _. tt,
          (
            λ document few session _. apply_small session (policy_of document) (read_short n document few),
            (
              λ kind _ namespace _ name _ session _. tt,
              (
                λ mode _ session _. tt,
                (
                  λ endpoint _ dir _ identity own address _ proto _ port _ session _. query_small false endpoint dir proto port session (remote_of identity address) (remote_small identity address own),
                  (
                    λ endpoint _ dir _ identity own address _ proto _ port _ session _. query_small true endpoint dir proto port session (remote_of identity address) (remote_small identity address own),
                    (
                      λ session _. tt,
                      (
                        tt,
                        tt,
                      ),
                    ),
                  ),
                ),
              ),
            ),
          ),
        ),
      ),
    ),
  )

  -- ---- lines

  object_small : (d : Data) → ((name : List ℕ) → IsFew n (present name d)) → Holds (read_object d)
  object_small d few =
      words_hold Holds (λ o. AllHold (rows o) (make o)) (λ o. read_op o d) fault.NoOp tt
      (λ o all. rows_given (given (rows o) (make o) d) (known (names (rows o)) d) (object_known (names (rows o)) (as_object d)) (given_holds (rows o) (make o) d few all))
      ops (text_at (codes "op") d) ops_small

  abbrev IfFew : Option Data → Type 0
  IfFew None = Unit {0}
  IfFew (Some d) = nodes d ≤ n + 1

  member_few : (d : Data) (o : Option Data) → nodes d ≤ n + 1 → AtMost (nodes d) o → IsFew n o
  member_few d None room few = tt
  member_few d (Some e) room few = omega (arith, room, few)

  line_small : (o : Option Data) → IfFew o → Holds (ok_or o fault.Json >>= read_object)
  line_small None few = tt
  line_small (Some d) few =
      object_small d (λ name. member_few d (present name d) few (present_few name d))

  -- an object, if it is one
  object_or : (d : Data) (b : Bool) → nodes d ≤ n + 1 → IfFew (if b then Some d else None)
  object_or d true few = few
  object_or d false few = tt

  only_few : (o : Option Data) → IfFew o → IfFew (only is_object o)
  only_few None few = tt
  only_few (Some d) few = object_or d (is_object d) few

read_few : (line : List ℕ) (o : Option Data) → read line ≡ o → IfFew (length line) o
read_few line None is = tt
read_few line (Some d) is = read_nodes line d is

utf8_few : (line : List ℕ) (b : Bool) → IfFew (length line) (if b then read line else None)
utf8_few line true = read_few line (read line) refl
utf8_few line false = tt

-- what a line reads as is small by its bytes
pub reading_small : (line : List ℕ) → IsSmallReading (length line) (reading_of line)
reading_small line = line_small (length line) (only is_object (json_of line)) (only_few (length line) (json_of line) (utf8_few line (is_utf8 line)))
