-- No reader but the walk over the members tells of a member that the operation doesn't have.
use Rattle.std.proofs.Common.{◌≡◌, ℕ, Bool, true, false, cond, codes, List, [], ◌∷◌, Option, Some, None, option_map, option_and_then, is_some, Result, Ok, Err, ok_or, refl, ap, ◌∙◌}
use Rattle.std.specs.Prelude.{⊤}
use Rattle.serde_json.specs.Data.{Data}
use Rattle.pol_script.specs.declared.command.Command.{Command}
use Rattle.pol_script.specs.declared.line_fault.LineFault.{LineFault}
use Rattle.pol_script.specs.declared.line_fault.LineFault.TheVariants as fault
use Rattle.pol_script.specs.declared.op.Op.{Op}
use Rattle.pol_script.specs.declared.op.Op.TheVariants as op
use Rattle.pol_json.specs.Document.{read_document}
use Rattle.pol_json.specs.Members.{present, text_at}
use Rattle.pol_json.specs.Network.{is_network_policy}
use Rattle.pol_netpol.specs.Document.{netpol_of}
use Rattle.pol_netpol.specs.declared.fault.NetFault.{NetFault}
use Rattle.pol_netpol.specs.declared.fault.NetFault.TheVariants as net
use Rattle.pol_labels.specs.LabelText.{read_label}
use Rattle.pol_labels.specs.Order.{label_set_of}
use Rattle.pol_addr.specs.Address.{read_addr}
use Rattle.pol_model.specs.declared.request.Remote.TheVariants as remote
use Rattle.pol_sanitize.specs.Sanitized.{sanitized_of}
use Rattle.pol_script.specs.Commands.{address_of, cilium_policy_of, labels_of, make, net_fault, network_policy_of, policy_of, remote_of}
use Rattle.pol_script.specs.Forms.{Form, read_as, word_among}
use Rattle.pol_script.specs.Members.{Takes, Value, given, known, one_of, read_optional, value_of}
use Rattle.pol_script.specs.Reading.{is_object, json_of, object_of, op_of, read_object, read_rows, reading_of}
use Rattle.pol_script.specs.Steps.{◌>>=◌, each, fault_as, only}
use Rattle.pol_script.specs.Table.{Need, needed, optional, or_else, Row, names, ops, rows}
use Rattle.pol_script.specs.Unknown.{HasLeastUnknown}
use Rattle.pol_script.proofs.LeastUnknown.{told_by_walk}

-- the fault, if any, is of another kind
abbrev Never : {A : Type 0} → Result A LineFault → Type 0
Never r = (name : List ℕ) → r ≡ Err (fault.UnknownField name) → ⊥

abbrev IsOther : LineFault → Type 0
IsOther f = (name : List ℕ) → f ≡ fault.UnknownField name → ⊥

fine : {A : Type 0} (x : A) → Never {A = A} (Ok x)
fine x name e = cc

refused : {A : Type 0} (f : LineFault) → IsOther f → Never {A = A} (Err f)
refused f other name e = other name (let same : f ≡ fault.UnknownField name = cc in same)

or_fault : {A : Type 0} (o : Option A) (f : LineFault) → IsOther f → Never (ok_or o f)
or_fault None f other = refused f other
or_fault (Some x) f other = fine x

then : {A B : Type 0} (r : Result A LineFault) (next : A → Result B LineFault) → Never r → ((x : A) → Never (next x)) → Never (r >>= next)
then (Ok x) next first more = more x
then (Err f) next first more = λ name e. first name (let same : f ≡ fault.UnknownField name = cc in ap Err same)

of_kind : {A E : Type 0} (kind : E → LineFault) (r : Result A E) → ((e : E) → IsOther (kind e)) → Never (fault_as kind r)
of_kind kind (Ok x) other = fine x
of_kind kind (Err e) other = refused (kind e) (other e)

bad_field : (name : List ℕ) → IsOther (fault.BadField name)
bad_field name other e = cc

-- ---- the members of the operation

optional_never : {A : Type 0} (read : Data → Option A) (name : List ℕ) (there : Option Data) → Never (read_optional read name there)
optional_never read name None = fine None
optional_never read name (Some d) = or_fault (option_map Some (read d)) (fault.BadField name) (bad_field name)

or_else_where : {A : Type 0} (b : Bool) (r : Result A LineFault) (f : LineFault) → Never r → IsOther f → Never (cond b r (Err f))
or_else_where true r f own other = own
or_else_where false r f own other = refused f other

value_never : (need : Need) (form : Form) (name : List ℕ) (d : Data) → Never (value_of need form name d)
value_never needed form name d = or_fault (option_and_then (read_as form) (present name d)) (fault.BadField name) (bad_field name)
value_never optional form name d = optional_never (read_as form) name (present name d)
value_never (or_else other) form name d =
    or_else_where (one_of (is_some (present name d)) (is_some (present other d))) (read_optional (read_as form) name (present name d)) (fault.BadField name)
    (optional_never (read_as form) name (present name d)) (bad_field name)

given_never : {M : Type 0} (table : List Row) (made : Takes table M) (d : Data) → Never (given table made d)
given_never [] made d = fine made
given_never (row ∷ table) made d =
    then (value_of row.need row.form row.name d) (λ value. given table (made value) d) (value_never row.need row.form row.name d)
    (λ value. given_never table (made value) d)

-- ---- what the members hold

abbrev AlwaysNever : (table : List Row) → Takes table (Result Command LineFault) → Type 0
AlwaysNever [] made = Never made
AlwaysNever (row ∷ table) made = (value : Value row.need row.form) → AlwaysNever table (made value)

labels_never : (texts : List (List ℕ)) → Never (labels_of texts)
labels_never texts =
    then (ok_or (each read_label texts) fault.BadLabel) (λ labels. ok_or (label_set_of labels) fault.DuplicateLabelKey)
    (or_fault (each read_label texts) fault.BadLabel (λ name e. cc)) (λ labels. or_fault (label_set_of labels) fault.DuplicateLabelKey (λ name e. cc))

address_never : (text : List ℕ) → Never (address_of text)
address_never text = or_fault (read_addr text) fault.BadAddress (λ name e. cc)

cilium_policy_never : (document : Data) → Never (cilium_policy_of document)
cilium_policy_never document =
    then (fault_as fault.Doc (read_document document)) (λ raw. fault_as fault.Rule (sanitized_of raw))
    (of_kind fault.Doc (read_document document) (λ f name e. cc)) (λ raw. of_kind fault.Rule (sanitized_of raw) (λ f name e. cc))

net_other : (f : NetFault) → IsOther (net_fault f)
net_other (net.Doc f) = λ name e. cc
net_other (net.Rule f) = λ name e. cc

policy_never_where : (is_network : Bool) (document : Data) → Never (cond is_network (network_policy_of document) (cilium_policy_of document))
policy_never_where true document = of_kind net_fault (netpol_of document) net_other
policy_never_where false document = cilium_policy_never document

policy_never : (document : Data) → Never (policy_of document)
policy_never document = policy_never_where (is_network_policy document) document

remote_never : (number : Option ℕ) (text : Option (List ℕ)) → Never (remote_of number text)
remote_never (Some number) text = fine (remote.Identity number)
remote_never None (Some text) = then (address_of text) (λ address. Ok (remote.Address address)) (address_never text) (λ address. fine (remote.Address address))
remote_never None None = refused (fault.BadField _) (bad_field _)

made_never : (o : Op) → AlwaysNever (rows o) (make o)
made_never op.Endpoint = λ name labels address session. then (labels_of labels) _ (labels_never labels) (λ set. then (address_of address) _ (address_never address) (λ at. fine _))
made_never op.RemoveEndpoint = λ name session. fine _
made_never op.Identity = λ name labels session. then (labels_of labels) _ (labels_never labels) (λ set. fine _)
made_never op.RemoveIdentity = λ name session. fine _
made_never op.Apply = λ document session. then (policy_of document) _ (policy_never document) (λ policy. fine _)
made_never op.Delete = λ cluster_wide namespace name session. fine _
made_never op.Mode = λ mode session. fine _
made_never op.Verdict = λ endpoint dir identity address proto port session. then (remote_of identity address) _ (remote_never identity address) (λ side. fine _)
made_never op.Trace = λ endpoint dir identity address proto port session. then (remote_of identity address) _ (remote_never identity address) (λ side. fine _)
made_never op.Sync = λ session. fine _
made_never op.Phase = fine _

given_after : (row : Row) (table : List Row) (made : Takes (row ∷ table) (Result Command LineFault)) (d : Data) (command : Result Command LineFault)
    (r : Result (Value row.need row.form) LineFault) → ((value : Value row.need row.form) → given table (made value) d ≡ Ok command → Never command)
    → (r >>= λ value. given table (made value) d) ≡ Ok command → Never command
given_after row table made d command (Ok value) more e = more value e
given_after row table made d command (Err f) more e = absurd cc

given_command : (table : List Row) (made : Takes table (Result Command LineFault)) (d : Data) (command : Result Command LineFault) → AlwaysNever table made
    → given table made d ≡ Ok command → Never command
given_command [] made d command never is = λ name e. never name (let same : made ≡ command = cc in same ∙ e)
given_command (row ∷ table) made d command never is =
    given_after row table made d command (value_of row.need row.form row.name d)
    (λ value e. given_command table (made value) d command (never value) e) is

-- ---- the line

object_never : (line : List ℕ) → Never (object_of line)
object_never line = or_fault (only is_object (json_of line)) fault.Json (λ name e. cc)

op_never : (d : Data) → Never (op_of d)
op_never d = or_fault (option_and_then (word_among ops) (text_at (codes "op") d)) fault.NoOp (λ name e. cc)

module _ (line name : List ℕ) where
  told_known : (d : Data) (o : Op) (command : Result Command LineFault) (r : Result ⊤ LineFault) → object_of line ≡ Ok d → op_of d ≡ Ok o
      → given (rows o) (make o) d ≡ Ok command → known (names (rows o)) d ≡ r → (r >>= λ _. command) ≡ Err (fault.UnknownField name) → HasLeastUnknown line name
  told_known d o command (Ok done) is own all walked e = absurd (given_command (rows o) (make o) d command (made_never o) all name e)
  told_known d o command (Err f) is own all walked e =
      let same : f ≡ fault.UnknownField name = cc in
      record { value = d; operation = o; is_read = is; is_of = own; least = told_by_walk line d o name is (walked ∙ ap Err same) }

  told_given : (d : Data) (o : Op) (r : Result (Result Command LineFault) LineFault) → object_of line ≡ Ok d → op_of d ≡ Ok o → given (rows o) (make o) d ≡ r
      → (r >>= λ command. known (names (rows o)) d >>= λ _. command) ≡ Err (fault.UnknownField name) → HasLeastUnknown line name
  told_given d o (Ok command) is own all e = told_known d o command (known (names (rows o)) d) is own all refl e
  told_given d o (Err f) is own all e =
      let same : f ≡ fault.UnknownField name = cc in absurd (given_never (rows o) (make o) d name (all ∙ ap Err same))

  told_op : (d : Data) (r : Result Op LineFault) → object_of line ≡ Ok d → op_of d ≡ r → (r >>= λ o. read_rows (rows o) (make o) d) ≡ Err (fault.UnknownField name)
      → HasLeastUnknown line name
  told_op d (Ok o) is own e = told_given d o (given (rows o) (make o) d) is own refl e
  told_op d (Err f) is own e = let same : f ≡ fault.UnknownField name = cc in absurd (op_never d name (own ∙ ap Err same))

  told_object : (r : Result Data LineFault) → object_of line ≡ r → (r >>= read_object) ≡ Err (fault.UnknownField name) → HasLeastUnknown line name
  told_object (Ok d) is e = told_op d (op_of d) is refl e
  told_object (Err f) is e = let same : f ≡ fault.UnknownField name = cc in absurd (object_never line name (is ∙ ap Err same))

pub told : (line name : List ℕ) → reading_of line ≡ Err (fault.UnknownField name) → HasLeastUnknown line name
told line name e = told_object line name (object_of line) refl e
