-- The names that a line asks for have their forms: an endpoint's name is a name of the script, and a policy's key is one of a
-- document that is read.
use Rattle.std.proofs.Common.{◌≡◌, ℕ, Bool, true, false, cond, ◌||◌, List, [], ◌++◌, Option, Result, Ok, Err, IsTrue, refl, sym, ap, subst, ◌∙◌}
use Rattle.serde_json.specs.Data.{Data}
use Rattle.pol_addr.specs.declared.address.Addr.{Addr}
use Rattle.pol_json.proofs.Keys.{key_name, key_namespace, wide_key}
use Rattle.pol_json.specs.Document.{read_document}
use Rattle.pol_json.specs.Network.{is_network_policy, network_name, network_namespace}
use Rattle.pol_json.specs.Texts.{is_dns_name, is_name}
use Rattle.pol_json.specs.declared.fault.DocFault.{DocFault}
use Rattle.pol_netpol.proofs.ReadKept.{read_key, read_name, read_namespace}
use Rattle.pol_netpol.specs.Document.{name_front, netpol_of, network_key}
use Rattle.pol_netpol.specs.declared.fault.NetFault.{NetFault}
use Rattle.pol_labels.specs.declared.label.Label.{Label}
use Rattle.pol_model.specs.declared.request.Remote.{Remote}
use Rattle.pol_model.specs.declared.request.Request.{Request}
use Rattle.pol_model.specs.declared.request.Request.TheVariants as request
use Rattle.pol_ports.specs.declared.Direction.{Direction}
use Rattle.pol_ports.specs.declared.Proto.{Proto}
use Rattle.pol_rule.specs.declared.fault.RuleFault.{RuleFault}
use Rattle.pol_rule.specs.declared.policy.Policy.{Policy}
use Rattle.pol_rule.specs.declared.policy.PolicyKey.{PolicyKey}
use Rattle.pol_rule.specs.declared.raw.RawPolicy.{RawPolicy}
use Rattle.pol_sanitize.proofs.Wholeness.{accepted_whole}
use Rattle.pol_sanitize.specs.Sanitized.{sanitized_of}
use Rattle.pol_script.proofs.Given.{AllHold, op_holds}
use Rattle.pol_script.specs.Commands.{address_of, asks, cilium_policy_of, commit, labels_of, make, net_fault, network_policy_of, policy_of, query_from, remote_of}
use Rattle.pol_script.specs.Names.{is_applied_name, is_network_name}
use Rattle.pol_script.specs.Reading.{object_of, op_of, read_object, read_op, reading_of}
use Rattle.pol_script.specs.Steps.{◌>>=◌, fault_as}
use Rattle.pol_script.specs.Table.{names, rows}
use Rattle.pol_script.specs.declared.command.Command.{Command}
use Rattle.pol_script.specs.declared.command.Command.TheVariants as command
use Rattle.pol_script.specs.declared.line_fault.LineFault.{LineFault}
use Rattle.pol_script.specs.declared.line_fault.LineFault.TheVariants as fault
use Rattle.pol_script.specs.declared.op.Op.{Op}
use Rattle.pol_script.specs.declared.op.Op.TheVariants as op

-- ---- the key of a policy

pub record HasKeyForm (key : PolicyKey) : Type 0 where
  pub name : is_applied_name key.name ≡ true
  pub namespace : key.cluster_wide ≡ false → is_dns_name key.namespace ≡ true
  pub wide : key.cluster_wide ≡ true → key.namespace ≡ []
  pub of_cilium : key.cluster_wide ≡ true → is_dns_name key.name ≡ true

or_first : (a b : Bool) → a ≡ true → (a || b) ≡ true
or_first a b is = rw is refl

or_second : (a b : Bool) → b ≡ true → (a || b) ≡ true
or_second true b is = refl
or_second false b is = is

key_read : (d : Data) (raw : RawPolicy) → read_document d ≡ Ok raw → HasKeyForm raw.key
key_read d raw is =
    let own = key_name d raw is in
    record {
      name = or_first (is_dns_name raw.key.name) _ own;
      namespace = key_namespace d raw is;
      wide = wide_key d raw is;
      of_cilium = λ _. own;
    }

accepted_key : (raw : RawPolicy) (s : Result Policy RuleFault) (policy : Policy) → HasKeyForm raw.key → sanitized_of raw ≡ s
    → fault_as fault.Rule s ≡ Ok policy → HasKeyForm policy.key
accepted_key raw (Ok p) policy own accepted is =
    let same : p ≡ policy = cc in
    let key : policy.key ≡ raw.key = ap (λ (x : Policy). x.key) (sym same) ∙ (accepted_whole raw p accepted).key in
    subst HasKeyForm (sym key) own
accepted_key raw (Err f) policy own accepted is = absurd cc

cilium_key : (d : Data) (r : Result RawPolicy DocFault) (policy : Policy) → read_document d ≡ r
    → (fault_as fault.Doc r >>= λ raw. fault_as fault.Rule (sanitized_of raw)) ≡ Ok policy → HasKeyForm policy.key
cilium_key d (Ok raw) policy reads is = accepted_key raw (sanitized_of raw) policy (key_read d raw reads) refl is
cilium_key d (Err f) policy reads is = absurd cc

network_form : (namespace name : List ℕ) → is_dns_name namespace ≡ true → is_dns_name name ≡ true → HasKeyForm (network_key namespace name)
network_form namespace name spaced named =
    record {
      name = or_second (is_dns_name (name_front ++ name)) (is_network_name (name_front ++ name)) named;
      namespace = λ _. spaced;
      wide = λ wide. absurd cc;
      of_cilium = λ wide. absurd cc;
    }

network_key_form : (d : Data) (policy : Policy) → netpol_of d ≡ Ok policy → HasKeyForm policy.key
network_key_form d policy is =
    subst HasKeyForm (sym (read_key d policy is)) (network_form (network_namespace d) (network_name d) (read_namespace d policy is) (read_name d policy is))

network_key_read : (d : Data) (r : Result Policy NetFault) (policy : Policy) → netpol_of d ≡ r → fault_as net_fault r ≡ Ok policy → HasKeyForm policy.key
network_key_read d (Ok p) policy reads is =
    let same : p ≡ policy = cc in subst (λ (x : Policy). HasKeyForm x.key) same (network_key_form d p reads)
network_key_read d (Err f) policy reads is = absurd cc

policy_key : (d : Data) (is_network : Bool) (policy : Policy) → cond is_network (network_policy_of d) (cilium_policy_of d) ≡ Ok policy → HasKeyForm policy.key
policy_key d true policy is = network_key_read d (netpol_of d) policy refl is
policy_key d false policy is = cilium_key d (read_document d) policy refl is

-- ---- what a line asks for

abbrev Asked : Type 0
Asked = Result Command LineFault

-- the names that a request brings have their forms
abbrev pub BringsNamed : Request → Type 0
BringsNamed (request.AddEndpoint name labels address) = is_name name ≡ true
BringsNamed (request.Apply policy) = HasKeyForm policy.key
BringsNamed other = Unit {0}

abbrev AsksNamed : Command → Type 0
AsksNamed (command.Commit session asked) = BringsNamed asked
AsksNamed other = Unit {0}

-- where the line is read, it asks for such names
abbrev pub IsNamed : Asked → Type 0
IsNamed (Ok asked) = AsksNamed asked
IsNamed (Err f) = Unit {0}

refused_named : (f : LineFault) → IsNamed (Err f)
refused_named f = tt

-- ---- the operations

endpoint_named : (name : List ℕ) (session : Option ℕ) (labels : Result (List Label) LineFault) (address : Result Addr LineFault) → is_name name ≡ true
    → IsNamed (labels >>= λ set. address >>= λ at. Ok (commit session (request.AddEndpoint name set at)))
endpoint_named name session (Ok set) (Ok at) own = own
endpoint_named name session (Ok set) (Err f) own = tt
endpoint_named name session (Err f) address own = tt

identity_named : (name : List ℕ) (session : Option ℕ) (labels : Result (List Label) LineFault)
    → IsNamed (labels >>= λ set. Ok (commit session (request.AddIdentity name set)))
identity_named name session (Ok set) = tt
identity_named name session (Err f) = tt

apply_named : (session : Option ℕ) (p : Result Policy LineFault) → ((policy : Policy) → p ≡ Ok policy → HasKeyForm policy.key)
    → IsNamed (p >>= λ policy. Ok (commit session (request.Apply policy)))
apply_named session (Ok policy) own = own policy refl
apply_named session (Err f) own = tt

query_named : (is_trace : Bool) (endpoint : List ℕ) (dir : Direction) (proto : Proto) (port : ℕ) (session : Option ℕ) (other : Result Remote LineFault)
    → IsNamed (other >>= λ remote. Ok (asks is_trace session (query_from endpoint dir proto port remote)))
query_named true endpoint dir proto port session (Ok remote) = tt
query_named false endpoint dir proto port session (Ok remote) = tt
query_named is_trace endpoint dir proto port session (Err f) = tt

op_named : (o : Op) → AllHold IsNamed (rows o) (make o)
op_named op.Endpoint = λ name own labels _ address _ session _. endpoint_named name session (labels_of labels) (address_of address) own
op_named op.RemoveEndpoint = λ name _ session _. tt
op_named op.Identity = λ name _ labels _ session _. identity_named name session (labels_of labels)
op_named op.RemoveIdentity = λ name _ session _. tt
op_named op.Apply = λ document _ session _. apply_named session (policy_of document) (policy_key document (is_network_policy document))
op_named op.Delete = λ kind _ namespace _ name _ session _. tt
op_named op.Mode = λ mode _ session _. tt
op_named op.Verdict = λ endpoint _ dir _ identity _ address _ proto _ port _ session _.
    query_named false endpoint dir proto port session (remote_of identity address)
op_named op.Trace = λ endpoint _ dir _ identity _ address _ proto _ port _ session _.
    query_named true endpoint dir proto port session (remote_of identity address)
op_named op.Sync = λ session _. tt
op_named op.Phase = tt

-- ---- lines

read_op_named : (o : Op) (d : Data) → IsNamed (read_op o d)
read_op_named o d = op_holds IsNamed refused_named o d (op_named o)

object_named : (d : Data) (o : Result Op LineFault) → IsNamed (o >>= λ x. read_op x d)
object_named d (Ok o) = read_op_named o d
object_named d (Err f) = tt

line_named : (o : Result Data LineFault) → IsNamed (o >>= read_object)
line_named (Ok d) = object_named d (op_of d)
line_named (Err f) = tt

-- what a line reads as asks for names of their forms
pub reading_named : (line : List ℕ) → IsNamed (reading_of line)
reading_named line = line_named (object_of line)

pub asked_named : (line : List ℕ) (session : ℕ) (asked : Request) → reading_of line ≡ Ok (command.Commit session asked) → BringsNamed asked
asked_named line session asked is = subst IsNamed is (reading_named line)

-- ---- the laws

pub endpoint_name : (line : List ℕ) (session : ℕ) (name : List ℕ) (labels : List Label) (address : Addr)
    → reading_of line ≡ Ok (command.Commit session (request.AddEndpoint name labels address)) → IsTrue (is_name name)
endpoint_name line session name labels address is = asked_named line session (request.AddEndpoint name labels address) is

module _ (line : List ℕ) (session : ℕ) (policy : Policy) (is : reading_of line ≡ Ok (command.Commit session (request.Apply policy))) where
  pub policy_name : IsTrue (is_applied_name policy.key.name)
  policy_name = (asked_named line session (request.Apply policy) is).name

  pub policy_namespace : policy.key.cluster_wide ≡ false → IsTrue (is_dns_name policy.key.namespace)
  policy_namespace = (asked_named line session (request.Apply policy) is).namespace

  pub policy_wide : policy.key.cluster_wide ≡ true → policy.key.namespace ≡ []
  policy_wide = (asked_named line session (request.Apply policy) is).wide

  pub policy_of_cilium : policy.key.cluster_wide ≡ true → IsTrue (is_dns_name policy.key.name)
  policy_of_cilium = (asked_named line session (request.Apply policy) is).of_cilium
