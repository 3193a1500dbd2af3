-- What each operation asks, once its members are read, and the faults of what they hold ('profile').
use Rattle.std.specs.Prelude.{ℕ, Bool, true, false, if◌then◌else◌, List, [], codes, Option, None, Some, unwrap_or, ok_or, Result, Ok, Err}
use Rattle.pol_addr.specs.declared.address.Addr.{Addr}
use Rattle.pol_addr.specs.Address.{read_addr}
use Rattle.serde_json.specs.Data.{Data}
use Rattle.pol_json.specs.Document.{read_document}
use Rattle.pol_json.specs.Network.{is_network_policy}
use Rattle.pol_netpol.specs.Document.{netpol_of, network_key}
use Rattle.pol_netpol.specs.declared.fault.NetFault.{NetFault}
use Rattle.pol_netpol.specs.declared.fault.NetFault.TheVariants as net
use Rattle.pol_labels.specs.declared.label.Label.{Label}
use Rattle.pol_labels.specs.Order.{label_set_of}
use Rattle.pol_labels.specs.LabelText.{read_label}
use Rattle.pol_model.specs.declared.request.Query.{Query}
use Rattle.pol_model.specs.declared.request.Remote.{Remote}
use Rattle.pol_model.specs.declared.request.Remote.TheVariants as remote
use Rattle.pol_model.specs.declared.request.Request.{Request}
use Rattle.pol_model.specs.declared.request.Request.TheVariants as request
use Rattle.pol_ports.specs.declared.Direction.{Direction}
use Rattle.pol_ports.specs.declared.Proto.{Proto}
use Rattle.pol_rule.specs.declared.policy.Policy.{Policy}
use Rattle.pol_rule.specs.declared.policy.PolicyKey.{PolicyKey}
use Rattle.pol_sanitize.specs.Sanitized.{sanitized_of}
use Rattle.pol_script.specs.declared.command.Command.{Command}
use Rattle.pol_script.specs.declared.command.Command.TheVariants as command
use Rattle.pol_script.specs.declared.kind.PolicyKind.{PolicyKind}
use Rattle.pol_script.specs.declared.kind.PolicyKind.TheVariants as kind
use Rattle.pol_script.specs.declared.line_fault.LineFault.{LineFault}
use Rattle.pol_script.specs.declared.line_fault.LineFault.TheVariants as fault
use Rattle.pol_script.specs.declared.op.Op.{Op}
use Rattle.pol_script.specs.declared.op.Op.TheVariants as op
use Rattle.pol_script.specs.Members.{Takes}
use Rattle.pol_script.specs.Steps.{◌>>=◌, fault_as, each}
use Rattle.pol_script.specs.Table.{query_rows, rows}

-- the session of a line that names none
abbrev pub session_of : Option ℕ → ℕ
session_of session = unwrap_or session 1

abbrev pub commit : Option ℕ → Request → Command
commit session request = command.Commit (session_of session) request

-- ---- labels and addresses

-- the set of labels that these texts write: a bad text comes before two labels of one source and key
abbrev pub labels_of : List (List ℕ) → Result (List Label) LineFault
labels_of texts = do
  labels ← ok_or (each read_label texts) fault.BadLabel
  ok_or (label_set_of labels) fault.DuplicateLabelKey

abbrev pub address_of : List ℕ → Result Addr LineFault
address_of text = ok_or (read_addr text) fault.BadAddress

-- ---- policies

-- of a document of Cilium's
abbrev pub cilium_policy_of : Data → Result Policy LineFault
cilium_policy_of document = do
  raw ← fault_as fault.Doc (read_document document)
  fault_as fault.Rule (sanitized_of raw)

abbrev pub net_fault : NetFault → LineFault
net_fault (net.Doc found) = fault.Doc found
net_fault (net.Rule found) = fault.Rule found

-- of a NetworkPolicy of Kubernetes
abbrev pub network_policy_of : Data → Result Policy LineFault
network_policy_of document = fault_as net_fault (netpol_of document)

-- the policy of a document, or its first fault: of a NetworkPolicy where it has that version and kind
abbrev pub policy_of : Data → Result Policy LineFault
policy_of document = if is_network_policy document then network_policy_of document else cilium_policy_of document

-- the namespace of a policy that names none (Kubernetes, "Namespaces")
abbrev pub default_namespace : List ℕ
default_namespace = codes "default"

-- the key of a policy of this kind; a cluster-wide one has no namespace, whatever is named
abbrev pub key_of : PolicyKind → Option (List ℕ) → List ℕ → PolicyKey
key_of kind.Namespaced namespace name =
    record { cluster_wide = false; namespace = unwrap_or namespace default_namespace; name = name }
key_of kind.ClusterWide namespace name = record { cluster_wide = true; namespace = []; name = name }
key_of kind.Network namespace name = network_key (unwrap_or namespace default_namespace) name

-- ---- queries

-- the other side; exactly one of both is there
abbrev pub remote_of : Option ℕ → Option (List ℕ) → Result Remote LineFault
remote_of (Some number) address = Ok (remote.Identity number)
remote_of None (Some text) = address_of text >>= λ address. Ok (remote.Address address)
remote_of None None = Err (fault.BadField (codes "identity"))

abbrev pub query_from : List ℕ → Direction → Proto → ℕ → Remote → Query
query_from endpoint dir proto port remote =
    record { endpoint = endpoint; dir = dir; remote = remote; proto = proto; port = port }

-- a trace, or a verdict alone
abbrev pub asks : Bool → Option ℕ → Query → Command
asks true session query = command.Trace (session_of session) query
asks false session query = command.Look (session_of session) query

abbrev pub make_query : Bool → Takes query_rows (Result Command LineFault)
make_query is_trace = λ endpoint dir identity address proto port session.
    remote_of identity address >>= λ remote. Ok (asks is_trace session (query_from endpoint dir proto port remote))

-- ---- operations

abbrev pub make : (o : Op) → Takes (rows o) (Result Command LineFault)
make op.Endpoint = λ name labels address session.
    labels_of labels >>= λ set. address_of address >>= λ at. Ok (commit session (request.AddEndpoint name set at))
make op.RemoveEndpoint = λ name session. Ok (commit session (request.RemoveEndpoint name))
make op.Identity = λ name labels session.
    labels_of labels >>= λ set. Ok (commit session (request.AddIdentity name set))
make op.RemoveIdentity = λ name session. Ok (commit session (request.RemoveIdentity name))
make op.Apply = λ document session. policy_of document >>= λ policy. Ok (commit session (request.Apply policy))
make op.Delete = λ kind namespace name session. Ok (commit session (request.Remove (key_of kind namespace name)))
make op.Mode = λ mode session. Ok (commit session (request.SetMode mode))
make op.Verdict = make_query false
make op.Trace = make_query true
make op.Sync = λ session. Ok (command.Sync (session_of session))
make op.Phase = Ok command.Phase
