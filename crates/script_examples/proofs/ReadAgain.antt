-- Each command is read again from each value that writes it: what each member must meet is put in for its test.
use Rattle.std.proofs.Common.{◌≡◌, ℕ, Bool, true, false, List, [], ◌∷◌, codes, map, if◌then◌else◌, Option, None, Some, ok_or, option_map, option_and_then, unwrap_or, IfSome, IsTrue, Result, Ok, refl, sym, ap, ◌∙◌}
use Rattle.serde_json.specs.Data.{Data}
use Rattle.serde_json.specs.Find.{as_str}
use Rattle.document_laws.proofs.NetworkPolicies.{networks_again}
use Rattle.document_laws.proofs.Policies.{policies_again}
use Rattle.document_laws.specs.Written.{document_of, ruled_document}
use Rattle.pol_addr.proofs.HexTexts.{read_addr_complete}
use Rattle.pol_addr.specs.declared.address.Addr.{Addr}
use Rattle.pol_addr.specs.Grammar.{WritesAddr}
use Rattle.pol_json.specs.Members.{is_null, items_list}
use Rattle.pol_json.specs.Network.{is_network_policy}
use Rattle.pol_json.specs.Texts.{is_name}
use Rattle.pol_netpol.specs.Document.{of_document, of_object}
use Rattle.pol_labels.proofs.GrammarLemmas.{read_label-from_IsTextOf}
use Rattle.pol_labels.specs.declared.label.Label.{Label}
use Rattle.pol_labels.specs.LabelText.{read_label}
use Rattle.pol_labels.specs.Order.{label_set_of}
use Rattle.pol_model.specs.declared.options.Mode.{Mode}
use Rattle.pol_model.specs.declared.options.Mode.TheVariants.{Default, Always, Never}
use Rattle.pol_model.specs.declared.request.Query.{Query}
use Rattle.pol_model.specs.declared.request.Remote.{Remote}
use Rattle.pol_model.specs.declared.request.Remote.TheVariants as remote
use Rattle.pol_model.specs.declared.request.Request.{Request}
use Rattle.pol_model.specs.declared.request.Request.TheVariants as request
use Rattle.pol_ports.specs.declared.Direction.{Direction}
use Rattle.pol_ports.specs.declared.Direction.TheVariants.{Ingress, Egress}
use Rattle.pol_ports.specs.declared.Proto.{Proto}
use Rattle.pol_ports.specs.declared.Proto.TheVariants.{Tcp, Udp, Sctp}
use Rattle.pol_rule.specs.declared.policy.Policy.{Policy}
use Rattle.pol_rule.specs.declared.policy.PolicyKey.{PolicyKey}
use Rattle.pol_rule.specs.declared.raw.RawRule.{RawRule}
use Rattle.pol_sanitize.specs.Sanitized.{sanitized_of}
use Rattle.pol_script.specs.Commands.{address_of, asks, cilium_policy_of, commit, labels_of, net_fault, network_policy_of, policy_of, query_from}
use Rattle.pol_script.specs.Forms.{directions, is_within, modes, protocol_of, word_among}
use Rattle.pol_script.specs.Reading.{object_of, read_object, reading_of}
use Rattle.pol_script.specs.Steps.{◌>>=◌, each, fault_as}
use Rattle.pol_script.specs.declared.command.Command.{Command}
use Rattle.pol_script.specs.declared.command.Command.TheVariants as command
use Rattle.pol_script.specs.declared.line_fault.LineFault.{LineFault}
use Rattle.pol_script.specs.declared.line_fault.LineFault.TheVariants as fault
use Rattle.script_examples.specs.Commands.{AreTextsOf, NamesSession, Writes, WritesLabels, WritesPolicy, of_cilium, of_network, WritesQuery, WritesRemote, WritesRequest, key_named}
use Rattle.script_examples.specs.Printed.{Kind, namespaced, cluster_wide, network, address_query_line, apply_line, delete_line, direction_text, endpoint_line, identity_line, is_session, mode_line, mode_text, named_line, proto_text, query_line, sync_line}
use Rattle.script_examples.specs.Values.{items_of, text}

-- the session of a line that names it so
abbrev session_by : Option ℕ → ℕ
session_by named = unwrap_or named 1

abbrev Fits : Option ℕ → Type 0
Fits named = IfSome named (λ n. IsTrue (is_session n))

-- ---- words

mode_again : (mode : Mode) → word_among modes (mode_text mode) ≡ Some mode
mode_again Default = refl
mode_again Always = refl
mode_again Never = refl

direction_again : (dir : Direction) → word_among directions (direction_text dir) ≡ Some dir
direction_again Ingress = refl
direction_again Egress = refl

proto_again : (proto : Proto) → protocol_of (proto_text proto) ≡ Some proto
proto_again Tcp = refl
proto_again Udp = refl
proto_again Sctp = refl

-- ---- labels and addresses

each_text : (list : List (List ℕ)) → each as_str (items_list (items_of (map text list))) ≡ Some list
each_text [] = refl
each_text (one ∷ others) = ap (option_map (λ more. one ∷ more)) (each_text others)

each_label : (texts : List (List ℕ)) (labels : List Label) → AreTextsOf texts labels → each read_label texts ≡ Some labels
each_label [] [] are = refl
each_label [] (label ∷ labels) are = absurd are
each_label (one ∷ others) [] are = absurd are
each_label (one ∷ others) (label ∷ labels) are =
    ap (option_and_then (λ l. option_map (λ more. l ∷ more) (each read_label others))) (read_label-from_IsTextOf one label are.0)
    ∙ ap (option_map (λ more. label ∷ more)) (each_label others labels are.1)

labels_again : (texts : List (List ℕ)) (all : List Label) → WritesLabels texts all → labels_of texts ≡ Ok all
labels_again texts all written =
    ap (λ found. ok_or found fault.BadLabel >>= λ labels. ok_or (label_set_of labels) fault.DuplicateLabelKey) (each_label texts written.labels written.each)
    ∙ ap (λ found. ok_or found fault.DuplicateLabelKey) written.set

address_again : (at_text : List ℕ) (address : Addr) → WritesAddr at_text address → address_of at_text ≡ Ok address
address_again at_text address written = ap (λ found. ok_or found fault.BadAddress) (read_addr_complete at_text address written)

-- ---- policies

-- a document that writes a policy of Cilium's is none of a NetworkPolicy
of_cilium_alone : (key : PolicyKey) (rules : List RawRule) → is_network_policy (ruled_document key rules) ≡ false
of_cilium_alone key [] = refl
of_cilium_alone key (rule ∷ others) = refl

there : (key : PolicyKey) (rules : List RawRule) → is_null (ruled_document key rules) ≡ false
there key [] = refl
there key (rule ∷ others) = refl

document_there : (document : Data) (policy : Policy) → WritesPolicy document policy → is_null document ≡ false
document_there document policy (of_cilium raw well says is) = ap is_null is ∙ there raw.key raw.rules
document_there document policy (of_network raw well says is) = ap is_null is

chosen : (b : Bool) (x y : Result Policy LineFault) → b ≡ false → (if b then x else y) ≡ y
chosen true x y is = absurd cc
chosen false x y is = refl

policy_again : (document : Data) (policy : Policy) → WritesPolicy document policy → policy_of document ≡ Ok policy
policy_again document policy (of_cilium raw well says is) =
    let d = document_of raw in
    ap policy_of is
    ∙ chosen (is_network_policy d) (network_policy_of d) (cilium_policy_of d) (of_cilium_alone raw.key raw.rules)
    ∙ ap (λ r. fault_as fault.Doc r >>= λ one. fault_as fault.Rule (sanitized_of one)) (policies_again raw well)
    ∙ ap (fault_as fault.Rule) says
policy_again document policy (of_network raw well says is) =
    ap policy_of is ∙ ap (λ r. fault_as net_fault (of_document r)) (networks_again raw well) ∙ ap (λ r. fault_as net_fault (of_object r)) says

-- ---- requests

endpoint_again : (named : Option ℕ) (name : List ℕ) (texts : List (List ℕ)) (at_text : List ℕ) (labels : List Label) (address : Addr) → Fits named
    → is_name name ≡ true → labels_of texts ≡ Ok labels → address_of at_text ≡ Ok address
    → read_object (endpoint_line named name texts at_text) ≡ Ok (commit named (request.AddEndpoint name labels address))
endpoint_again named name texts at_text labels address fits is_named set known =
    asked named fits
    ∙ ap (λ found. found >>= λ them. address_of at_text >>= λ it. Ok (commit named (request.AddEndpoint name them it))) set
    ∙ ap (λ found. found >>= λ it. Ok (commit named (request.AddEndpoint name labels it))) known
  where
    asked : (n : Option ℕ) → Fits n → read_object (endpoint_line n name texts at_text)
        ≡ (labels_of texts >>= λ them. address_of at_text >>= λ it. Ok (commit n (request.AddEndpoint name them it)))
    asked None fits = rw (is_named, each_text texts) refl
    asked (Some session) fits = rw (is_named, each_text texts, fits) refl

identity_again : (named : Option ℕ) (name : List ℕ) (texts : List (List ℕ)) (labels : List Label) → Fits named
    → is_name name ≡ true → labels_of texts ≡ Ok labels → read_object (identity_line named name texts) ≡ Ok (commit named (request.AddIdentity name labels))
identity_again named name texts labels fits is_named set =
    asked named fits ∙ ap (λ found. found >>= λ them. Ok (commit named (request.AddIdentity name them))) set
  where
    asked : (n : Option ℕ) → Fits n → read_object (identity_line n name texts) ≡ (labels_of texts >>= λ them. Ok (commit n (request.AddIdentity name them)))
    asked None fits = rw (is_named, each_text texts) refl
    asked (Some session) fits = rw (is_named, each_text texts, fits) refl

remove_endpoint_again : (named : Option ℕ) (name : List ℕ) → Fits named → is_name name ≡ true
    → read_object (named_line (codes "remove-endpoint") named name) ≡ Ok (commit named (request.RemoveEndpoint name))
remove_endpoint_again None name fits is_named = rw is_named refl
remove_endpoint_again (Some session) name fits is_named = rw (is_named, fits) refl

remove_identity_again : (named : Option ℕ) (name : List ℕ) → Fits named → is_name name ≡ true
    → read_object (named_line (codes "remove-identity") named name) ≡ Ok (commit named (request.RemoveIdentity name))
remove_identity_again None name fits is_named = rw is_named refl
remove_identity_again (Some session) name fits is_named = rw (is_named, fits) refl

apply_again : (named : Option ℕ) (document : Data) (policy : Policy) → Fits named → is_null document ≡ false → policy_of document ≡ Ok policy
    → read_object (apply_line named document) ≡ Ok (commit named (request.Apply policy))
apply_again named document policy fits is_there known = asked named fits ∙ ap (λ found. found >>= λ it. Ok (commit named (request.Apply it))) known
  where
    asked : (n : Option ℕ) → Fits n → read_object (apply_line n document) ≡ (policy_of document >>= λ it. Ok (commit n (request.Apply it)))
    asked None fits = rw is_there refl
    asked (Some session) fits = rw (is_there, fits) refl

abbrev IsIn : Option (List ℕ) → Type 0
IsIn namespace = IfSome namespace (λ n. IsTrue (is_name n))

own_delete_again : (named : Option ℕ) (namespace : Option (List ℕ)) (name : List ℕ) → Fits named → IsIn namespace → is_name name ≡ true
    → read_object (delete_line named namespaced namespace name) ≡ Ok (commit named (request.Remove (key_named namespaced namespace name)))
own_delete_again None None name fits within is_named = rw is_named refl
own_delete_again None (Some namespace) name fits within is_named = rw (within, is_named) refl
own_delete_again (Some session) None name fits within is_named = rw (is_named, fits) refl
own_delete_again (Some session) (Some namespace) name fits within is_named = rw (within, is_named, fits) refl

wide_delete_again : (named : Option ℕ) (namespace : Option (List ℕ)) (name : List ℕ) → Fits named → IsIn namespace → is_name name ≡ true
    → read_object (delete_line named cluster_wide namespace name) ≡ Ok (commit named (request.Remove (key_named cluster_wide namespace name)))
wide_delete_again None None name fits within is_named = rw is_named refl
wide_delete_again None (Some namespace) name fits within is_named = rw (within, is_named) refl
wide_delete_again (Some session) None name fits within is_named = rw (is_named, fits) refl
wide_delete_again (Some session) (Some namespace) name fits within is_named = rw (within, is_named, fits) refl

network_delete_again : (named : Option ℕ) (namespace : Option (List ℕ)) (name : List ℕ) → Fits named → IsIn namespace → is_name name ≡ true
    → read_object (delete_line named network namespace name) ≡ Ok (commit named (request.Remove (key_named network namespace name)))
network_delete_again None None name fits within is_named = rw is_named refl
network_delete_again None (Some namespace) name fits within is_named = rw (within, is_named) refl
network_delete_again (Some session) None name fits within is_named = rw (is_named, fits) refl
network_delete_again (Some session) (Some namespace) name fits within is_named = rw (within, is_named, fits) refl

delete_again : (kind : Kind) (named : Option ℕ) (namespace : Option (List ℕ)) (name : List ℕ) → Fits named → IsIn namespace → is_name name ≡ true
    → read_object (delete_line named kind namespace name) ≡ Ok (commit named (request.Remove (key_named kind namespace name)))
delete_again namespaced named namespace name fits within is_named = own_delete_again named namespace name fits within is_named
delete_again cluster_wide named namespace name fits within is_named = wide_delete_again named namespace name fits within is_named
delete_again network named namespace name fits within is_named = network_delete_again named namespace name fits within is_named

set_mode_again : (named : Option ℕ) (mode : Mode) → Fits named → read_object (mode_line named mode) ≡ Ok (commit named (request.SetMode mode))
set_mode_again None mode fits = rw (mode_again mode) refl
set_mode_again (Some session) mode fits = rw (mode_again mode, fits) refl

request_again : (named : Option ℕ) (d : Data) (r : Request) → Fits named → WritesRequest named d r → read_object d ≡ Ok (commit named r)
request_again named d (request.AddEndpoint name labels address) fits w =
    ap read_object w.is
    ∙ endpoint_again named name w.label_texts w.address_text labels address fits w.is_named (labels_again w.label_texts labels w.labelled)
    (address_again w.address_text address w.addressed)
request_again named d (request.RemoveEndpoint name) fits w = ap read_object w.1 ∙ remove_endpoint_again named name fits w.0
request_again named d (request.AddIdentity name labels) fits w =
    ap read_object w.is ∙ identity_again named name w.label_texts labels fits w.is_named (labels_again w.label_texts labels w.labelled)
request_again named d (request.RemoveIdentity name) fits w = ap read_object w.1 ∙ remove_identity_again named name fits w.0
request_again named d (request.Apply policy) fits w =
    ap read_object w.is ∙ apply_again named w.document policy fits (document_there w.document policy w.written) (policy_again w.document policy w.written)
request_again named d (request.Remove key) fits w =
    ap read_object w.is ∙ delete_again w.kind named w.namespace w.name fits w.is_placed w.is_named ∙ ap (λ k. Ok (commit named (request.Remove k))) (sym w.key_is)
request_again named d (request.SetMode mode) fits w = ap read_object w ∙ set_mode_again named mode fits

-- ---- queries

-- the operation of a query
abbrev query_op : Bool → List ℕ
query_op true = codes "trace"
query_op false = codes "verdict"

module _ (endpoint : List ℕ) (dir : Direction) (proto : Proto) (port : ℕ) (is_named : is_name endpoint ≡ true) (small : is_within 0 65535 port ≡ true) where
  by_number : (is_trace : Bool) (named : Option ℕ) (identity : ℕ) → Fits named → is_within 0 4294967295 identity ≡ true
      → read_object (query_line (query_op is_trace) named endpoint dir identity proto port)
      ≡ Ok (asks is_trace named (query_from endpoint dir proto port (remote.Identity identity)))
  by_number true None identity fits known = rw (is_named, direction_again dir, known, proto_again proto, small) refl
  by_number true (Some session) identity fits known = rw (is_named, direction_again dir, known, proto_again proto, small, fits) refl
  by_number false None identity fits known = rw (is_named, direction_again dir, known, proto_again proto, small) refl
  by_number false (Some session) identity fits known = rw (is_named, direction_again dir, known, proto_again proto, small, fits) refl

  by_address : (is_trace : Bool) (named : Option ℕ) (at_text : List ℕ) (address : Addr) → Fits named → address_of at_text ≡ Ok address
      → read_object (address_query_line (query_op is_trace) named endpoint dir at_text proto port)
      ≡ Ok (asks is_trace named (query_from endpoint dir proto port (remote.Address address)))
  by_address true None at_text address fits known = rw (is_named, direction_again dir, proto_again proto, small, known) refl
  by_address true (Some session) at_text address fits known = rw (is_named, direction_again dir, proto_again proto, small, fits, known) refl
  by_address false None at_text address fits known = rw (is_named, direction_again dir, proto_again proto, small, known) refl
  by_address false (Some session) at_text address fits known = rw (is_named, direction_again dir, proto_again proto, small, fits, known) refl

by_remote : (is_trace : Bool) (named : Option ℕ) (d : Data) (q : Query) (other : Remote) → Fits named → IsTrue (is_name q.endpoint)
    → IsTrue (is_within 0 65535 q.port) → WritesRemote (query_op is_trace) named d q other
    → read_object d ≡ Ok (asks is_trace named (query_from q.endpoint q.dir q.proto q.port other))
by_remote is_trace named d q (remote.Identity identity) fits is_named small w =
    ap read_object w.1 ∙ by_number q.endpoint q.dir q.proto q.port is_named small is_trace named identity fits w.0
by_remote is_trace named d q (remote.Address address) fits is_named small w =
    ap read_object w.2 ∙ by_address q.endpoint q.dir q.proto q.port is_named small is_trace named w.0 address fits (address_again w.0 address w.1)

query_again : (is_trace : Bool) (named : Option ℕ) (d : Data) (q : Query) → Fits named → WritesQuery (query_op is_trace) named d q
    → read_object d ≡ Ok (asks is_trace named q)
query_again is_trace named d q fits w = by_remote is_trace named d q q.remote fits w.is_named w.port_fits w.other

-- ---- each command

sync_again : (named : Option ℕ) → Fits named → read_object (sync_line named) ≡ Ok (command.Sync (session_by named))
sync_again None fits = refl
sync_again (Some session) fits = rw fits refl

-- the session is that of the line
in_it : {A : Type 0} (named : Option ℕ) (session : ℕ) (make : ℕ → A) → NamesSession named session → make (session_by named) ≡ make session
in_it named session make names = ap make (sym names.is)

pub every_again : (d : Data) (c : Command) → Writes d c → read_object d ≡ Ok c
every_again d (command.Commit session r) w =
    request_again w.0 d r w.1.fits w.2 ∙ in_it w.0 session (λ (n : ℕ). Ok (command.Commit n r)) w.1
every_again d (command.Look session q) w =
    query_again false w.0 d q w.1.fits w.2 ∙ in_it w.0 session (λ (n : ℕ). Ok (command.Look n q)) w.1
every_again d (command.Trace session q) w =
    query_again true w.0 d q w.1.fits w.2 ∙ in_it w.0 session (λ (n : ℕ). Ok (command.Trace n q)) w.1
every_again d (command.Sync session) w =
    ap read_object w.2 ∙ sync_again w.0 w.1.fits ∙ in_it w.0 session (λ (n : ℕ). Ok (command.Sync n)) w.1
every_again d command.Phase w = ap read_object w

-- whatever bytes are read as that value
pub bytes_again : (line : List ℕ) (d : Data) (c : Command) → object_of line ≡ Ok d → Writes d c → reading_of line ≡ Ok c
bytes_again line d c is w = ap (λ r. r >>= read_object) is ∙ every_again d c w
