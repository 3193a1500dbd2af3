-- Which values of JSON write which commands ('profile'): for the law that each command is read again (`lines`).
use Rattle.std.specs.Prelude.{◌≡◌, ℕ, true, false, List, [], ◌∷◌, ◌++◌, codes, Option, Some, unwrap_or, IfSome, IsTrue, Ok}
use Rattle.serde_json.specs.Data.{Data}
use Rattle.document_laws.specs.NetworkWellFormed.{IsWellFormedNetwork}
use Rattle.document_laws.specs.NetworkWritten.{network_document_of}
use Rattle.document_laws.specs.WellFormed.{IsWellFormed}
use Rattle.document_laws.specs.Written.{document_of}
use Rattle.pol_addr.specs.declared.address.Addr.{Addr}
use Rattle.pol_addr.specs.Grammar.{WritesAddr}
use Rattle.pol_json.specs.Texts.{is_name}
use Rattle.pol_netpol.specs.Translated.{translated_of}
use Rattle.pol_netpol.specs.declared.raw.RawNetworkPolicy.{RawNetworkPolicy}
use Rattle.pol_labels.specs.declared.label.Label.{Label}
use Rattle.pol_labels.specs.Grammar.{IsTextOf}
use Rattle.pol_labels.specs.Order.{label_set_of}
use Rattle.pol_model.specs.declared.request.Query.{Query}
use Rattle.pol_model.specs.declared.request.Remote.{Remote}
use Rattle.pol_model.specs.declared.request.Remote.TheVariants as remote
use Rattle.pol_model.specs.declared.request.Request.{Request}
use Rattle.pol_model.specs.declared.request.Request.TheVariants as request
use Rattle.pol_rule.specs.declared.policy.Policy.{Policy}
use Rattle.pol_rule.specs.declared.policy.PolicyKey.{PolicyKey}
use Rattle.pol_rule.specs.declared.raw.RawPolicy.{RawPolicy}
use Rattle.pol_sanitize.specs.Sanitized.{sanitized_of}
use Rattle.pol_script.specs.Forms.{is_within}
use Rattle.pol_script.specs.declared.command.Command.{Command}
use Rattle.pol_script.specs.declared.command.Command.TheVariants as command
use Rattle.script_examples.specs.Printed.{Kind, namespaced, cluster_wide, network, address_query_line, apply_line, delete_line, endpoint_line, identity_line, is_session, mode_line, named_line, query_line, sync_line}
use Rattle.script_examples.specs.Values.{fields, text}

-- ---- sessions, labels and policies

-- a line that names no session is of the first
pub record NamesSession (named : Option ℕ) (session : ℕ) : Type 0 where
  pub fits : IfSome named (λ n. IsTrue (is_session n))
  pub is : session ≡ unwrap_or named 1

-- each text is one of the label at its place
abbrev pub AreTextsOf : List (List ℕ) → List Label → Type 0
AreTextsOf [] [] = Unit {0}
AreTextsOf (text ∷ texts) (label ∷ labels) = IsTextOf text label × AreTextsOf texts labels
AreTextsOf _ _ = ⊥

-- the texts write labels, whose set this is
pub record WritesLabels (texts : List (List ℕ)) (all : List Label) : Type 0 where
  pub labels : List Label
  pub each : AreTextsOf texts labels
  pub set : label_set_of labels ≡ Some all

-- the document writes a policy of Cilium's that says this one, or a NetworkPolicy that becomes it
pub data WritesPolicy (document : Data) (policy : Policy) : Type 0 where
  of_cilium : (raw : RawPolicy) → IsWellFormed raw → sanitized_of raw ≡ Ok policy → document ≡ document_of raw → WritesPolicy document policy
  of_network : (raw : RawNetworkPolicy) → IsWellFormedNetwork raw → translated_of raw ≡ Ok policy → document ≡ network_document_of raw
      → WritesPolicy document policy

-- the key that a `delete` names: of the namespace `default` where it names none, and of none where the policy is cluster-wide
abbrev pub key_named : Kind → Option (List ℕ) → List ℕ → PolicyKey
key_named namespaced namespace name = record { cluster_wide = false; namespace = unwrap_or namespace (codes "default"); name = name }
key_named cluster_wide namespace name = record { cluster_wide = true; namespace = []; name = name }
key_named network namespace name =
    record { cluster_wide = false; namespace = unwrap_or namespace (codes "default"); name = codes "networkpolicy/" ++ name }

-- ---- requests

pub record WritesEndpoint (named : Option ℕ) (d : Data) (name : List ℕ) (labels : List Label) (address : Addr) : Type 0 where
  pub label_texts : List (List ℕ)
  pub address_text : List ℕ
  pub is_named : IsTrue (is_name name)
  pub labelled : WritesLabels label_texts labels
  pub addressed : WritesAddr address_text address
  pub is : d ≡ endpoint_line named name label_texts address_text

pub record WritesIdentity (named : Option ℕ) (d : Data) (name : List ℕ) (labels : List Label) : Type 0 where
  pub label_texts : List (List ℕ)
  pub is_named : IsTrue (is_name name)
  pub labelled : WritesLabels label_texts labels
  pub is : d ≡ identity_line named name label_texts

pub record WritesApply (named : Option ℕ) (d : Data) (policy : Policy) : Type 0 where
  pub document : Data
  pub written : WritesPolicy document policy
  pub is : d ≡ apply_line named document

pub record WritesDelete (named : Option ℕ) (d : Data) (key : PolicyKey) : Type 0 where
  pub kind : Kind
  pub namespace : Option (List ℕ)
  pub name : List ℕ
  pub is_placed : IfSome namespace (λ n. IsTrue (is_name n))
  pub is_named : IsTrue (is_name name)
  pub key_is : key ≡ key_named kind namespace name
  pub is : d ≡ delete_line named kind namespace name

-- a value that names this session, or none, writes the request
abbrev pub WritesRequest : Option ℕ → Data → Request → Type 0
WritesRequest named d (request.AddEndpoint name labels address) = WritesEndpoint named d name labels address
WritesRequest named d (request.RemoveEndpoint name) = IsTrue (is_name name) × (d ≡ named_line (codes "remove-endpoint") named name)
WritesRequest named d (request.AddIdentity name labels) = WritesIdentity named d name labels
WritesRequest named d (request.RemoveIdentity name) = IsTrue (is_name name) × (d ≡ named_line (codes "remove-identity") named name)
WritesRequest named d (request.Apply policy) = WritesApply named d policy
WritesRequest named d (request.Remove key) = WritesDelete named d key
WritesRequest named d (request.SetMode mode) = d ≡ mode_line named mode

-- ---- queries

-- the other side by its number, or by its address
abbrev pub WritesRemote : List ℕ → Option ℕ → Data → Query → Remote → Type 0
WritesRemote op named d query (remote.Identity identity) =
    IsTrue (is_within 0 4294967295 identity) × (d ≡ query_line op named query.endpoint query.dir identity query.proto query.port)
WritesRemote op named d query (remote.Address address) =
    (address_text : List ℕ) × WritesAddr address_text address × (d ≡ address_query_line op named query.endpoint query.dir address_text query.proto query.port)

pub record WritesQuery (op : List ℕ) (named : Option ℕ) (d : Data) (query : Query) : Type 0 where
  pub is_named : IsTrue (is_name query.endpoint)
  pub port_fits : IsTrue (is_within 0 65535 query.port)
  pub other : WritesRemote op named d query query.remote

-- ---- commands

-- in a session that the value names so
abbrev pub InSession : (Option ℕ → Type 0) → ℕ → Type 0
InSession Writes session = (named : Option ℕ) × NamesSession named session × Writes named

-- the value writes the command
abbrev pub Writes : Data → Command → Type 0
Writes d (command.Commit session request) = InSession (λ named. WritesRequest named d request) session
Writes d (command.Look session query) = InSession (λ named. WritesQuery (codes "verdict") named d query) session
Writes d (command.Trace session query) = InSession (λ named. WritesQuery (codes "trace") named d query) session
Writes d (command.Sync session) = InSession (λ named. d ≡ sync_line named) session
Writes d command.Phase = d ≡ fields ((codes "op", text (codes "phase")) ∷ [])
