-- Lines of the script as values of JSON, by what their members hold. The members stand in byte order, but for `session`.
use Rattle.std.specs.Prelude.{ℕ, Bool, List, [], ◌∷◌, ◌++◌, codes, map, Option, None, Some}
use Rattle.serde_json.specs.Data.{Data, unsigned, number}
use Rattle.pol_model.specs.declared.options.Mode.{Mode}
use Rattle.pol_model.specs.declared.options.Mode.TheVariants as mode
use Rattle.pol_ports.specs.declared.Direction.{Direction}
use Rattle.pol_ports.specs.declared.Direction.TheVariants.{Ingress, Egress}
use Rattle.pol_ports.specs.declared.Proto.{Proto}
use Rattle.pol_ports.specs.declared.Proto.TheVariants.{Tcp, Udp, Sctp}
use Rattle.pol_script.specs.Forms.{is_within}
use Rattle.script_examples.specs.Values.{fields, items, text}

-- ---- words

abbrev pub mode_text : Mode → List ℕ
mode_text mode.Default = codes "default"
mode_text mode.Always = codes "always"
mode_text mode.Never = codes "never"

abbrev pub direction_text : Direction → List ℕ
direction_text Ingress = codes "ingress"
direction_text Egress = codes "egress"

abbrev pub proto_text : Proto → List ℕ
proto_text Tcp = codes "TCP"
proto_text Udp = codes "UDP"
proto_text Sctp = codes "SCTP"

-- a kind of policies: Cilium's two, and Kubernetes'
pub data Kind : Type 0 where
  namespaced : Kind
  cluster_wide : Kind
  network : Kind

abbrev pub kind_text : Kind → List ℕ
kind_text namespaced = codes "CiliumNetworkPolicy"
kind_text cluster_wide = codes "CiliumClusterwideNetworkPolicy"
kind_text network = codes "NetworkPolicy"

-- ---- lines

-- one of the sessions 1 to 8
abbrev pub is_session : ℕ → Bool
is_session session = is_within 1 8 session

abbrev session_member : Option ℕ → List (List ℕ × Data)
session_member None = []
session_member (Some session) = (codes "session", number (unsigned session)) ∷ []

-- a line with these members, which may name a session
abbrev pub line_in : Option ℕ → List (List ℕ × Data) → Data
line_in session members = fields (members ++ session_member session)

abbrev pub sync_line : Option ℕ → Data
sync_line session = line_in session ((codes "op", text (codes "sync")) ∷ [])

-- an operation whose one member is a name
abbrev pub named_line : List ℕ → Option ℕ → List ℕ → Data
named_line op session name = line_in session ((codes "name", text name) ∷ (codes "op", text op) ∷ [])

abbrev pub mode_line : Option ℕ → Mode → Data
mode_line session mode = line_in session ((codes "enable", text (mode_text mode)) ∷ (codes "op", text (codes "mode")) ∷ [])

abbrev texts : List (List ℕ) → Data
texts list = items (map text list)

abbrev pub endpoint_line : Option ℕ → List ℕ → List (List ℕ) → List ℕ → Data
endpoint_line session name labels address =
    line_in session
    ((codes "address", text address)
    ∷ (codes "labels", texts labels)
    ∷ (codes "name", text name)
    ∷ (codes "op", text (codes "endpoint"))
    ∷ [])

abbrev pub identity_line : Option ℕ → List ℕ → List (List ℕ) → Data
identity_line session name labels =
    line_in session ((codes "labels", texts labels) ∷ (codes "name", text name) ∷ (codes "op", text (codes "identity")) ∷ [])

abbrev pub apply_line : Option ℕ → Data → Data
apply_line session document = line_in session ((codes "op", text (codes "apply")) ∷ (codes "policy", document) ∷ [])

abbrev namespace_member : Option (List ℕ) → List (List ℕ × Data)
namespace_member None = []
namespace_member (Some namespace) = (codes "namespace", text namespace) ∷ []

-- a `delete` of a policy of this kind, which may name a namespace
abbrev pub delete_line : Option ℕ → Kind → Option (List ℕ) → List ℕ → Data
delete_line session kind namespace name =
    line_in session
    (((codes "kind", text (kind_text kind)) ∷ (codes "name", text name) ∷ namespace_member namespace) ++ (codes "op", text (codes "delete")) ∷ [])

-- a verdict or a trace of an identity, and of an address
abbrev pub query_line : List ℕ → Option ℕ → List ℕ → Direction → ℕ → Proto → ℕ → Data
query_line op session endpoint dir identity proto port =
    line_in session
    ((codes "direction", text (direction_text dir))
    ∷ (codes "endpoint", text endpoint)
    ∷ (codes "identity", number (unsigned identity))
    ∷ (codes "op", text op)
    ∷ (codes "port", number (unsigned port))
    ∷ (codes "protocol", text (proto_text proto))
    ∷ [])

abbrev pub address_query_line : List ℕ → Option ℕ → List ℕ → Direction → List ℕ → Proto → ℕ → Data
address_query_line op session endpoint dir address proto port =
    line_in session
    ((codes "address", text address)
    ∷ (codes "direction", text (direction_text dir))
    ∷ (codes "endpoint", text endpoint)
    ∷ (codes "op", text op)
    ∷ (codes "port", number (unsigned port))
    ∷ (codes "protocol", text (proto_text proto))
    ∷ [])
