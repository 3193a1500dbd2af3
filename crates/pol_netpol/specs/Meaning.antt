-- What a NetworkPolicy means (Kubernetes, "Network Policies" and "Labels and Selectors"), of identities and their labels.
-- Nothing here speaks of rules. That a pod carries its own labels, its namespace and its namespace's labels with source
-- `k8s` is Cilium's (Terminology, "Labels").
use Rattle.std.specs.Prelude.{ℕ, Bool, true, false, not, ◌&&◌, ◌==◌, nat_le, nat_lt, if◌then◌else◌, List, [], ◌∷◌, ◌++◌, length, codes, Option, None, Some, unwrap_or}
use Rattle.std.specs.List.{list_all, list_any}
use Rattle.std.specs.Option.{option_map_or}
use Rattle.std.specs.Str.{bytes_eq}
use Rattle.pol_addr.specs.Prefix.{covers, read_prefix}
use Rattle.pol_addr.specs.declared.network.Prefix.{Prefix}
use Rattle.pol_labels.specs.declared.label.Label.{Label}
use Rattle.pol_ports.specs.declared.Direction.{Direction}
use Rattle.pol_ports.specs.declared.Direction.TheVariants.{Ingress, Egress}
use Rattle.pol_ports.specs.declared.Proto.{Proto}
use Rattle.pol_ports.specs.declared.Proto.TheVariants.{Tcp, Udp, Sctp}
use Rattle.pol_rule.specs.declared.raw.RawCidrSet.{RawCidrSet}
use Rattle.pol_rule.specs.declared.raw.RawExpression.{RawExpression}
use Rattle.pol_rule.specs.declared.raw.RawPair.{RawPair}
use Rattle.pol_rule.specs.declared.raw.RawSelector.{RawSelector}
use Rattle.pol_model.specs.declared.row.IdentityRow.{IdentityRow}
use Rattle.pol_netpol.specs.declared.raw.RawNetEntry.{RawNetEntry}
use Rattle.pol_netpol.specs.declared.raw.RawNetPeer.{RawNetPeer}
use Rattle.pol_netpol.specs.declared.raw.RawNetPort.{RawNetPort}
use Rattle.pol_netpol.specs.declared.raw.RawNetworkPolicy.{RawNetworkPolicy}

-- ---- labels

-- Labels, as what is asked of them: whether a key has a value that passes.
abbrev pub Labelled : Type 0
Labelled = List ℕ → (List ℕ → Bool) → Bool

abbrev pub is_of : List ℕ → Label → Bool
is_of key label = bytes_eq key label.key && bytes_eq (codes "k8s") label.source

-- a pod's labels are those of source `k8s`
abbrev pub of_pod : List Label → Labelled
of_pod labels key passes = list_any (λ label. is_of key label && passes label.value) labels

-- the labels of its namespace: `k8s:io.cilium.k8s.namespace.labels.K=V` is read as K=V
abbrev pub of_namespace : List Label → Labelled
of_namespace labels key passes = of_pod labels (codes "io.cilium.k8s.namespace.labels." ++ key) passes

-- a pod is what has a namespace
abbrev pub is_pod : List Label → Bool
is_pod labels = of_pod labels (codes "io.kubernetes.pod.namespace") (λ value. true)

abbrev pub is_pod_of : List ℕ → List Label → Bool
is_pod_of namespace labels = of_pod labels (codes "io.kubernetes.pod.namespace") (λ value. bytes_eq value namespace)

-- ---- selectors

-- a member of `matchLabels`
abbrev pub meets_label : Labelled → RawPair → Bool
meets_label labelled pair = labelled pair.key (λ value. bytes_eq value pair.value)

abbrev pub is_listed : List (List ℕ) → List ℕ → Bool
is_listed values value = list_any (bytes_eq value) values

-- an item of `matchExpressions`; another operator, which no object that is accepted has, is met by nothing
abbrev pub meets_expression : Labelled → RawExpression → Bool
meets_expression labelled expression =
    if bytes_eq expression.operator (codes "In") then labelled expression.key (is_listed expression.values)
    else if bytes_eq expression.operator (codes "NotIn") then not (labelled expression.key (is_listed expression.values))
    else if bytes_eq expression.operator (codes "Exists") then labelled expression.key (λ value. true)
    else if bytes_eq expression.operator (codes "DoesNotExist") then not (labelled expression.key (λ value. true))
    else false

-- all that is asked holds, so a selector that asks nothing selects all
abbrev pub meets : Labelled → RawSelector → Bool
meets labelled selector =
    list_all (meets_label labelled) selector.labels && list_all (meets_expression labelled) selector.expressions

-- ---- peers

abbrev pub meets_pods : Option RawSelector → List Label → Bool
meets_pods None labels = true
meets_pods (Some selector) labels = meets (of_pod labels) selector

-- pods of the namespaces that the selector selects; without one, of the object's own namespace
abbrev pub meets_namespaces : List ℕ → Option RawSelector → List Label → Bool
meets_namespaces own None labels = is_pod_of own labels
meets_namespaces own (Some selector) labels = is_pod labels && meets (of_namespace labels) selector

-- the range of the text contains the prefix
abbrev pub holds_prefix : Prefix → List ℕ → Bool
holds_prefix prefix text = option_map_or (λ range. covers range prefix) (read_prefix text) false

-- within `cidr`, and within nothing that `except` lists
abbrev pub block_takes : RawCidrSet → Prefix → Bool
block_takes block prefix = holds_prefix prefix block.cidr && not (list_any (holds_prefix prefix) block.except)

abbrev pub takes_row : Option RawCidrSet → List ℕ → RawNetPeer → IdentityRow → Bool
takes_row (Some block) own peer row = option_map_or (block_takes block) row.prefix false
takes_row None own peer row = meets_pods peer.pods row.labels && meets_namespaces own peer.namespaces row.labels

-- the peer of an object of the namespace `own` selects the identity: `ipBlock` by its prefix, else pods by both selectors
abbrev pub peer_takes : List ℕ → RawNetPeer → IdentityRow → Bool
peer_takes own peer row = takes_row peer.block own peer row

abbrev pub peer_selects : List ℕ → List IdentityRow → ℕ → RawNetPeer → Bool
peer_selects own rows number peer = list_any (λ row. (row.number == number) && peer_takes own peer row) rows

-- ---- ports

abbrev pub name_of : Proto → List ℕ
name_of Tcp = codes "TCP"
name_of Udp = codes "UDP"
name_of Sctp = codes "SCTP"

-- no protocol is TCP
abbrev pub protocol_text : Option (List ℕ) → List ℕ
protocol_text protocol = unwrap_or protocol (codes "TCP")

-- no `port` is every port, and no `endPort` is one port
abbrev pub has_port : Option ℕ → Option ℕ → ℕ → Bool
has_port None end number = true
has_port (Some first) end number = nat_le first number && nat_le number (unwrap_or end first)

abbrev pub port_takes : Proto → ℕ → RawNetPort → Bool
port_takes proto number port =
    bytes_eq (protocol_text port.protocol) (name_of proto) && has_port port.port port.end_port number

-- ---- entries

-- an absent or empty list restricts nothing
abbrev pub empty_or_any : {X : Type 0} → (X → Bool) → List X → Bool
empty_or_any test [] = true
empty_or_any test (x ∷ xs) = list_any test (x ∷ xs)

-- the entry of an object of the namespace `own` allows what comes from, or goes to, this number with this protocol and port
abbrev pub entry_takes : List ℕ → List IdentityRow → ℕ → Proto → ℕ → RawNetEntry → Bool
entry_takes own rows number proto port entry =
    empty_or_any (peer_selects own rows number) entry.peers && empty_or_any (port_takes proto port) entry.ports

-- ---- the object

abbrev pub entries_of : Direction → RawNetworkPolicy → List RawNetEntry
entries_of Ingress raw = raw.ingress
entries_of Egress raw = raw.egress

abbrev pub type_text : Direction → List ℕ
type_text Ingress = codes "Ingress"
type_text Egress = codes "Egress"

-- Without `policyTypes` these are Ingress, and Egress where there are entries of it.
abbrev pub default_type : Direction → RawNetworkPolicy → Bool
default_type Ingress raw = true
default_type Egress raw = nat_lt 0 (length raw.egress)

abbrev pub has_type : List (List ℕ) → Direction → RawNetworkPolicy → Bool
has_type [] dir raw = default_type dir raw
has_type (type ∷ types) dir raw = list_any (bytes_eq (type_text dir)) (type ∷ types)

-- the object isolates in the direction those that it selects
abbrev pub isolates : RawNetworkPolicy → Direction → Bool
isolates raw dir = has_type raw.types dir raw

-- the pods of its namespace that meet its `podSelector`
abbrev pub selects : RawNetworkPolicy → List Label → Bool
selects raw labels =
    option_map_or (meets (of_pod labels)) raw.subject false && is_pod_of raw.key.namespace labels

-- some entry of the direction allows it
abbrev pub allows : RawNetworkPolicy → List IdentityRow → Direction → ℕ → Proto → ℕ → Bool
allows raw rows dir number proto port = list_any (entry_takes raw.key.namespace rows number proto port) (entries_of dir raw)
