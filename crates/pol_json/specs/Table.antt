-- The table of members of a policy document (Cilium, Network Policy, "CiliumNetworkPolicy"; Kubernetes, `NetworkPolicy`;
-- 'profile': what is unsupported).
use Rattle.std.specs.Prelude.{ℕ, Bool, if◌then◌else◌, List, [], ◌∷◌, codes, bytes_eq}
use Rattle.std.specs.List.{list_any}
use Rattle.pol_json.specs.declared.table.ObjectKind.{ObjectKind}
use Rattle.pol_json.specs.declared.table.ObjectKind.TheVariants.{Policy, Metadata, Rule, DefaultDeny, Selector, MatchLabels, Expression, IngressEntry, EgressEntry, CidrSet, PortItem, Port, NetworkPolicy, NetworkSpec, NetworkIngress, NetworkEgress, NetworkPeer, IpBlock, NetworkPort}
use Rattle.pol_json.specs.declared.table.TextForm.TheVariants as form
use Rattle.pol_json.specs.declared.table.Content.{Content}
use Rattle.pol_json.specs.declared.table.Content.TheVariants.{Ignored, Text, Boolean, Number, PortNumber, Object}
use Rattle.pol_json.specs.declared.table.Shape.{Shape as CodeShape}
use Rattle.pol_json.specs.declared.table.Shape.TheVariants as code

-- what should stand at a member or an item
pub data Shape : Type 0 where
  unknown : Shape
  unsupported : List ℕ → Shape
  one : Content → Shape
  list_of : Content → Shape

-- a name of the table, with what should stand at it
pub record Row : Type 0 where
  pub name : List ℕ
  pub shape : Shape

abbrev text : Content
text = Text form.Any

-- a line of the table: these names have this shape
abbrev rows : List (List ℕ) → Shape → List Row → List Row
rows [] shape others = others
rows (name ∷ names) shape others = record { name = name; shape = shape } ∷ rows names shape others

abbrev both_entries : List Row
both_entries = rows (codes "toPorts" ∷ []) (list_of (Object PortItem)) []

abbrev network_ports : List Row
network_ports = rows (codes "ports" ∷ []) (list_of (Object NetworkPort)) []

-- the members of an object
abbrev pub members : ObjectKind → List Row
members Policy =
    rows (codes "apiVersion" ∷ codes "kind" ∷ []) (one text)
    (rows (codes "metadata" ∷ []) (one (Object Metadata))
    (rows (codes "spec" ∷ []) (one (Object Rule))
    (rows (codes "specs" ∷ []) (list_of (Object Rule))
    (rows (codes "status" ∷ []) (one Ignored) []))))
members Metadata = rows (codes "name" ∷ codes "namespace" ∷ []) (one (Text form.Name)) []
members Rule =
    rows (codes "endpointSelector" ∷ []) (one (Object Selector))
    (rows (codes "ingress" ∷ codes "ingressDeny" ∷ []) (list_of (Object IngressEntry))
    (rows (codes "egress" ∷ codes "egressDeny" ∷ []) (list_of (Object EgressEntry))
    (rows (codes "description" ∷ []) (one text)
    (rows (codes "labels" ∷ []) (list_of Ignored)
    (rows (codes "enableDefaultDeny" ∷ []) (one (Object DefaultDeny)) [])))))
members DefaultDeny = rows (codes "ingress" ∷ codes "egress" ∷ []) (one Boolean) []
members Selector =
    rows (codes "matchLabels" ∷ []) (one (Object MatchLabels))
    (rows (codes "matchExpressions" ∷ []) (list_of (Object Expression)) [])
members MatchLabels = []
members Expression =
    rows (codes "key" ∷ codes "operator" ∷ []) (one text)
    (rows (codes "values" ∷ []) (list_of text) [])
members IngressEntry =
    rows (codes "fromEndpoints" ∷ []) (list_of (Object Selector))
    (rows (codes "fromCIDR" ∷ codes "fromEntities" ∷ []) (list_of text)
    (rows (codes "fromCIDRSet" ∷ []) (list_of (Object CidrSet)) both_entries))
members EgressEntry =
    rows (codes "toEndpoints" ∷ []) (list_of (Object Selector))
    (rows (codes "toCIDR" ∷ codes "toEntities" ∷ []) (list_of text)
    (rows (codes "toCIDRSet" ∷ []) (list_of (Object CidrSet)) both_entries))
members CidrSet =
    rows (codes "cidr" ∷ []) (one text)
    (rows (codes "except" ∷ []) (list_of text) [])
members PortItem = rows (codes "ports" ∷ []) (list_of (Object Port)) []
members Port =
    rows (codes "port" ∷ []) (one (Text form.Port))
    (rows (codes "protocol" ∷ []) (one (Text form.Protocol))
    (rows (codes "endPort" ∷ []) (one Number) []))
members NetworkPolicy =
    rows (codes "apiVersion" ∷ codes "kind" ∷ []) (one text)
    (rows (codes "metadata" ∷ []) (one (Object Metadata))
    (rows (codes "spec" ∷ []) (one (Object NetworkSpec))
    (rows (codes "status" ∷ []) (one Ignored) [])))
members NetworkSpec =
    rows (codes "podSelector" ∷ []) (one (Object Selector))
    (rows (codes "policyTypes" ∷ []) (list_of text)
    (rows (codes "ingress" ∷ []) (list_of (Object NetworkIngress))
    (rows (codes "egress" ∷ []) (list_of (Object NetworkEgress)) [])))
members NetworkIngress = rows (codes "from" ∷ []) (list_of (Object NetworkPeer)) network_ports
members NetworkEgress = rows (codes "to" ∷ []) (list_of (Object NetworkPeer)) network_ports
members NetworkPeer =
    rows (codes "podSelector" ∷ codes "namespaceSelector" ∷ []) (one (Object Selector))
    (rows (codes "ipBlock" ∷ []) (one (Object IpBlock)) [])
members IpBlock =
    rows (codes "cidr" ∷ []) (one text)
    (rows (codes "except" ∷ []) (list_of text) [])
members NetworkPort =
    rows (codes "port" ∷ []) (one PortNumber)
    (rows (codes "protocol" ∷ []) (one text)
    (rows (codes "endPort" ∷ []) (one Number) []))

-- the names that Cilium knows and this profile leaves out
abbrev pub left_out : ObjectKind → List (List ℕ)
left_out Rule = codes "nodeSelector" ∷ []
left_out IngressEntry =
    codes "fromRequires" ∷ codes "fromNodes" ∷ codes "fromGroups" ∷ codes "icmps" ∷ codes "authentication" ∷ []
left_out EgressEntry =
    codes "toRequires" ∷ codes "toNodes" ∷ codes "toGroups" ∷ codes "toFQDNs" ∷ codes "toServices" ∷ codes "icmps" ∷ codes "authentication" ∷ []
left_out CidrSet = codes "cidrGroupRef" ∷ codes "cidrGroupSelector" ∷ []
left_out PortItem =
    codes "rules" ∷ codes "terminatingTLS" ∷ codes "originatingTLS" ∷ codes "listener" ∷ codes "serverNames" ∷ []
left_out _ = []

-- the names that are found at the visit of their object
abbrev pub found_first : ObjectKind → List (List ℕ)
found_first CidrSet = left_out CidrSet
found_first _ = []

-- the members that an object needs, in byte order
abbrev pub needed : ObjectKind → List (List ℕ)
needed Expression = codes "key" ∷ codes "operator" ∷ []
needed CidrSet = codes "cidr" ∷ []
needed Port = codes "port" ∷ []
needed IpBlock = codes "cidr" ∷ []
needed _ = []

-- what stands at a name that is in neither table
abbrev pub others : ObjectKind → Shape
others Metadata = one Ignored
others MatchLabels = one text
others _ = unknown

abbrev pub is_among : List ℕ → List (List ℕ) → Bool
is_among name names = list_any (λ n. bytes_eq name n) names

-- the shape of a name by rows, or else
abbrev pub by_rows : List ℕ → List Row → Shape → Shape
by_rows name [] otherwise = otherwise
by_rows name (row ∷ rest) otherwise = if bytes_eq name row.name then row.shape else by_rows name rest otherwise

-- what should stand at a member of an object
abbrev pub shape_of : ObjectKind → List ℕ → Shape
shape_of kind name = by_rows name (members kind) (if is_among name (left_out kind) then unsupported name else others kind)

-- what the code's shape of a name stands for
abbrev pub seen : List ℕ → CodeShape → Shape
seen name code.Unknown = unknown
seen name code.Unsupported = unsupported name
seen name (code.One content) = one content
seen name (code.List content) = list_of content
