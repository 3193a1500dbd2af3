-- Small objects and rows, for examples that compute.
use Rattle.std.specs.Prelude.{ℕ, false, List, [], ◌∷◌, codes, Option, None, Some}
use Rattle.pol_addr.specs.Address.{addr_of_groups, addr_of_octets}
use Rattle.pol_addr.specs.declared.network.Prefix.{Prefix}
use Rattle.pol_labels.specs.declared.label.Label.{Label}
use Rattle.pol_mapkey.specs.declared.Word.{Word}
use Rattle.pol_ports.specs.declared.Direction.{Direction}
use Rattle.pol_ports.specs.declared.Proto.{Proto}
use Rattle.pol_rule.specs.declared.raw.RawSelector.{RawSelector}
use Rattle.pol_model.specs.After.{new_endpoint, start, state_of}
use Rattle.pol_model.specs.Verdict.{verdict_of}
use Rattle.pol_model.specs.declared.options.Mode.TheVariants.{Default}
use Rattle.pol_model.specs.declared.options.Options.{Options}
use Rattle.pol_model.specs.declared.request.Request.{Request}
use Rattle.pol_model.specs.declared.request.Request.TheVariants.{AddEndpoint, Apply, SetMode}
use Rattle.pol_model.specs.declared.row.IdentityRow.{IdentityRow}
use Rattle.pol_netpol.specs.Translated.{policy_of}
use Rattle.pol_netpol.specs.declared.raw.RawNetEntry.{RawNetEntry}
use Rattle.pol_netpol.specs.declared.raw.RawNetPeer.{RawNetPeer}
use Rattle.pol_netpol.specs.declared.raw.RawNetPort.{RawNetPort}
use Rattle.pol_netpol.specs.declared.raw.RawNetworkPolicy.{RawNetworkPolicy}

-- ---- rows
abbrev pub k8s : List ℕ → List ℕ → Label
k8s key value = record { source = codes "k8s"; key = key; value = value }

-- a pod of the namespace with the label `app`
abbrev pub pod : List ℕ → List ℕ → List Label
pod namespace app = k8s (codes "app") app ∷ k8s (codes "io.kubernetes.pod.namespace") namespace ∷ []

-- the same, and its namespace has the label `team`
abbrev pub pod_of_team : List ℕ → List ℕ → List ℕ → List Label
pod_of_team namespace app team = k8s (codes "io.cilium.k8s.namespace.labels.team") team ∷ pod namespace app

abbrev pub row : List Label → Option Prefix → IdentityRow
row labels prefix = record { number = 300; labels = labels; prefix = prefix; holders = 1 }

-- 10.N.0.0/16
abbrev pub net : ℕ → IdentityRow
net n = row [] (Some (record { addr = addr_of_octets 10 n 0 0; len = 16 }))

-- 2001:db8:N::/48
abbrev pub net6 : ℕ → IdentityRow
net6 n = row [] (Some (record { addr = addr_of_groups (8193 ∷ 3512 ∷ n ∷ 0 ∷ 0 ∷ 0 ∷ 0 ∷ 0 ∷ []); len = 48 }))

-- ---- objects
abbrev pub asking : List ℕ → List ℕ → RawSelector
asking key value = record { labels = record { key = key; value = value } ∷ []; expressions = [] }

-- asks nothing
abbrev pub anything : RawSelector
anything = record { labels = []; expressions = [] }

abbrev pub pods : RawSelector → RawNetPeer
pods selector = record { pods = Some selector; namespaces = None; block = None }

abbrev pub namespaces : RawSelector → RawNetPeer
namespaces selector = record { pods = None; namespaces = Some selector; block = None }

-- both selectors in one peer
abbrev pub pods_in : RawSelector → RawSelector → RawNetPeer
pods_in selector selector' = record { pods = Some selector; namespaces = Some selector'; block = None }

abbrev pub block : List ℕ → List (List ℕ) → RawNetPeer
block cidr except = record { pods = None; namespaces = None; block = Some (record { cidr = cidr; except = except }) }

-- a peer with no member
abbrev pub bare : RawNetPeer
bare = record { pods = None; namespaces = None; block = None }

abbrev pub port : Option ℕ → Option ℕ → RawNetPort
port first end = record { port = first; protocol = None; end_port = end }

abbrev pub port_with : List ℕ → ℕ → RawNetPort
port_with protocol first = record { port = Some first; protocol = Some protocol; end_port = None }

abbrev pub entry : List RawNetPeer → List RawNetPort → RawNetEntry
entry peers ports = record { peers = peers; ports = ports }

-- an object of the namespace `default`
abbrev pub object : RawSelector → List (List ℕ) → List RawNetEntry → List RawNetEntry → RawNetworkPolicy
object subject types ingress egress = record {
  key = record { cluster_wide = false; namespace = codes "default"; name = codes "networkpolicy/np" };
  subject = Some subject;
  types = types;
  ingress = ingress;
  egress = egress;
}

-- lets pods `web` come to pods `db` on TCP port 5432
abbrev pub web_to_db : RawNetworkPolicy
web_to_db =
    object (asking (codes "app") (codes "db")) (codes "Ingress" ∷ [])
    (entry (pods (asking (codes "app") (codes "web")) ∷ []) (port_with (codes "TCP") 5432 ∷ []) ∷ []) []

-- lets nothing in or out
abbrev pub deny : RawNetworkPolicy
deny = object anything (codes "Ingress" ∷ codes "Egress" ∷ []) [] []

-- lets what the block takes in
abbrev pub lets_block_in : List ℕ → List (List ℕ) → RawNetworkPolicy
lets_block_in cidr except = object anything [] (entry (block cidr except ∷ []) [] ∷ []) []

-- lets all in
abbrev pub lets_all_in : RawNetworkPolicy
lets_all_in = object anything [] (entry [] [] ∷ []) []

-- ---- verdicts
abbrev pub adds : List ℕ → ℕ → Request
adds name host = AddEndpoint name (pod (codes "default") name) (addr_of_octets 10 0 0 host)

-- the verdict at the endpoint `db` where `web` and `db` are, with the object's policy
abbrev pub word_at : Options → RawNetworkPolicy → Direction → ℕ → Proto → ℕ → Word
word_at options raw dir number proto port =
    verdict_of options (state_of options (SetMode Default ∷ adds (codes "web") 1 ∷ adds (codes "db") 2 ∷ Apply (policy_of raw) ∷ []))
    (new_endpoint (start options) (codes "db") (pod (codes "default") (codes "db")) (addr_of_octets 10 0 0 2)) dir number proto port
