-- Small requests, for laws that compute what definitions give (`examples`).
use Rattle.std.specs.Prelude.{ℕ, ◌+◌, ◌^◌, ◌*◌, false, List, [], ◌∷◌, codes, drop, map, replicate}
use Rattle.pol_addr.specs.declared.address.Addr.{Addr}
use Rattle.pol_addr.specs.declared.address.Addr.TheVariants.{V4}
use Rattle.pol_addr.specs.declared.network.Prefix.{Prefix}
use Rattle.pol_labels.specs.declared.label.Label.{Label}
use Rattle.pol_mapkey.specs.declared.Word.{Word}
use Rattle.pol_ports.specs.declared.Direction.{Direction}
use Rattle.pol_ports.specs.declared.Proto.TheVariants.{Tcp}
use Rattle.pol_rule.specs.Plain.{rule_of}
use Rattle.pol_rule.specs.declared.policy.Peer.{Peer}
use Rattle.pol_rule.specs.declared.policy.Peer.TheVariants.{Cidr}
use Rattle.pol_rule.specs.declared.policy.Peers.TheVariants.{Listed}
use Rattle.pol_rule.specs.declared.policy.Policy.{Policy}
use Rattle.pol_rule.specs.declared.policy.PolicyKey.{PolicyKey}
use Rattle.pol_model.specs.declared.limits.TheConstants.{RESERVED_LAST}
use Rattle.pol_model.specs.declared.options.Options.{Options}
use Rattle.pol_model.specs.declared.request.Request.{Request}
use Rattle.pol_model.specs.declared.request.Request.TheVariants.{AddEndpoint}
use Rattle.pol_model.specs.declared.row.Endpoint.{Endpoint}
use Rattle.pol_model.specs.declared.row.IdentityRow.{IdentityRow}
use Rattle.pol_model.specs.After.{new_endpoint, start, state_of}
use Rattle.pol_model.specs.Remote.{number_at}
use Rattle.pol_model.specs.State.{State}
use Rattle.pol_model.specs.Verdict.{verdict_of}
use Rattle.pol_model.specs.Worlds.{reserved_label}

-- the label set `k8s:app=NAME`
abbrev pub app : List ℕ → List Label
app name = record { source = codes "k8s"; key = codes "app"; value = name } ∷ []

-- the label set `reserved:NAME`
abbrev pub reserved : List ℕ → List Label
reserved name = reserved_label name ∷ []

-- 10.N.0.0/16, and 10.0.0.0/8
abbrev pub net : ℕ → Prefix
net n = record { addr = V4 (10 * 2 ^ 24 + n * 2 ^ 16); len = 16 }

abbrev pub wide : Prefix
wide = record { addr = V4 (10 * 2 ^ 24); len = 8 }

-- 10.N.0.7
abbrev pub host_in : ℕ → Addr
host_in n = V4 (10 * 2 ^ 24 + n * 2 ^ 16 + 7)

-- an endpoint that has the name as label too, at 10.N.0.7
abbrev pub adds : List ℕ → ℕ → Request
adds name n = AddEndpoint name (app name) (host_in n)

abbrev pub key_of : List ℕ → PolicyKey
key_of name = record { cluster_wide = false; namespace = codes "default"; name = name }

abbrev pub cidrs : List Prefix → List Peer
cidrs prefixes = map (λ prefix. Cidr prefix []) prefixes

-- a policy that lets these prefixes in
abbrev pub lets_in : List ℕ → List Prefix → Policy
lets_in name prefixes = record {
  key = key_of name;
  rules = record (rule_of []) { ingress = record { peers = Listed (cidrs prefixes); ports = [] } ∷ [] } ∷ [];
}

-- the numbers of rows, and how many hold each
abbrev pub numbers_held : List IdentityRow → List (ℕ × ℕ)
numbers_held rows = map (λ row. (row.number, row.holders)) (drop RESERVED_LAST rows)

-- the slots of endpoints, and their numbers
abbrev pub places_of : List Endpoint → List (ℕ × ℕ)
places_of endpoints = map (λ endpoint. (endpoint.slot, endpoint.identity)) endpoints

-- the state with so many endpoints like the one that `adds` makes
abbrev pub with_endpoints : ℕ → State → State
with_endpoints n s = record s { endpoints = replicate n (new_endpoint s (codes "a") (app (codes "a")) (host_in 1)) }

-- the number of the address 10.N.0.7
abbrev pub address_number : State → ℕ → ℕ
address_number s n = number_at (host_in n) s.endpoints s.identities

-- a policy that lets prefixes in, and keeps others out
abbrev pub guards : List ℕ → List Prefix → List Prefix → Policy
guards name allowed denied = record {
  key = key_of name;
  rules = record (rule_of []) {
    ingress = record { peers = Listed (cidrs allowed); ports = [] } ∷ [];
    ingress_deny = record { peers = Listed (cidrs denied); ports = [] } ∷ [];
  } ∷ [];
}

-- the verdict on TCP port 80 at the endpoint that `adds` makes
abbrev pub word_at : Options → List Request → Direction → ℕ → Word
word_at options requests dir number =
    verdict_of options (state_of options requests) (new_endpoint (start options) (codes "a") (app (codes "a")) (host_in 9)) dir number Tcp 80
