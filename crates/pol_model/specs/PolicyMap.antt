-- The policy map of an endpoint: all of it is 'profile'.
use Rattle.std.specs.Prelude.{ℕ, ◌&&◌, not, Bool, if◌then◌else◌, List, [], ◌∷◌, ◌++◌, map, filter, length, Option, None, Some}
use Rattle.std.specs.List.{flat_map, list_any}
use Rattle.std.specs.Ordering.{match_ordering}
use Rattle.pol_ports.specs.declared.Direction.{Direction}
use Rattle.pol_ports.specs.declared.Direction.TheVariants.{Ingress, Egress}
use Rattle.pol_ports.specs.declared.Proto.{Proto}
use Rattle.pol_ports.specs.declared.Proto.TheVariants.{Tcp, Udp, Sctp}
use Rattle.pol_ports.specs.Split.{split_of}
use Rattle.pol_mapkey.specs.declared.MapKey.{MapKey}
use Rattle.pol_mapkey.specs.declared.Kind.{Kind}
use Rattle.pol_mapkey.specs.declared.Kind.TheVariants.{Allow, Deny}
use Rattle.pol_mapkey.specs.MapKey.{every_key, port_key, key_cmp, strictly_covers}
use Rattle.pol_mapkey.specs.Entries.{Entry as MapEntry, is_deny}
use Rattle.pol_rule.specs.Covers.{section_of, has_effect}
use Rattle.pol_rule.specs.declared.policy.Entry.{Entry}
use Rattle.pol_rule.specs.declared.policy.Peer.{Peer}
use Rattle.pol_rule.specs.declared.policy.Peers.{Peers}
use Rattle.pol_rule.specs.declared.policy.Peers.TheVariants.{Every, Listed}
use Rattle.pol_rule.specs.declared.policy.PortSpec.{PortSpec}
use Rattle.pol_rule.specs.declared.policy.Rule.{Rule}
use Rattle.pol_model.specs.declared.limits.TheConstants.{EVERY_IDENTITY, HOST_IDENTITY}
use Rattle.pol_model.specs.declared.options.Options.{Options}
use Rattle.pol_model.specs.declared.row.Endpoint.{Endpoint}
use Rattle.pol_model.specs.declared.row.Stamped.{Stamped}
use Rattle.pol_model.specs.State.{State}
use Rattle.pol_model.specs.Enforced.{allow_section, deny_section, rule_selects, enforced}
use Rattle.pol_model.specs.Selects.{is_all, set_at}
use Rattle.pol_model.specs.Verdict.{is_never, is_ingress}

-- the numbers that a peer gives entries for, where it selects the numbers that `set` says
abbrev pub peer_numbers : (Peer → List ℕ) → Peer → List ℕ
peer_numbers set p = if is_all p then EVERY_IDENTITY ∷ [] else set p

abbrev pub peers_numbers : (Peer → List ℕ) → Peers → List ℕ
peers_numbers set Every = EVERY_IDENTITY ∷ []
peers_numbers set (Listed peers) = flat_map (peer_numbers set) peers

-- the protocols of a port; none stands for ANY
abbrev pub protos_of : Option Proto → List Proto
protos_of None = Tcp ∷ Udp ∷ Sctp ∷ []
protos_of (Some proto) = proto ∷ []

-- the keys of a port: each prefix of the least split of its range, for each of its protocols
abbrev pub spec_keys : Direction → ℕ → PortSpec → List MapKey
spec_keys dir id spec = flat_map (λ proto. map (port_key dir id proto) (split_of spec.range)) (protos_of spec.proto)

-- the keys of an entry's ports; without ports, the one key of every protocol
abbrev pub ports_keys : Direction → ℕ → List PortSpec → List MapKey
ports_keys dir id [] = every_key dir id ∷ []
ports_keys dir id (spec ∷ specs) = flat_map (spec_keys dir id) (spec ∷ specs)

-- what an entry puts into the map: a kind for each of its numbers with each of its ports
abbrev pub entry_entries : (Peer → List ℕ) → Direction → Kind → Entry → List MapEntry
entry_entries set dir kind entry =
    if has_effect entry
    then flat_map (λ id. map (λ key. (key, kind)) (ports_keys dir id entry.ports)) (peers_numbers set entry.peers)
    else []

abbrev pub allow_every : Direction → ℕ → MapEntry
allow_every dir id = (every_key dir id, Allow)

-- What a map is made of: whether nothing is enforced, which directions are, whether the local host may
-- always come in, and the entries of each direction that allow and that deny.
pub record MapParts : Type 0 where
  pub never : Bool
  pub enforced : Direction → Bool
  pub localhost : Bool
  pub allows : Direction → List Entry
  pub denies : Direction → List Entry

-- a direction that isn't enforced allows every identity
abbrev pub unenforced_entries : MapParts → Direction → List MapEntry
unenforced_entries parts dir = if parts.enforced dir then [] else (allow_every dir EVERY_IDENTITY ∷ [])

abbrev pub localhost_entries : MapParts → Direction → List MapEntry
localhost_entries parts dir =
    if is_ingress dir && parts.localhost then allow_every dir HOST_IDENTITY ∷ [] else []

abbrev pub direction_entries : (Peer → List ℕ) → MapParts → Direction → List MapEntry
direction_entries set parts dir =
    flat_map (entry_entries set dir Allow) (parts.allows dir)
    ++ flat_map (entry_entries set dir Deny) (parts.denies dir)
    ++ unenforced_entries parts dir
    ++ localhost_entries parts dir

-- All that is put into a map, where a peer selects the numbers that `set` says. In mode `never` it is one
-- allow for every identity in each direction.
abbrev pub raw_entries : (Peer → List ℕ) → MapParts → List MapEntry
raw_entries set parts =
    if parts.never
    then allow_every Ingress EVERY_IDENTITY ∷ allow_every Egress EVERY_IDENTITY ∷ []
    else direction_entries set parts Ingress ++ direction_entries set parts Egress

-- of two kinds of one key the deny
abbrev pub stronger : Kind → Kind → Kind
stronger a b = if is_deny a then a else b

-- the entries, which ascend by their keys, with one more
abbrev pub put_entry : MapEntry → List MapEntry → List MapEntry
put_entry new [] = new ∷ []
put_entry new (old ∷ others) =
    match_ordering (key_cmp new.0 old.0)
    (new ∷ old ∷ others) ((old.0, stronger new.1 old.1) ∷ others) (old ∷ put_entry new others)

-- one entry for each key, in the order of keys, where deny wins over allow
abbrev pub merged : List MapEntry → List MapEntry
merged [] = []
merged (entry ∷ others) = put_entry entry (merged others)

-- the entry lies strictly under a deny
abbrev pub is_under_deny : List MapEntry → MapEntry → Bool
is_under_deny entries entry = list_any (λ other. is_deny other.1 && strictly_covers other.0 entry.0) entries

-- the canonical map of raw entries
abbrev pub canonical : List MapEntry → List MapEntry
canonical raw = filter (λ entry. not (is_under_deny raw entry)) (merged raw)

-- the rules of all policies that select the endpoint, in order
abbrev pub selecting_rules : List Stamped → Endpoint → List Rule
selecting_rules policies endpoint = filter (rule_selects endpoint) (flat_map (λ stamped. stamped.policy.rules) policies)

-- what the map of an endpoint in a state is made of
abbrev pub map_parts : Options → State → Endpoint → MapParts
map_parts options s endpoint = record {
  never = is_never s.mode;
  enforced = enforced s.mode s.policies endpoint;
  localhost = options.localhost;
  allows = λ dir. flat_map (section_of (allow_section dir)) (selecting_rules s.policies endpoint);
  denies = λ dir. flat_map (section_of (deny_section dir)) (selecting_rules s.policies endpoint);
}

-- the canonical map of an endpoint in a state
abbrev pub policy_map : Options → State → Endpoint → List MapEntry
policy_map options s endpoint = canonical (raw_entries (set_at s.identities) (map_parts options s endpoint))

-- how many entries it has
abbrev pub map_size : Options → State → Endpoint → ℕ
map_size options s endpoint = length (policy_map options s endpoint)
