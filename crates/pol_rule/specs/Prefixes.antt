-- The prefixes that a policy names, and so holds the identities of (Cilium, Terminology, "Identity", local
-- identities). That each is held once, and in which order, is 'profile'.
use Rattle.std.specs.Prelude.{not, List, [], ◌∷◌, filter}
use Rattle.std.specs.List.{flat_map}
use Rattle.pol_addr.specs.declared.network.Prefix.{Prefix}
use Rattle.pol_addr.specs.Prefix.{same_prefix}
use Rattle.pol_rule.specs.declared.policy.Peer.{Peer}
use Rattle.pol_rule.specs.declared.policy.Peer.TheVariants as peer
use Rattle.pol_rule.specs.declared.policy.Policy.{Policy}
use Rattle.pol_rule.specs.Listed.{listed_peers}

-- the prefixes of a peer, each exception behind its `cidr`
abbrev pub peer_prefixes : Peer → List Prefix
peer_prefixes (peer.Labels selector) = []
peer_prefixes (peer.Cidr prefix except) = prefix ∷ except
peer_prefixes (peer.Entity entity) = []

-- each prefix at its first place alone
abbrev pub distinct : List Prefix → List Prefix
distinct [] = []
distinct (prefix ∷ others) = prefix ∷ filter (λ other. not (same_prefix prefix other)) (distinct others)

-- the prefixes that a policy holds, in document order, each once
abbrev pub policy_prefixes : Policy → List Prefix
policy_prefixes policy = distinct (flat_map peer_prefixes (listed_peers policy))
