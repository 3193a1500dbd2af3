-- The peers that a policy lists (Cilium, Network Policy, "Layer 3 Examples"). That each place of a peer in the document
-- counts by itself is 'profile'.
use Rattle.std.specs.Prelude.{List, [], ◌++◌}
use Rattle.std.specs.List.{flat_map}
use Rattle.pol_rule.specs.declared.policy.Entry.{Entry}
use Rattle.pol_rule.specs.declared.policy.Peer.{Peer}
use Rattle.pol_rule.specs.declared.policy.Peers.{Peers}
use Rattle.pol_rule.specs.declared.policy.Peers.TheVariants.{Every, Listed}
use Rattle.pol_rule.specs.declared.policy.Policy.{Policy}
use Rattle.pol_rule.specs.declared.policy.Rule.{Rule}

-- the entries of a rule, section by section
abbrev pub rule_entries : Rule → List Entry
rule_entries rule = rule.ingress ++ rule.ingress_deny ++ rule.egress ++ rule.egress_deny

-- an entry without a peer member lists none
abbrev pub peers_in : Peers → List Peer
peers_in Every = []
peers_in (Listed peers) = peers

abbrev pub section_peers : List Entry → List Peer
section_peers entries = flat_map (λ entry. peers_in entry.peers) entries

-- those of all sections
abbrev pub rule_peers : Rule → List Peer
rule_peers rule = section_peers (rule_entries rule)

-- in document order, a peer as often as it stands there
abbrev pub listed_peers : Policy → List Peer
listed_peers policy = flat_map rule_peers policy.rules
