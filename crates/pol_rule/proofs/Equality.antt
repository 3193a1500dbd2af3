-- The derived `==` of each type is true exactly where both are one value.
use Rattle.std.proofs.Common.{◌≡◌, ap, rules}
use Rattle.std.specs.Bool.{Decides}
use Rattle.std.specs.Cmp.{booleans_Decides, unsigned_Decides}
use Rattle.std.specs.Cmp.Lexicographic.{pointwise_decides, bytes_decides}
use Rattle.std.proofs.lemmas.Bool.Decides.{Decides-like, Decides-and}
use Rattle.pol_data.proofs.Equality.{option_eq-Decides}
use Rattle.pol_labels.specs.SameLaws.{same_requirements-Decides}
use Rattle.pol_addr.proofs.Equality.{prefix_eq-Decides}
use Rattle.pol_ports.proofs.Equality.{proto_eq-Decides, port_range_eq-Decides}
use Rattle.pol_rule.specs.declared.policy.DefaultDeny.{DefaultDeny}
use Rattle.pol_rule.specs.declared.policy.Entity.{Entity}
use Rattle.pol_rule.specs.declared.policy.Section.{Section}
use Rattle.pol_rule.specs.declared.policy.Peer.{Peer}
use Rattle.pol_rule.specs.declared.policy.Peer.TheVariants as is
use Rattle.pol_rule.specs.declared.policy.Peers.{Peers}
use Rattle.pol_rule.specs.declared.policy.Peers.TheVariants.{Every, Listed}
use Rattle.pol_rule.specs.declared.policy.PortSpec.{PortSpec}
use Rattle.pol_rule.specs.declared.policy.Entry.{Entry}
use Rattle.pol_rule.specs.declared.policy.PolicyKey.{PolicyKey}
use Rattle.pol_rule.specs.declared.policy.Place.{Place}
use Rattle.pol_rule.specs.contracts.policy.DefaultDenyPartialEq.TheImpl as default_deny
use Rattle.pol_rule.specs.contracts.policy.EntityPartialEq.TheImpl as entity
use Rattle.pol_rule.specs.contracts.policy.SectionPartialEq.TheImpl as section
use Rattle.pol_rule.specs.contracts.policy.PeerPartialEq.TheImpl as peer
use Rattle.pol_rule.specs.contracts.policy.PeersPartialEq.TheImpl as peers
use Rattle.pol_rule.specs.contracts.policy.PortSpecPartialEq.TheImpl as port_spec
use Rattle.pol_rule.specs.contracts.policy.EntryPartialEq.TheImpl as entry
use Rattle.pol_rule.specs.contracts.policy.PolicyKeyPartialEq.TheImpl as policy_key
use Rattle.pol_rule.specs.contracts.policy.PlacePartialEq.TheImpl as place

pub entity_eq-Decides : (a b : Entity) → Decides (entity.ghosts.eq a b) (a ≡ b)
entity_eq-Decides a b = search rules

pub section_eq-Decides : (a b : Section) → Decides (section.ghosts.eq a b) (a ≡ b)
section_eq-Decides a b = search rules

pub peer_eq-Decides : (a b : Peer) → Decides (peer.ghosts.eq a b) (a ≡ b)
peer_eq-Decides (is.Labels s) (is.Labels t) = Decides-like _ (λ e. ap is.Labels e) (λ e. cc) (same_requirements-Decides s t)
peer_eq-Decides (is.Labels s) (is.Cidr q d) = (λ e. cc, λ e. cc)
peer_eq-Decides (is.Labels s) (is.Entity y) = (λ e. cc, λ e. cc)
peer_eq-Decides (is.Cidr p c) (is.Labels t) = (λ e. cc, λ e. cc)
peer_eq-Decides (is.Cidr p c) (is.Cidr q d) =
    Decides-like _ (λ e i. is.Cidr (e.0 i) (e.1 i)) (λ e. (cc, cc))
    (Decides-and _ _ (prefix_eq-Decides p q) (pointwise_decides prefix_eq-Decides c d))
peer_eq-Decides (is.Cidr p c) (is.Entity y) = (λ e. cc, λ e. cc)
peer_eq-Decides (is.Entity x) (is.Labels t) = (λ e. cc, λ e. cc)
peer_eq-Decides (is.Entity x) (is.Cidr q d) = (λ e. cc, λ e. cc)
peer_eq-Decides (is.Entity x) (is.Entity y) = Decides-like _ (λ e. ap is.Entity e) (λ e. cc) (entity_eq-Decides x y)

pub peers_eq-Decides : (a b : Peers) → Decides (peers.ghosts.eq a b) (a ≡ b)
peers_eq-Decides Every Every = (λ _. cc, λ e. cc)
peers_eq-Decides Every (Listed ys) = (λ e. cc, λ e. cc)
peers_eq-Decides (Listed xs) Every = (λ e. cc, λ e. cc)
peers_eq-Decides (Listed xs) (Listed ys) = Decides-like _ (λ e. ap Listed e) (λ e. cc) (pointwise_decides peer_eq-Decides xs ys)

pub port_spec_eq-Decides : (a b : PortSpec) → Decides (port_spec.ghosts.eq a b) (a ≡ b)
port_spec_eq-Decides a b =
    Decides-like _ (λ same i. record { proto = same.0 i; range = same.1 i }) (λ e. (ap (λ s. s.proto) e, ap (λ s. s.range) e))
    (Decides-and _ _ (option_eq-Decides proto_eq-Decides a.proto b.proto) (port_range_eq-Decides a.range b.range))

pub entry_eq-Decides : (a b : Entry) → Decides (entry.ghosts.eq a b) (a ≡ b)
entry_eq-Decides a b =
    Decides-like _ (λ same i. record { peers = same.0 i; ports = same.1 i }) (λ e. (ap (λ x. x.peers) e, ap (λ x. x.ports) e))
    (Decides-and _ _ (peers_eq-Decides a.peers b.peers) (pointwise_decides port_spec_eq-Decides a.ports b.ports))

pub policy_key_eq-Decides : (a b : PolicyKey) → Decides (policy_key.ghosts.eq a b) (a ≡ b)
policy_key_eq-Decides a b =
    Decides-like _ (λ same i. record { cluster_wide = same.0 i; namespace = same.1.0 i; name = same.1.1 i })
    (λ e. (ap (λ k. k.cluster_wide) e, (ap (λ k. k.namespace) e, ap (λ k. k.name) e)))
    (Decides-and _ _ (booleans_Decides a.cluster_wide b.cluster_wide)
    (Decides-and _ _ (bytes_decides a.namespace b.namespace) (bytes_decides a.name b.name)))

pub default_deny_eq-Decides : (a b : DefaultDeny) → Decides (default_deny.ghosts.eq a b) (a ≡ b)
default_deny_eq-Decides a b =
    Decides-like _ (λ same i. record { ingress = same.0 i; egress = same.1 i }) (λ e. (ap (λ d. d.ingress) e, ap (λ d. d.egress) e))
    (Decides-and _ _ (option_eq-Decides booleans_Decides a.ingress b.ingress) (option_eq-Decides booleans_Decides a.egress b.egress))

pub place_eq-Decides : (a b : Place) → Decides (place.ghosts.eq a b) (a ≡ b)
place_eq-Decides a b =
    Decides-like _ (λ same i. record { key = same.0 i; rule = same.1.0 i; section = same.1.1.0 i; entry = same.1.1.1 i })
    (λ e. (ap (λ p. p.key) e, (ap (λ p. p.rule) e, (ap (λ p. p.section) e, ap (λ p. p.entry) e))))
    (Decides-and _ _ (policy_key_eq-Decides a.key b.key)
    (Decides-and _ _ (unsigned_Decides a.rule b.rule)
    (Decides-and _ _ (section_eq-Decides a.section b.section) (unsigned_Decides a.entry b.entry))))
