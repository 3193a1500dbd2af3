-- Maps of small states.
use Rattle.std.proofs.Common.{◌≡◌, [], ◌∷◌, Some, refl}
use Rattle.std.specs.Prelude.{codes}
use Rattle.pol_addr.specs.Address.{addr_of_octets}
use Rattle.pol_addr.specs.Cidr.{network}
use Rattle.pol_addr.specs.Prefix.{contains, covers}
use Rattle.pol_mapkey.specs.declared.Word.TheVariants.{Allowed, DeniedByRule, DeniedByDefault}
use Rattle.pol_ports.specs.PortPrefix.{prefix_at}
use Rattle.pol_ports.specs.declared.Direction.TheVariants.{Ingress, Egress}
use Rattle.pol_ports.specs.declared.Proto.TheVariants.{Tcp}
use Rattle.pol_mapkey.specs.MapKey.{every_key, port_key}
use Rattle.pol_mapkey.specs.declared.Kind.TheVariants.{Allow, Deny}
use Rattle.pol_model.specs.Enforced.{has_rule}
use Rattle.pol_model.specs.Verdict.{rule_covers}
use Rattle.pol_model_laws.specs.WorkedMaps.{map_after, size_after, word_after, number_after, net_without_part, net_of_denied_world, two_let_in_widely, udp_80, sctp_80, x_let_in, x_denied, x_let_in_again, all_let_in, cluster_let_in}
use Rattle.pol_model_laws.proofs.QuickSplit.{split_80, split_wide}

pub allowed : map_after (codes "web") x_let_in
    ≡ Some ((every_key Ingress 1, Allow) ∷ (port_key Ingress 257 Tcp (prefix_at 80 16), Allow) ∷ (every_key Egress 0, Allow) ∷ [])
unfolding has_rule
allowed = rw split_80 refl

pub denied : map_after (codes "web") x_denied
    ≡ Some ((every_key Ingress 1, Allow) ∷ (every_key Ingress 257, Deny) ∷ (every_key Egress 0, Allow) ∷ [])
unfolding has_rule
denied = rw split_80 refl

pub allowed_again : map_after (codes "web") x_let_in_again
    ≡ Some ((every_key Ingress 1, Allow) ∷ (port_key Ingress 257 Tcp (prefix_at 80 16), Allow) ∷ (every_key Egress 0, Allow) ∷ [])
unfolding has_rule
allowed_again = rw split_80 refl

pub sized : size_after (codes "web") (two_let_in_widely (udp_80 ∷ [])) ≡ Some 184
unfolding has_rule
sized = rw (split_80, split_wide) refl

pub sized_more : size_after (codes "web") (two_let_in_widely (udp_80 ∷ sctp_80 ∷ [])) ≡ Some 185
unfolding has_rule
sized_more = rw (split_80, split_wide) refl

pub net_inside : word_after (codes "web") net_without_part Egress (addr_of_octets 10 0 0 1) ≡ Some Allowed
unfolding has_rule rule_covers contains network
net_inside = refl

pub net_part : word_after (codes "web") net_without_part Egress (addr_of_octets 10 1 0 1) ≡ Some DeniedByDefault
unfolding has_rule rule_covers contains network
net_part = refl

pub net_outside : word_after (codes "web") net_without_part Egress (addr_of_octets 11 0 0 1) ≡ Some DeniedByDefault
unfolding has_rule rule_covers contains network
net_outside = refl

pub world_denied : word_after (codes "web") net_of_denied_world Ingress (addr_of_octets 10 0 0 1) ≡ Some DeniedByRule
unfolding has_rule rule_covers contains network
world_denied = refl

pub longest_number : number_after net_without_part (addr_of_octets 10 1 0 1) ≡ 16777218
unfolding contains network
longest_number = refl

pub world_map : map_after (codes "web") net_of_denied_world
    ≡ Some ((every_key Ingress 1, Allow) ∷ (every_key Ingress 2, Deny) ∷ (every_key Ingress 9, Deny) ∷ (every_key Ingress 10, Deny) ∷ (every_key Ingress 16777217, Deny) ∷ (every_key Egress 0, Allow) ∷ [])
unfolding has_rule covers network
world_map = refl

pub net_map : map_after (codes "web") net_without_part
    ≡ Some ((every_key Ingress 0, Allow) ∷ (every_key Ingress 1, Allow) ∷ (every_key Egress 16777217, Allow) ∷ [])
unfolding has_rule covers network
net_map = refl

pub all_map : map_after (codes "web") all_let_in
    ≡ Some ((port_key Ingress 0 Tcp (prefix_at 80 16), Allow) ∷ (every_key Ingress 1, Allow) ∷ (every_key Egress 0, Allow) ∷ [])
unfolding has_rule
all_map = rw split_80 refl

pub cluster_outside : word_after (codes "web") cluster_let_in Ingress (addr_of_octets 11 0 0 1) ≡ Some DeniedByDefault
unfolding has_rule rule_covers
cluster_outside = refl

pub cluster_inside : word_after (codes "web") cluster_let_in Ingress (addr_of_octets 10 0 0 9) ≡ Some Allowed
unfolding has_rule rule_covers
cluster_inside = refl

pub own_endpoint : word_after (codes "web") net_of_denied_world Ingress (addr_of_octets 192 168 0 1) ≡ Some DeniedByDefault
unfolding has_rule rule_covers
own_endpoint = refl

pub endpoint_number : number_after net_without_part (addr_of_octets 192 168 0 1) ≡ 256
endpoint_number = refl

pub inside_number : number_after net_without_part (addr_of_octets 10 0 0 1) ≡ 16777217
unfolding contains network
inside_number = refl

pub outside_number : number_after net_without_part (addr_of_octets 11 0 0 1) ≡ 9
unfolding contains network
outside_number = refl
