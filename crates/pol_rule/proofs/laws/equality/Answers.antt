use Rattle.pol_rule.proofs.Equality.{entity_eq-Decides, peer_eq-Decides, peers_eq-Decides, port_spec_eq-Decides, entry_eq-Decides, policy_key_eq-Decides, section_eq-Decides, default_deny_eq-Decides, place_eq-Decides}
use Rattle.pol_rule.proofs.laws.equality.Goals as goal

pub returns : goal.returns
returns c = record {
  entity = entity_eq-Decides;
  peer = peer_eq-Decides;
  peers = peers_eq-Decides;
  port_spec = port_spec_eq-Decides;
  entry = entry_eq-Decides;
  policy_key = policy_key_eq-Decides;
  section = section_eq-Decides;
  default_deny = default_deny_eq-Decides;
  place = place_eq-Decides;
}
