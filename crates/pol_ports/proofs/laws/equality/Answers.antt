-- Each clause is a lemma.
use Rattle.pol_ports.proofs.Equality.{direction_eq-Decides, proto_eq-Decides, port_range_eq-Decides, port_prefix_eq-Decides}
use Rattle.pol_ports.proofs.laws.equality.Goals as goal

pub returns : goal.returns
returns c = record {
  directions = direction_eq-Decides;
  protos = proto_eq-Decides;
  ranges = port_range_eq-Decides;
  prefixes = port_prefix_eq-Decides;
}
