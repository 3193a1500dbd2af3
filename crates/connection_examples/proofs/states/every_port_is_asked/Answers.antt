use Rattle.std.proofs.Common.{List, [], ◌∷◌, ◌++◌, map, refl, ap, None, false}
use Rattle.std.specs.List.{flat_map}
use Rattle.pol_addr.specs.Cidr.{network}
use Rattle.pol_addr.specs.Prefix.{covers}
use Rattle.pol_ports.specs.declared.Proto.TheVariants.{Tcp, Udp, Sctp}
use Rattle.pol_model.specs.Enforced.{has_rule}
use Rattle.pol_model.specs.Verdict.{rule_covers}
use Rattle.pol_port_ranges.specs.declared.said.Range.{Range}
use Rattle.pol_port_ranges.specs.declared.said.PortSaid.{PortSaid}
use Rattle.pol_connections.specs.declared.end.Connection.{Connection}
use Rattle.pol_connections.specs.declared.end.EndName.{EndName}
use Rattle.pol_connections.specs.Connections.{connections_below}
use Rattle.pol_connections.specs.Ends.{by_name, ends_of}
use Rattle.pol_connections.specs.Regions.{prefixes_in_order}
use Rattle.connection_examples.specs.States.{both_allow, judged, unjudged}
use Rattle.connection_examples.proofs.Ports.{one_range}
use Rattle.connection_examples.proofs.states.every_port_is_asked.Goals as goal

abbrev open_said : PortSaid
open_said = record { before = None; after = both_allow; halves = false }

-- these ranges, for each protocol
abbrev of_pair : List Range → EndName → EndName → List Connection
of_pair ranges from to = flat_map (λ proto. map (λ range. record { from = from; to = to; proto = proto; range = range }) ranges) (Tcp ∷ Udp ∷ Sctp ∷ [])

-- of each end, to those of which it is asked
abbrev asked : List (EndName × List EndName)
asked = map (λ from. (from, judged ++ unjudged)) judged ++ map (λ from. (from, judged)) unjudged

abbrev of_all : List Range → List Connection
of_all ranges = flat_map (λ pair. flat_map (of_pair ranges pair.0) pair.1) asked

pub returns : goal.returns
unfolding connections_below ends_of by_name prefixes_in_order rule_covers has_rule covers network
returns c = record {
  alone = λ options s. refl;
  changes = λ halves options s t. refl;
  nobody = refl;
  no_policies = ap of_all (one_range open_said);
}
