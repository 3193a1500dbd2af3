use Rattle.std.proofs.Common.{refl}
use Rattle.pol_addr.specs.Cidr.{network}
use Rattle.pol_addr.specs.Prefix.{covers}
use Rattle.pol_model.specs.Enforced.{has_rule}
use Rattle.pol_model.specs.Verdict.{rule_covers}
use Rattle.pol_port_ranges.specs.Ranges.{ranges_from}
use Rattle.pol_connections.specs.Connections.{connections_below, ends_alone}
use Rattle.pol_connections.specs.Ends.{by_name, ends_of}
use Rattle.pol_connections.specs.Regions.{prefixes_in_order}
use Rattle.connection_examples.proofs.states.ends_stand_in_order.Goals as goal

pub returns : goal.returns
unfolding connections_below ends_of by_name prefixes_in_order ends_alone ranges_from rule_covers has_rule covers network
returns c = refl
