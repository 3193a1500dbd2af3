use Rattle.pol_port_ranges.specs.Ranges.{all_ports}
use Rattle.pol_port_ranges.proofs.Normal.{apart, each_port, no_other}
use Rattle.pol_port_ranges.proofs.laws.ranges_tell_each_port.Goals as goal

pub returns : goal.returns
returns c = record { ports = each_port; others = no_other; apart = λ f. apart f all_ports 0 }
