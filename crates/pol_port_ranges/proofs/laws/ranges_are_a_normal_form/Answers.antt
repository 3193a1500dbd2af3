use Rattle.pol_port_ranges.proofs.Normal.{normal, of_ports}
use Rattle.pol_port_ranges.proofs.laws.ranges_are_a_normal_form.Goals as goal

pub returns : goal.returns
returns c = record { lists = normal; ports = of_ports }
