use Rattle.pol_port_ranges.proofs.Same.{changes-half}
use Rattle.pol_port_ranges.proofs.laws.a_connection_changes_by_a_half.Goals as goal

pub returns : goal.returns
returns c = changes-half
