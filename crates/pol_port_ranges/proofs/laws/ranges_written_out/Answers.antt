use Rattle.std.proofs.Common.{refl}
use Rattle.pol_port_ranges.specs.Ranges.{ranges_from}
use Rattle.pol_port_ranges.proofs.laws.ranges_written_out.Goals as goal

pub returns : goal.returns
unfolding ranges_from
returns c = record { denied = refl; touch = refl; hole = refl; halves = refl; shut = refl; alone = refl }
