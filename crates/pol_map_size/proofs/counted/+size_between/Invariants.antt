-- Each of the two parts has fewer numbers.
use Rattle.pol_map_size.proofs.Sizes.{room}
use Rattle.pol_map_size.proofs.counted.+size_between.Given as goal

abbrev pub decreases-size_between : goal.decreases-size_between
decreases-size_between l = room l.from l.end
