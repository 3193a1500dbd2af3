use Rattle.pol_map_dump.proofs.Comparing.{agree}
use Rattle.pol_map_dump.proofs.laws.maps_agree_where_verdicts_do.Goals as goal

pub returns : goal.returns
returns c = agree
