use Rattle.pol_json.proofs.Visits.{places_ascend}
use Rattle.pol_json.proofs.laws.places_are_in_the_order_of_paths.Goals as goal

pub returns : goal.returns
returns c = places_ascend
