use Rattle.pol_connections.proofs.Regions.{held_after, held_before, number_in_region}
use Rattle.pol_connections.proofs.laws.regions_have_one_number.Goals as goal

pub returns : goal.returns
returns c = record { number = number_in_region; before = held_before; after = held_after }
