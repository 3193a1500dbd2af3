use Rattle.pol_slot_map.proofs.Places.{places_differ}
use Rattle.pol_slot_map.proofs.laws.filters_stand_at_different_places.Goals as goal

pub returns : goal.returns
returns c = places_differ
