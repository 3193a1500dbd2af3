use Rattle.std.proofs.Common.{subst}
use Rattle.pol_entry_tally.specs.Counts.{Ascend}
use Rattle.pol_entry_tally.proofs.AtPlaces.{back_ascends}
use Rattle.pol_entry_tally.proofs.asked.between.Goals as goal

pub split_at_place-requires-2 : goal.split_at_place-requires-2
split_at_place-requires-2 c = back_ascends c.split_at_place.result.0.now c.split_at_place.result.1.now (subst Ascend c.split_at_place.ensures.parts c.requires)
