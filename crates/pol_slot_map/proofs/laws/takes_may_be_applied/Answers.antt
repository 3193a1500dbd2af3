use Rattle.pol_slot_map.proofs.Applying.{may_apply}
use Rattle.pol_slot_map.proofs.laws.takes_may_be_applied.Goals as goal

pub returns : goal.returns
returns c options journal since within work row slot taken filters sets is told =
    may_apply options journal since within work row slot taken filters sets is told
