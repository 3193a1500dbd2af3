use Rattle.pol_history.proofs.Taken.{turn-kept}
use Rattle.pol_history.proofs.turn.turns_stay.Goals as goal

pub returns : goal.returns
returns c = turn-kept
