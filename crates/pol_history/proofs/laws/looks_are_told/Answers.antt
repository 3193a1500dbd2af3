use Rattle.pol_history.proofs.LookedIn.{look-told}
use Rattle.pol_history.proofs.laws.looks_are_told.Goals as goal

pub returns : goal.returns
returns c = λ options history query law port legal. look-told options law history query port legal
