use Rattle.pol_history.proofs.LookedIn.{look-told}
use Rattle.pol_machine.proofs.Looking.{maps_are_read}
use Rattle.pol_machine.proofs.laws.looks_are_told.Goals as goal

pub returns : goal.returns
returns c options history query port legal = look-told options (maps_are_read options) history query port legal
