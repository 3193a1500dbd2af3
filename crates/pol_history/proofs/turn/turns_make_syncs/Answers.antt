use Rattle.pol_history.proofs.SyncTurns.{turns_synced}
use Rattle.pol_history.proofs.turn.turns_make_syncs.Goals as goal

pub returns : goal.returns
returns c = λ options old then new turns full legal less more all each moved sorted. turns_synced options old then new turns full legal less more all each moved sorted
