use Rattle.std.proofs.Common.{◌+◌, ◌*◌, length}
use Rattle.pol_sessions.proofs.phase.+sessions.Given as goal

-- the others are one fewer than all
abbrev pub decreases-play_sessions : goal.decreases-play_sessions
decreases-play_sessions g l = 3 * length l.passes.items

abbrev pub decreases-play_in_turn : goal.decreases-play_in_turn
decreases-play_in_turn g l = 3 * length l.others.passes.items + 2

abbrev pub decreases-play_at_once : goal.decreases-play_at_once
decreases-play_at_once g l = 3 * length l.others.passes.items + 2

abbrev pub decreases-play_at_once-join+arg2 : goal.decreases-play_at_once-join+arg2
decreases-play_at_once-join+arg2 g l = 3 * length l.passes.items + 1
