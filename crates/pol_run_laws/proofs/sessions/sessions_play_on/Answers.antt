use Rattle.pol_run_laws.proofs.PlayingOn.{plays_grow, plays_more}
use Rattle.pol_run_laws.proofs.sessions.sessions_play_on.Goals as goal

pub returns : goal.returns
returns c = record { more = plays_more; grows = plays_grow }
