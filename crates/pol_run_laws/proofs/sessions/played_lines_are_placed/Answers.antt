use Rattle.pol_run_laws.proofs.Phased.{are_placed}
use Rattle.pol_run_laws.proofs.sessions.played_lines_are_placed.Goals as goal

pub returns : goal.returns
returns c = are_placed
