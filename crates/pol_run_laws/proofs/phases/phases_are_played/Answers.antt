use Rattle.pol_run_laws.proofs.SeatedLines.{phases_played}
use Rattle.pol_run_laws.proofs.phases.phases_are_played.Goals as goal

pub returns : goal.returns
returns c = λ options handed_out olds news lines told new seated phases k seat there. phases_played options handed_out olds news lines told new seated phases k seat there
