-- The laws are lemmas.
use Rattle.pol_run.proofs.TextHistory.{same_commits, parts_tell}
use Rattle.pol_run.proofs.laws.the_output_tells_the_commits.Goals as goal

pub returns : goal.returns
returns c = record { commits = same_commits; parts = parts_tell }
