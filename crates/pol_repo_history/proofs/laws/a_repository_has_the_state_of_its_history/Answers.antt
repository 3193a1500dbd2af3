use Rattle.pol_repo_history.proofs.AtHistory.{revision_at, state_at}
use Rattle.pol_repo_history.proofs.laws.a_repository_has_the_state_of_its_history.Goals as goal

pub returns : goal.returns
returns c = record { state = state_at; revision = revision_at }
