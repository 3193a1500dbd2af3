use Rattle.pol_history.proofs.Schedule.{steps_for}
use Rattle.pol_history.proofs.Steps.{steps_legal}
use Rattle.pol_machine.proofs.laws.law_of_histories.Goals as goal

pub returns : goal.returns
returns c = λ options history. ((λ both. steps_for options history both.0 both.1), steps_legal options history)
