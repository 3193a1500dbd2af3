use Rattle.pol_model.proofs.Histories.{state_of-push}
use Rattle.pol_model.proofs.laws.one_request_more.Goals as goal

pub returns : goal.returns
returns c = state_of-push
