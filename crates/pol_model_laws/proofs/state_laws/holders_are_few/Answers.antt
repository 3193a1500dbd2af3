use Rattle.pol_model_laws.proofs.StateLaws.{holders-few}
use Rattle.pol_model_laws.proofs.state_laws.holders_are_few.Goals as goal

pub returns : goal.returns
returns c = λ s row it. holders-few s it row
