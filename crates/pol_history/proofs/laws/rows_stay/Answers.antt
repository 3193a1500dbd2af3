use Rattle.pol_history.proofs.Lives.{lives-then}
use Rattle.pol_history.proofs.laws.rows_stay.Goals as goal

pub returns : goal.returns
returns c = λ options history endpoint row revision since within live. lives-then options history endpoint row revision within since live
