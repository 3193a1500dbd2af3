use Rattle.pol_history.proofs.Looks.{looks_grow}
use Rattle.pol_history.proofs.laws.looks_grow.Goals as goal

pub returns : goal.returns
returns c = λ options history more query row revision word legal found is lives. looks_grow options history more legal query row revision word found is lives
