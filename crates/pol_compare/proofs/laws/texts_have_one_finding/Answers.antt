use Rattle.pol_compare.proofs.OneFinding.{one_finding}
use Rattle.pol_compare.proofs.laws.texts_have_one_finding.Goals as goal

pub returns : goal.returns
returns c = one_finding
