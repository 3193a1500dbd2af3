-- The law is a lemma.
use Rattle.pol_generated.proofs.Faultless.{none_is_marked}
use Rattle.pol_generated.proofs.laws.no_generated_line_is_refused.Goals as goal

pub returns : goal.returns
returns c = none_is_marked
