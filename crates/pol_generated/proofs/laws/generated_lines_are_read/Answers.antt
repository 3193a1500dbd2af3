-- The law is a lemma.
use Rattle.pol_generated.proofs.Script.{lines_are_read}
use Rattle.pol_generated.proofs.laws.generated_lines_are_read.Goals as goal

pub returns : goal.returns
returns c = lines_are_read
