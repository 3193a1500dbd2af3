use Rattle.pol_answer.proofs.Rebuilt.{tells, no_more}
use Rattle.pol_answer.proofs.laws.the_text_tells_the_answer.Goals as goal

pub returns-clause-tells : goal.returns-clause-tells
returns-clause-tells c = tells

pub returns-clause-no_more : goal.returns-clause-no_more
returns-clause-no_more c = no_more
