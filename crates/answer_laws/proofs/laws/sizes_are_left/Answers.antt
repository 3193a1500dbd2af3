-- The law is a lemma.
use Rattle.answer_laws.proofs.SizesLeft.{sizes_left}
use Rattle.answer_laws.proofs.laws.sizes_are_left.Goals as goal

pub returns : goal.returns
returns c = sizes_left
