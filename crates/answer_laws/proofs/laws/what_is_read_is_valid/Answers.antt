use Rattle.std.proofs.Common.{subst}
use Rattle.answer_laws.proofs.ValidReads.{IsValidReading, reading_valid}
use Rattle.answer_laws.proofs.laws.what_is_read_is_valid.Goals as goal

pub returns : goal.returns
returns c = λ line session asked is. subst IsValidReading is (reading_valid line)
