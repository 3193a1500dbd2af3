use Rattle.std.proofs.Common.{length, subst}
use Rattle.answer_laws.proofs.ReadSizes.{IsSmallReading, reading_small}
use Rattle.answer_laws.proofs.laws.policies_are_short.Goals as goal

pub returns : goal.returns
returns c = record {
  policies = λ line session policy is. subst (IsSmallReading (length line)) is (reading_small line);
  faults = λ line fault is. subst (IsSmallReading (length line)) is (reading_small line);
}
