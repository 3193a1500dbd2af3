use Rattle.pol_headings.proofs.Numbers.{ascends}
use Rattle.pol_headings.proofs.filing.push_all.Goals as goal

pub returns-clause-ascend : goal.returns-clause-ascend
returns-clause-ascend c = ascends c.args.filed.now.keys c.into_iter-number-iterator.ensures.into_iter_gives.4
