use Rattle.pol_hints.proofs.Shares.{all_again, halves_again, less_than_all, order_is_free, same_together, three_together}
use Rattle.pol_hints.proofs.laws.shares_come_together.Goals as goal

pub returns-clause-halves : goal.returns-clause-halves
returns-clause-halves c = halves_again

pub returns-clause-joined : goal.returns-clause-joined
returns-clause-joined c = same_together

pub returns-clause-either : goal.returns-clause-either
returns-clause-either c = order_is_free

pub returns-clause-three : goal.returns-clause-three
returns-clause-three c = three_together

pub returns-clause-all : goal.returns-clause-all
returns-clause-all c = all_again

pub returns-clause-less : goal.returns-clause-less
returns-clause-less c = less_than_all
