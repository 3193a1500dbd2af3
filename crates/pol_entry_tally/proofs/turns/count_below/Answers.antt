use Rattle.pol_entry_tally.proofs.InOrder.{high_at}
use Rattle.pol_entry_tally.proofs.turns.count_below.Goals as goal

pub returns-then-bound-turns-clause-high : goal.returns-then-bound-turns-clause-high
returns-then-bound-turns-clause-high c = high_at c.args.bound c.args.turns.now c.loop-i.i 0 c.requires c.loop-i-test.true c.if-bound-turns.true
