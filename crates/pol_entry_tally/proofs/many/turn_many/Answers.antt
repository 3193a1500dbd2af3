use Rattle.pol_entry_tally.proofs.Several.{far_none, settled_in_order, settled_turned}
use Rattle.std.proofs.Common.{◌^◌}
use Rattle.pol_entry_tally.proofs.many.turn_many.Goals as goal

pub returns-clause-order : goal.returns-clause-order
returns-clause-order c =
    settled_in_order c.args.tally.now c.gather.new.tally c.settle.new.tally c.args.turns.now (2 ^ 33) c.in_ok-made.made.items c.in_ok-made.ensures.same c.in_ok-made.ensures.made c.settle.ensures c.requires.order

pub returns-clause-ok : goal.returns-clause-ok
returns-clause-ok c =
    settled_turned c.args.tally.now c.gather.new.tally c.settle.new.tally c.args.turns.now (2 ^ 33) c.in_ok-made.made.items c.in_ok-made.ensures.same c.in_ok-made.ensures.made c.settle.ensures
    (far_none c.args.turns.now c.requires.turns)
