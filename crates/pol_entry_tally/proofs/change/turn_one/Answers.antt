use Rattle.pol_entry_tally.specs.Counted.{times_after, times_of}
use Rattle.pol_entry_tally.specs.Counts.{counts_of}
use Rattle.pol_entry_tally.proofs.Ranges.{held_after, held_before, ok_turned, on_ok}
use Rattle.pol_entry_tally.proofs.change.turn_one.Goals as goal

pub returns-clause-ok : goal.returns-clause-ok
returns-clause-ok c =
    ok_turned c.put.result c.args.tally.now c.put.new.self c.args.group (counts_of c.in_ok-counts.counts) c.args.turns.now c.requires.order c.requires.own c.in_ok-counts.ensures.times c.put.ensures.ok

pub returns-clause-listed : goal.returns-clause-listed
returns-clause-listed c =
    on_ok c.put.result (c.in_ok-counts.ensures.listed (times_of c.args.tally.now) (times_after c.args.tally.now c.args.turns.now)
    (held_before c.args.tally.now c.args.group)
    (held_after c.args.tally.now c.args.turns.now c.args.group (counts_of c.in_ok-counts.counts) c.in_ok-counts.ensures.times))
