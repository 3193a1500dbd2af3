use Rattle.pol_entry_tally.proofs.Stretches.{stretch_asked, stretch_no_more}
use Rattle.pol_entry_tally.proofs.asked.push_between.Goals as goal

pub returns-clause-all : goal.returns-clause-all
returns-clause-all c =
    stretch_asked c.args.counts.now c.between.result.now c.between-2.result.now c.args.from c.args.to c.requires.counts c.between.ensures c.between-2.ensures
    c.args.asked.now.items c.push_counted.new.asked.items c.push_counted-2.new.asked.items c.in_ok-push_counted.ensures c.in_ok-push_counted-2.ensures

pub returns-clause-no_more : goal.returns-clause-no_more
returns-clause-no_more c =
    stretch_no_more c.args.counts.now c.between.result.now c.between-2.result.now c.args.from c.args.to c.requires.counts c.between.ensures c.between-2.ensures
    c.args.asked.now.items c.push_counted.new.asked.items c.push_counted-2.new.asked.items c.in_ok-push_counted.ensures c.in_ok-push_counted-2.ensures
