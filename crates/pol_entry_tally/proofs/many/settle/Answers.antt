use Rattle.pol_entry_tally.proofs.Several.{put_last, put_makes}
use Rattle.pol_entry_tally.proofs.many.settle.Goals as goal

pub loop-one-preserved : goal.loop-one-preserved
loop-one-preserved c = (
  put_last c.loop-one.tally c.put_open.new.tally c.in-Some.one c.put_open.ensures.stay c.loop-one.made.items c.pop.new.self.items c.in-Some.ensures.items c.loop-one.invariant.0,
  put_makes c.args.tally.now c.loop-one.tally c.put_open.new.tally c.args.made.items c.loop-one.made.items c.pop.new.self.items c.in-Some.one c.in-Some.ensures.items c.put_open.ensures.put
      c.loop-one.invariant.1,
)
