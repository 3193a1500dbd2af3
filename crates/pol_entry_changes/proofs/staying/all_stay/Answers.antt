use Rattle.pol_sets.specs.Sets.{set_given}
use Rattle.pol_entry_changes.specs.Given.{given_by}
use Rattle.pol_entry_changes.proofs.AllStand.{all_gone_through, filter_more}
use Rattle.pol_entry_changes.proofs.staying.all_stay.Goals as goal

pub loop-one-preserved : goal.loop-one-preserved
loop-one-preserved c =
    filter_more (given_by (set_given c.args.was.now) c.args.dir) (given_by (set_given c.args.is.now.rows) c.args.dir) c.args.filters.now c.loop-one.one-index c.one-item.result
    c.args.out.now c.loop-one.out c.stays.new.out c.loop-one-test.true c.one-item.is c.loop-one.invariant c.in_ok-stays.ensures

pub returns : goal.returns
returns c =
    all_gone_through (given_by (set_given c.args.was.now) c.args.dir) (given_by (set_given c.args.is.now.rows) c.args.dir) c.args.filters.now c.loop-one.one-index
    c.args.out.now c.loop-one.out c.loop-one-test.false c.loop-one.invariant
