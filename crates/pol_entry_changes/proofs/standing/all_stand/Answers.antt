use Rattle.pol_entry_changes.proofs.OneMore.{stands_more}
use Rattle.pol_entry_changes.proofs.standing.all_stand.Goals as goal

pub loop-i-preserved : goal.loop-i-preserved
loop-i-preserved c =
    stands_more c.args.old.now c.args.new.now c.loop-i.i c.index-old-i.result c.index-new-i.result c.loop-i-test.true c.if-i-new.false c.index-old-i.is
    c.index-new-i.is (c.stands_at.ensures c.if-not-stands_at.false) c.loop-i.invariant
