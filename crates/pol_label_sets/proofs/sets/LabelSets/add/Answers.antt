use Rattle.pol_label_sets.proofs.Refiled.{came_back}
use Rattle.pol_label_sets.proofs.sets.LabelSets.add.Goals as goal

pub invariant_of-self-in-Err : goal.invariant_of-self-in-Err
invariant_of-self-in-Err c =
    rw c.in-Err.ensures.err
    (came_back _ _ c.self.invariant c.args.labels.now c.add_filed.new.filing _ (rw c.in_ok-copy.ensures.equal at c.in-Err.ensures.apart)
    (rw (c.as_slice.ensures.labels, c.free_place-place.ensures) at c.unfile_each.ensures))
