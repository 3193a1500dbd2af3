use Rattle.pol_label_sets.proofs.Refiled.{held}
use Rattle.pol_label_sets.proofs.sets.LabelSets.hold.Goals as goal

pub invariant_of-self : goal.invariant_of-self
invariant_of-self c = held _ _ c.self.invariant c.args.place _ c.hold.result c.hold.ensures.ok c.hold.ensures.err
