-- What the slot's regeneration says, of what its pass had seen and has seen.
use Rattle.pol_node.proofs.Turning.{has_regenerated}
use Rattle.pol_node.proofs.node.Node.regenerate.Goals as goal

pub returns-in-Some-clause-regen : goal.returns-in-Some-clause-regen
returns-in-Some-clause-regen g c few =
    has_regenerated g.N.NodeName.options c.args.slot _ _ c.regenerate_over.result c.regenerate_over.ensures.grows c.regenerate_over.ensures.regen
