use Rattle.pol_addr.proofs.World.{world-IsPrefix}
use Rattle.pol_addr.proofs.network.Prefix.world.Goals as goal

pub invariant_of-result : goal.invariant_of-result
invariant_of-result c = rw c.first_of.ensures (world-IsPrefix c.args.family)
