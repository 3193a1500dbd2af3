use Rattle.std.proofs.Common.{length}
use Rattle.pol_set_changes.proofs.Walk.{from_node, IsAhead}
use Rattle.pol_set_changes.proofs.log.net_on_chain.Given as goal

abbrev pub invariant-loop-node : goal.invariant-loop-node
invariant-loop-node l = IsAhead l.nodes l.selector l.revision l.node l.came.items l.went.items

abbrev pub decreases-loop-node : goal.decreases-loop-node
decreases-loop-node l = length (from_node l.node l.nodes.ages)
