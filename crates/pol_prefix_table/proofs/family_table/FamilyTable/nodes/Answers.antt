use Rattle.std.proofs.Common.{ap, arith}
use Rattle.std.specs.FinMap as map
use Rattle.pol_prefix_table.proofs.Bound.{nodes_least, nodes_most}
use Rattle.pol_prefix_table.proofs.family_table.FamilyTable.nodes.Goals as goal

pub returns-clause-least : goal.returns-clause-least
returns-clause-least g c = omega (arith, nodes_least c.self.inside.trie c.len.ensures.trie, ap map.len c.self.view_is, c.len.ensures.value)

pub returns-clause-most : goal.returns-clause-most
returns-clause-most g c = omega (arith, nodes_most c.self.inside.trie c.len.ensures.trie c.self.invariant.1, ap map.len c.self.view_is, c.len.ensures.value)
