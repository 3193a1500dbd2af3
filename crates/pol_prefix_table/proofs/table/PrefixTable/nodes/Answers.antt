use Rattle.std.proofs.Common.{ap, arith}
use Rattle.std.specs.FinMap as map
use Rattle.pol_prefix_table.proofs.Joined.{len-joined}
use Rattle.pol_prefix_table.proofs.table.PrefixTable.nodes.Goals as goal

pub returns-clause-least : goal.returns-clause-least
returns-clause-least c =
    let both = len-joined c.self.inside.v4 c.self.inside.v6 c.self.invariant.0 c.self.invariant.1 in
    omega (arith, both, ap map.len c.self.view_is, c.nodes.ensures.least, c.nodes-2.ensures.least)

pub returns-clause-most : goal.returns-clause-most
returns-clause-most c =
    let both = len-joined c.self.inside.v4 c.self.inside.v6 c.self.invariant.0 c.self.invariant.1 in
    omega (arith, both, ap map.len c.self.view_is, c.nodes.ensures.most, c.nodes-2.ensures.most)
