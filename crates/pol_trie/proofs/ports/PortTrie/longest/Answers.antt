use Rattle.std.proofs.Common.{◌^◌, arith}
use Rattle.pol_trie.proofs.Walking.{visits_within}
use Rattle.pol_trie.proofs.Listing.{Decides-ports}
use Rattle.pol_trie.proofs.ports.PortTrie.longest.Goals as goal

pub returns-clause-kind : goal.returns-clause-kind
returns-clause-kind g c =
    let w = c.self.invariant in
    Decides-ports c.self.inside.nodes c.self.inside.root w c.args.self.now c.self.view_is c.args.port c.longest.result (c.longest.ensures.kind w.tree 0 (2 ^ 16) 0 w.holds)

pub returns-clause-forward : goal.returns-clause-forward
returns-clause-forward g c =
    let w = c.self.invariant in
    omega (arith, c.longest.ensures.cost w.tree 0 (2 ^ 16) 0 w.holds)

pub returns-clause-cost : goal.returns-clause-cost
returns-clause-cost g c =
    let w = c.self.invariant in
    omega (arith, c.longest.ensures.cost w.tree 0 (2 ^ 16) 0 w.holds, visits_within w.tree 0 (2 ^ 16) 0 c.args.port w.holds.fits (omega arith))
