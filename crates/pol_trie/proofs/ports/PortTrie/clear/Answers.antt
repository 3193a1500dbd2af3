use Rattle.std.proofs.Common.{◌^◌, None, ap, ◌∙◌}
use Rattle.std.specs.FinMap as map
use Rattle.pol_trie.proofs.Putting.{with_kind}
use Rattle.pol_trie.proofs.Listing.{IsTrie-after, ports_of-taken}
use Rattle.pol_trie.proofs.ports.PortTrie.clear.Goals as goal

pub returns : goal.returns
returns c =
    let w = c.self.invariant in
    ports_of-taken c.self.inside.nodes c.take-self-inside.new.nodes c.self.inside.root c.take-self-inside.result w c.args.port.now (c.take-self-inside.ensures w.tree 0 (2 ^ 16) 0 w.holds)
    ∙ ap (λ m. map.remove m c.args.port.now) c.self.view_is

pub invariant_of-self : goal.invariant_of-self
invariant_of-self c =
    let w = c.self.invariant in
    IsTrie-after c.self.inside.nodes c.take-self-inside.new.nodes c.self.inside.root c.take-self-inside.result w (with_kind c.args.port.now None w.tree) (c.take-self-inside.ensures w.tree 0 (2 ^ 16) 0 w.holds)
