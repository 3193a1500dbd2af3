use Rattle.std.proofs.Common.{◌^◌, sym, ap, ◌∙◌}
use Rattle.std.specs.FinMap as map
use Rattle.pol_trie.proofs.Listing.{get-ports_of}
use Rattle.pol_trie.proofs.ports.PortTrie.get.Goals as goal

pub returns : goal.returns
returns c =
    let w = c.self.invariant in
    c.kind_at.ensures w.tree 0 (2 ^ 16) 0 w.holds ∙ sym (get-ports_of c.self.inside.nodes c.self.inside.root w c.args.port.now) ∙ ap (λ m. map.get m c.args.port.now) c.self.view_is
