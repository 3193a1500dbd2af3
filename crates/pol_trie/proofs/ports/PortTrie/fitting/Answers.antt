use Rattle.std.proofs.Common.{◌≡◌, max, ap, ◌∙◌, arith}
use Rattle.pol_arena.specs.Pool.{Pool, nodes_in_use}
use Rattle.pol_trie.specs.declared.node.PortNode.{PortNode}
use Rattle.pol_trie.proofs.Listing.{few_nodes}
use Rattle.pol_trie.proofs.Copying.{fits_into, trie_copied, ports_copied}
use Rattle.pol_trie.proofs.ports.PortTrie.fitting.Goals as goal

pub reserve-requires : goal.reserve-requires
reserve-requires c =
    record { fits = omega (arith, few_nodes c.self.inside.nodes c.self.inside.root c.self.invariant, c.nodes_in_use-most.ensures.count, ap nodes_in_use c.new-nodes.ensures.pool) }

pub copied-root-requires : goal.copied-root-requires
copied-root-requires c =
    let spare : c.reserve.new.self.spare ≡ max c.new-nodes.result.spare c.nodes_in_use-most.result = ap (λ (p : Pool PortNode). p.spare) c.in_ok-reserve.ensures.ok in
    fits_into c.self.inside.nodes c.self.inside.root c.self.invariant c.reserve.new.self (omega (arith, spare, c.nodes_in_use-most.ensures.count))

pub invariant_of-result : goal.invariant_of-result
invariant_of-result c =
    trie_copied c.self.inside.nodes c.self.inside.root c.self.invariant c.reserve.new.self c.copied-root.new.to c.copied-root.result
    (ap nodes_in_use c.in_ok-reserve.ensures.ok ∙ ap nodes_in_use c.new-nodes.ensures.pool) c.copied-root.ensures

pub returns : goal.returns
returns c =
    ports_copied c.self.inside.nodes c.self.inside.root c.self.invariant c.reserve.new.self c.copied-root.new.to c.copied-root.result
    (ap nodes_in_use c.in_ok-reserve.ensures.ok ∙ ap nodes_in_use c.new-nodes.ensures.pool) c.copied-root.ensures
    ∙ c.self.view_is
