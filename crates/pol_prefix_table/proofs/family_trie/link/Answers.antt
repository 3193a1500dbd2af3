use Rattle.std.proofs.Common.{ap, ◌∙◌}
use Rattle.pol_addr.specs.Address.{family_of}
use Rattle.pol_prefix_table.proofs.Edits.{with_child-prefix}
use Rattle.pol_prefix_table.proofs.family_trie.link.Goals as goal

pub set-requires-clause-family : goal.set-requires-clause-family
set-requires-clause-family g c =
    ap (λ n. family_of n.prefix.addr) c.with_child-node.ensures ∙ ap (λ p. family_of p.addr) (with_child-prefix c.at.result c.args.high c.args.key) ∙ c.at.ensures.family
