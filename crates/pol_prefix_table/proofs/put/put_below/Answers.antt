use Rattle.std.proofs.Common.{◌≡◌, Some, sym, ap, ◌∙◌, subst}
use Rattle.pol_addr.specs.Prefix.{world}
use Rattle.pol_prefix_table.specs.Trie.{Numbers}
use Rattle.pol_addr.proofs.Containment.{covers_refl}
use Rattle.pol_addr.proofs.World.{world_from_len}
use Rattle.pol_prefix_table.proofs.Taking.{spot_over}
use Rattle.pol_prefix_table.proofs.put.put_below.Goals as goal

pub returns-then-len-eq0-clause-over : goal.returns-then-len-eq0-clause-over
returns-then-len-eq0-clause-over g c = covers_refl c.args.prefix c.len.ensures.valid

pub returns-then-len-eq0-clause-numbers : goal.returns-then-len-eq0-clause-numbers
returns-then-len-eq0-clause-numbers g c =
    let (root, is, prefix_is) = c.requires.rooted in
    let same : root.prefix ≡ c.args.prefix = prefix_is ∙ ap world (sym c.requires.family) ∙ sym (world_from_len c.args.prefix c.len.ensures.valid (sym c.len.ensures.value ∙ c.if-len-eq0.true)) in
    subst (λ p. Numbers c.args.trie.now c.set_number.new.self p (Some c.args.number)) same (c.set_number.ensures.numbers root is)

pub returns-clause-over : goal.returns-clause-over
returns-clause-over g c = spot_over c.args.trie.now c.at-over.ensures.trie.tree c.args.prefix c.spot_of-spot.result.0 c.spot_of-spot.result.1 c.spot_of-spot.ensures.spot c.at-over.result c.at-over.ensures.node
