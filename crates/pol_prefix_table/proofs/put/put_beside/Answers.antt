use Rattle.std.proofs.Common.{◌≡◌, Some, None, refl, sym, ap, ◌∙◌, subst, arith}
use Rattle.pol_addr.specs.Prefix.{bit_of}
use Rattle.pol_prefix_table.specs.Trie.{FitsBelow, Numbers, number_of}
use Rattle.pol_prefix_table.proofs.Balance.{leaf_of}
use Rattle.pol_prefix_table.proofs.Places.{fork_over_node, fork_over_new, fork_fits, fork_parts, leaf_fits, numbers_twice, over_prefix, over_number, under_too}
use Rattle.pol_addr.proofs.Halves.{half-family}
use Rattle.pol_prefix_table.proofs.Edits.{still_twice}
use Rattle.pol_prefix_table.proofs.Tight.{tight_weaker, tight_all, needed_with_number, fork_needed}
use Rattle.slab.specs.Slab.{get}
use Rattle.pol_prefix_table.proofs.put.put_beside.Goals as goal

pub common-fork-requires : goal.common-fork-requires
common-fork-requires g c =
    let h = c.requires.spot in
    let m = c.at-other.result in
    let under = under_too c.args.trie.now c.at-other.ensures.trie.tree c.args.prefix c.args.spot.0 c.args.spot.1 h c.args.below m (c.requires.link h.parent h.there) c.at-other.ensures.node in
    record { family = half-family h.parent.prefix c.args.prefix c.args.spot.1 h.under ∙ sym (half-family h.parent.prefix m.prefix c.args.spot.1 under) }

pub over-node-requires-clause-longer : goal.over-node-requires-clause-longer
over-node-requires-clause-longer g c =
    let h = c.requires.spot in
    let m = c.at-other.result in
    let f = c.common-fork.ensures in
    fork_over_node c.args.trie.now c.at-other.ensures.trie.tree c.args.prefix c.args.spot.0 c.args.spot.1 h c.args.below m (c.requires.link h.parent h.there) c.at-other.ensures.node c.common-fork.result c.len-len.ensures.valid f.this f.that f.longest (c.requires.differs m c.at-other.ensures.node) (c.requires.parts m c.at-other.ensures.node)

pub attach-key-requires-clause-fits : goal.attach-key-requires-clause-fits
attach-key-requires-clause-fits g c =
    let h = c.requires.spot in
    let m = c.at-other.result in
    let f = c.common-fork.ensures in
    subst (FitsBelow c.args.trie.now c.args.spot.0 c.args.spot.1) (sym c.over-node.ensures)
    (fork_fits c.args.trie.now c.at-other.ensures.trie.tree c.args.prefix c.args.spot.0 c.args.spot.1 h c.args.below m (c.requires.link h.parent h.there) c.at-other.ensures.node c.common-fork.result c.len-len.ensures.valid f.this f.that f.longest (c.requires.differs m c.at-other.ensures.node) (c.requires.parts m c.at-other.ensures.node) None)

pub bit-requires : goal.bit-requires
bit-requires g c =
    let h = c.requires.spot in
    let m = c.at-other.result in
    let f = c.common-fork.ensures in
    let shorter = fork_over_new c.args.trie.now c.at-other.ensures.trie.tree c.args.prefix c.args.spot.0 c.args.spot.1 h c.args.below m (c.requires.link h.parent h.there) c.at-other.ensures.node c.common-fork.result c.len-len.ensures.valid f.this f.that f.longest (c.requires.differs m c.at-other.ensures.node) (c.requires.parts m c.at-other.ensures.node) in
    let valid = h.valid in
    omega (arith, shorter, valid.len_in_range, c.len-len.ensures.value)

pub attach-requires-clause-fits : goal.attach-requires-clause-fits
attach-requires-clause-fits g c =
    let h = c.requires.spot in
    let m = c.at-other.result in
    let f = c.common-fork.ensures in
    let there = c.attach-key.ensures.there ∙ ap Some c.over-node.ensures in
    let side = c.bit.ensures ∙ ap (bit_of c.args.prefix) c.len-len.ensures.value in
    subst (FitsBelow c.attach-key.new.self c.attach-key.result c.bit.result) (sym c.leaf.ensures)
    (subst (λ b. FitsBelow c.attach-key.new.self c.attach-key.result b (leaf_of c.args.prefix (Some c.args.number))) (sym side)
    (leaf_fits c.args.trie.now c.at-other.ensures.trie.tree c.args.prefix c.args.spot.0 c.args.spot.1 h c.args.below m (c.requires.link h.parent h.there) c.at-other.ensures.node c.common-fork.result c.len-len.ensures.valid f.this f.that f.longest (c.requires.differs m c.at-other.ensures.node) (c.requires.parts m c.at-other.ensures.node) c.attach-key.new.self c.attach-key.result None (Some c.args.number) there))

pub returns-clause-numbers : goal.returns-clause-numbers
returns-clause-numbers g c =
    let bit = bit_of c.at-other.result.prefix c.common-fork.result.len in
    let prefix_is = ap (λ n. n.prefix) c.over-node.ensures ∙ over_prefix c.common-fork.result None bit (Some c.args.below) in
    let number_is = ap (λ n. n.number) c.over-node.ensures ∙ over_number c.common-fork.result None bit (Some c.args.below) in
    let first : Numbers c.args.trie.now c.attach-key.new.self c.common-fork.result None =
    subst (λ o. Numbers c.args.trie.now c.attach-key.new.self c.common-fork.result o) number_is
    (subst (λ p. Numbers c.args.trie.now c.attach-key.new.self p c.over-node.result.number) prefix_is c.attach-key.ensures.numbers) in
    let second : Numbers c.attach-key.new.self c.attach.new.self c.args.prefix (Some c.args.number) =
    subst (λ n. Numbers c.attach-key.new.self c.attach.new.self n.prefix n.number) c.leaf.ensures c.attach.ensures.numbers in
    numbers_twice c.args.trie.now c.attach-key.new.self c.attach.new.self c.common-fork.result c.args.prefix (Some c.args.number) (ap (number_of c.args.trie.now) (sym prefix_is) ∙ c.attach-key.ensures.was_absent) first second

pub returns-clause-kept : goal.returns-clause-kept
returns-clause-kept g c = still_twice c.args.trie.now c.attach-key.new.self c.attach.new.self c.attach-key.ensures.kept c.attach.ensures.kept

pub returns-clause-tight : goal.returns-clause-tight
returns-clause-tight g c =
    let h = c.requires.spot in
    let m = c.at-other.result in
    let f = c.common-fork.ensures in
    let key = c.attach-key.result in
    let bit = bit_of m.prefix c.common-fork.result.len in
    let side = c.bit.ensures ∙ ap (bit_of c.args.prefix) c.len-len.ensures.value in
    let parts : c.bit.result ≡ bit → ⊥ = λ same.
    fork_parts c.args.trie.now c.at-other.ensures.trie.tree c.args.prefix c.args.spot.0 c.args.spot.1 h c.args.below m (c.requires.link h.parent h.there) c.at-other.ensures.node c.common-fork.result c.len-len.ensures.valid f.this f.that f.longest (c.requires.differs m c.at-other.ensures.node) (c.requires.parts m c.at-other.ensures.node) (sym side ∙ same) in
    let first = c.attach-key.ensures.tight key (tight_weaker (get c.args.trie.now) key c.requires.tight) (λ differs. absurd (differs refl)) in
    let leaf = needed_with_number c.leaf.result c.args.number (ap (λ n. n.number) c.leaf.ensures) in
    let second = c.attach.ensures.tight key first (λ _. leaf) in
    let there = c.attach.ensures.parent _ (c.attach-key.ensures.there ∙ ap Some c.over-node.ensures) in
    tight_all (get c.attach.new.self) key _ second there (fork_needed c.common-fork.result None bit c.bit.result c.args.below c.attach.result parts)
