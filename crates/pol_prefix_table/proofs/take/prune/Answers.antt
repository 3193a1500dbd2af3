use Rattle.std.proofs.Common.{◌≤◌, subst, sym, ap, ◌∙◌}
use Rattle.std.proofs.lemmas.Bool.{both_ways}
use Rattle.std.proofs.lemmas.Option.{same_Some}
use Rattle.slab.specs.Slab.{get}
use Rattle.pol_prefix_table.specs.Sizes.{weight}
use Rattle.pol_prefix_table.proofs.Taking.{has_only}
use Rattle.pol_prefix_table.proofs.Tight.{tight_all, loosened_if, alone_stays, not_both_below, no_number}
use Rattle.pol_prefix_table.proofs.take.prune.Goals as goal

pub returns-then-is_needed-clause-tight : goal.returns-then-is_needed-clause-tight
returns-then-is_needed-clause-tight g c = tight_all (get c.args.trie.now) c.args.at c.at-node.result c.requires.tight c.at-node.ensures.node (c.is_needed.ensures.0 c.if-is_needed.true)

pub returns-then-is_needed-clause-rooted : goal.returns-then-is_needed-clause-rooted
returns-then-is_needed-clause-rooted g c = c.at-node.ensures.trie.rooted c.args.at c.at-node.result c.at-node.ensures.node

pub splice-requires-clause-only : goal.splice-requires-clause-only
splice-requires-clause-only g c =
    let n = c.at-node.result in
    let free : 2 ≤ weight n → ⊥ = λ enough. both_ways _ c.if-is_needed.false (c.is_needed.ensures.1 enough) in
    has_only c.args.trie.now c.at-node.ensures.trie.tree c.args.spot.0 c.args.at c.args.spot.1 n c.only-only.result (c.requires.spot n c.at-node.ensures.node) c.at-node.ensures.node c.only-only.ensures.key (not_both_below n free)

pub splice-requires-clause-number : goal.splice-requires-clause-number
splice-requires-clause-number g c = λ m is.
    let n = c.at-node.result in
    let free : 2 ≤ weight n → ⊥ = λ enough. both_ways _ c.if-is_needed.false (c.is_needed.ensures.1 enough) in
    ap (λ x. x.number) (same_Some m n (sym is ∙ c.at-node.ensures.node)) ∙ no_number n free

pub returns-clause-tight : goal.returns-clause-tight
returns-clause-tight g c = loosened_if (get c.splice.new.self) c.only-only.result c.is_none.result c.args.spot.0 c.is_none.ensures c.splice.ensures.tight

pub returns-clause-left : goal.returns-clause-left
returns-clause-left g c = λ _ n is root. c.splice.ensures.left n root is

pub returns-clause-stays : goal.returns-clause-stays
returns-clause-stays g c = λ m is some.
    let n = c.at-node.result in
    let free : 2 ≤ weight n → ⊥ = λ enough. both_ways _ c.if-is_needed.false (c.is_needed.ensures.1 enough) in
    let some' = subst (λ x. 1 ≤ weight x) (same_Some m n (sym is ∙ c.at-node.ensures.node)) some in
    alone_stays n c.only-only.result c.is_none.result c.only-only.ensures.key c.is_none.ensures (no_number n free) some'
