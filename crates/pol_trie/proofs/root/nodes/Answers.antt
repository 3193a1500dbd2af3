use Rattle.std.proofs.Common.{◌≡◌, suc, ◌+◌, ◌-◌, drop, sym, ap, ◌∙◌, arith}
use Rattle.pol_trie.specs.KeySet.{key_count}
use Rattle.pol_trie.specs.Roots.{row_keys}
use Rattle.pol_trie.proofs.Counting.{row_keys-at, row_keys-drop}
use Rattle.pol_trie.proofs.root.nodes.Goals as goal

pub overflow_add-nodes : goal.overflow_add-nodes
overflow_add-nodes c =
    let es = c.args.roots.now.entries in
    let i = c.loop-i.i in
    let last : suc (i - 1) ≡ i = omega (arith, c.loop-i-test.true) in
    let more : row_keys (drop (i - 1) es) ≡ key_count c.in-Some.keys.now + row_keys (drop i es) =
    row_keys-at es (i - 1) _ (sym c.in-Some.ensures.entry) ∙ ap (λ k. key_count c.in-Some.keys.now + row_keys (drop k es)) last in
    omega (arith, more, row_keys-drop es (i - 1), c.requires.few, c.loop-i.invariant.most, c.nodes-nodes.ensures.most)

pub loop-i-preserved-in-Some : goal.loop-i-preserved-in-Some
loop-i-preserved-in-Some c =
    let es = c.args.roots.now.entries in
    let i = c.loop-i.i in
    let last : suc (i - 1) ≡ i = omega (arith, c.loop-i-test.true) in
    let more : row_keys (drop (i - 1) es) ≡ key_count c.in-Some.keys.now + row_keys (drop i es) =
    row_keys-at es (i - 1) _ (sym c.in-Some.ensures.entry) ∙ ap (λ k. key_count c.in-Some.keys.now + row_keys (drop k es)) last in
    record {
      least = omega (arith, more, c.loop-i.invariant.least, c.nodes-nodes.ensures.least);
      most = omega (arith, more, c.loop-i.invariant.most, c.nodes-nodes.ensures.most);
    }
