use Rattle.std.proofs.Common.{◌≡◌, ◌<◌, true, is_some, option_map, sym, ap, ◌∙◌, arith}
use Rattle.std.proofs.lemmas.Option.{same_Some}
use Rattle.pol_addr.specs.declared.network.Prefix.{Prefix}
use Rattle.pol_prefix_table.specs.declared.node.PrefixNode.{PrefixNode}
use Rattle.std.proofs.lemmas.Bool.{both_ways}
use Rattle.pol_addr.specs.Prefix.{covers}
use Rattle.pol_prefix_table.proofs.Steps.{child_there, deepest_at_end, deepest_before, none_between, len_at-node, at_node}
use Rattle.pol_prefix_table.proofs.walk.step.Goals as goal
use Rattle.pol_prefix_table.proofs.walk.step.Goals.{else-len-limit-via-then-len-limit+else-covers, else-len-limit-via-else-len-limit}

pub returns-in_err-next-clause-deepest : goal.returns-in_err-next-clause-deepest
returns-in_err-next-clause-deepest g c =
    let h = at_node c.args.trie.now c.args.target.now c.args.limit c.args.at c.at.result c.requires.stands c.at.ensures.node in
    rw c.from_residual.ensures (deepest_at_end c.args.trie.now c.at.ensures.trie.tree c.args.target.now c.toward.ensures.valid c.args.limit c.args.at c.at.result h (sym c.in_err-next.ensures.next))

pub prefix_at-prefix-requires : goal.prefix_at-prefix-requires
prefix_at-prefix-requires g c =
    let (_, is_c, _, _) = child_there c.args.trie.now c.at.ensures.trie.tree c.args.target.now c.toward.ensures.valid c.args.at c.at.result c.in_ok-next.next c.at.ensures.node (sym c.in_ok-next.ensures.next) in
    ap is_some is_c

pub returns-then-covers-clause-deeper : goal.returns-then-covers-clause-deeper
returns-then-covers-clause-deeper g c =
    let (n, is_c, _, longer) = child_there c.args.trie.now c.at.ensures.trie.tree c.args.target.now c.toward.ensures.valid c.args.at c.at.result c.in_ok-next.next c.at.ensures.node (sym c.in_ok-next.ensures.next) in
    omega (arith, longer, len_at-node c.args.trie.now c.args.at c.at.result c.at.ensures.node, len_at-node c.args.trie.now c.in_ok-next.next n is_c)

pub returns-then-covers-clause-between : goal.returns-then-covers-clause-between
returns-then-covers-clause-between g c =
    let h = at_node c.args.trie.now c.args.target.now c.args.limit c.args.at c.at.result c.requires.stands c.at.ensures.node in
    let (n, is_c, _, _) = child_there c.args.trie.now c.at.ensures.trie.tree c.args.target.now c.toward.ensures.valid c.args.at c.at.result c.in_ok-next.next c.at.ensures.node (sym c.in_ok-next.ensures.next) in
    none_between c.args.trie.now c.at.ensures.trie.tree c.args.target.now c.toward.ensures.valid c.args.at c.at.result c.in_ok-next.next n c.at.ensures.node h.over (sym c.in_ok-next.ensures.next) is_c

pub returns-else-len-limit-clause-deepest : goal.returns-else-len-limit-clause-deepest
returns-else-len-limit-clause-deepest g c =
    let h = at_node c.args.trie.now c.args.target.now c.args.limit c.args.at c.at.result c.requires.stands c.at.ensures.node in
    let (n, is_c, _, _) = child_there c.args.trie.now c.at.ensures.trie.tree c.args.target.now c.toward.ensures.valid c.args.at c.at.result c.in_ok-next.next c.at.ensures.node (sym c.in_ok-next.ensures.next) in
    let same : n.prefix ≡ c.prefix_at-prefix.result = same_Some n.prefix c.prefix_at-prefix.result (sym (ap (option_map (λ (m : PrefixNode). m.prefix)) is_c) ∙ c.prefix_at-prefix.ensures) in
    let far : covers n.prefix c.args.target.now ≡ true → n.prefix.len < c.args.limit → ⊥ =
    elim c.else-len-limit.branch [
      | else-len-limit-via-then-len-limit+else-covers w ↦ λ over _. both_ways _ w.if-covers.false (w.covers.ensures.value ∙ ap (λ (p : Prefix). covers p c.args.target.now) (sym same) ∙ over)
      | else-len-limit-via-else-len-limit w ↦ λ _ short. omega (arith, short, c.len.ensures.value, w.if-len-limit.false, ap (λ (p : Prefix). p.len) same)
    ] in
    deepest_before c.args.trie.now c.at.ensures.trie.tree c.args.target.now c.toward.ensures.valid c.args.limit c.args.at c.at.result h c.in_ok-next.next n (sym c.in_ok-next.ensures.next) is_c far

pub returns-then-covers-clause-stands : goal.returns-then-covers-clause-stands
returns-then-covers-clause-stands g c =
    let (n, is_c, _, _) = child_there c.args.trie.now c.at.ensures.trie.tree c.args.target.now c.toward.ensures.valid c.args.at c.at.result c.in_ok-next.next c.at.ensures.node (sym c.in_ok-next.ensures.next) in
    let same : n.prefix ≡ c.prefix_at-prefix.result = same_Some n.prefix c.prefix_at-prefix.result (sym (ap (option_map (λ (m : PrefixNode). m.prefix)) is_c) ∙ c.prefix_at-prefix.ensures) in
    record {
      node = n;
      there = is_c;
      over = ap (λ (p : Prefix). covers p c.args.target.now) same ∙ sym c.covers.ensures.value ∙ c.if-covers.true;
      short = omega (arith, c.len.ensures.value, c.if-len-limit.true, ap (λ (p : Prefix). p.len) same);
    }
