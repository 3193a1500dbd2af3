use Rattle.std.proofs.Common.{◌-◌, ◌++◌, get_or, ap, ◌∙◌, refl}
use Rattle.pol_audit.specs.Ranges.{piece}
use Rattle.pol_audit.proofs.Results.{on_ok}
use Rattle.pol_audit.proofs.Walk.{stays, turns, ends, not_same, are_same, both_at}
use Rattle.pol_audit.proofs.ranges.push_said.Goals as goal
use Rattle.pol_audit.proofs.ranges.push_said.Goals.{then-not-same_words+in_ok-push_piece, else-not-same_words}

pub loop-i-preserved : goal.loop-i-preserved
loop-i-preserved c = λ said lefts rights.
    let inv = c.loop-i.invariant said lefts rights in
    elim c.if-not-same_words.branch [
      | then-not-same_words+in_ok-push_piece w ↦ rw (w.out-is, w.first-is, w.said-is) (
        both_at said c.args.ports.now c.args.left.now c.args.right.now c.loop-i.i _ _ c.loop-i-test.true lefts rights,
        turns c.args.group said c.loop-i.out.items _ _ c.loop-i.first _ c.loop-i.i c.args.ports.now inv.1 c.loop-i-test.true refl
            (not_same said c.loop-i.first _ _ _ _ w.if-not-same_words.true c.same_words.ensures inv.0 (both_at said c.args.ports.now c.args.left.now c.args.right.now c.loop-i.i _ _ c.loop-i-test.true lefts rights))
            (w.in_ok-push_piece.ensures ∙ ap (λ k. c.loop-i.out.items ++ piece c.args.group c.loop-i.first k c.loop-i.said) w.saturating_sub.ensures ∙ ap (λ x. c.loop-i.out.items ++ piece c.args.group c.loop-i.first (get_or c.args.ports.now c.loop-i.i 0 - 1) x) inv.0),
      )
      | else-not-same_words w ↦ rw (w.out-is, w.first-is, w.said-is) (
        inv.0,
        stays c.args.group said c.loop-i.out.items _ c.loop-i.first _ c.loop-i.i c.args.ports.now inv.1 c.loop-i-test.true refl
            (are_same said c.loop-i.first _ _ _ _ w.if-not-same_words.false c.same_words.ensures inv.0 (both_at said c.args.ports.now c.args.left.now c.args.right.now c.loop-i.i _ _ c.loop-i-test.true lefts rights)),
      )
    ]

pub returns : goal.returns
returns c =
    on_ok c.push_piece-2.result _ _ c.push_piece-2.ensures (λ made said lefts rights.
    let inv = c.loop-i.invariant said lefts rights in
    ends c.args.group said c.loop-i.out.items c.push_piece-2.new.out.items _ c.loop-i.first c.loop-i.i c.args.ports.now inv.1 c.loop-i-test.false
    (made ∙ ap (λ x. c.loop-i.out.items ++ piece c.args.group c.loop-i.first 65535 x) inv.0))
