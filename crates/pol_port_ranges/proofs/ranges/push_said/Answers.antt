use Rattle.std.proofs.Common.{◌-◌, ◌++◌, get_or, ap, sym, ◌∙◌}
use Rattle.pol_port_ranges.specs.Said.{same_said}
use Rattle.pol_port_ranges.specs.Walk.{piece}
use Rattle.pol_port_ranges.proofs.Turns.{on_ok, stays, turns, ends, said_there}
use Rattle.pol_port_ranges.proofs.ranges.push_said.Goals as goal
use Rattle.pol_port_ranges.proofs.ranges.push_said.Goals.{then-not-is_same+in_ok-push_piece, else-not-is_same}

pub loop-i-preserved : goal.loop-i-preserved
loop-i-preserved c = λ f are.
    let inv = c.loop-i.invariant f are in
    let there = said_there f c.args.ports.now c.args.words.now c.loop-i.i _ c.loop-i-test.true are in
    let test = sym (λ i. same_said (inv.0 i) (there i)) ∙ sym c.is_same.ensures in
    elim c.if-not-is_same.branch [
      | then-not-is_same+in_ok-push_piece w ↦ rw (w.out-is, w.first-is, w.said-is) (
        there,
        turns f c.loop-i.out.items _ _ c.loop-i.first c.loop-i.i c.args.ports.now inv.1 c.loop-i-test.true
            (test ∙ w.if-not-is_same.true)
            (w.in_ok-push_piece.ensures ∙ ap (λ k. c.loop-i.out.items ++ piece c.loop-i.first k c.loop-i.said) w.saturating_sub.ensures ∙ ap (λ x. c.loop-i.out.items ++ piece c.loop-i.first (get_or c.args.ports.now c.loop-i.i 0 - 1) x) inv.0),
      )
      | else-not-is_same w ↦ rw (w.out-is, w.first-is, w.said-is) (
        inv.0,
        stays f c.loop-i.out.items _ c.loop-i.first c.loop-i.i c.args.ports.now inv.1 c.loop-i-test.true (test ∙ w.if-not-is_same.false),
      )
    ]

pub returns : goal.returns
returns c =
    on_ok c.push_piece-2.result _ _ c.push_piece-2.ensures (λ made f are.
    let inv = c.loop-i.invariant f are in
    ends f c.loop-i.out.items c.push_piece-2.new.out.items _ c.loop-i.first c.loop-i.i c.args.ports.now inv.1 c.loop-i-test.false
    (made ∙ ap (λ x. c.loop-i.out.items ++ piece c.loop-i.first 65535 x) inv.0))
