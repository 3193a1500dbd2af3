use Rattle.std.proofs.Common.{◌≤◌, ◌⊎◌, inl, inr, length, arith}
use Rattle.pol_map_changes.proofs.Merging.{finish}
use Rattle.pol_map_changes.proofs.list.merged.Goals.{then-loop-i-test+else-j-later, else-loop-i-test}
use Rattle.pol_map_changes.proofs.list.merged.Goals as goal

pub returns : goal.returns
returns c =
    let ends : (length c.args.earlier.now ≤ c.loop-i.i) ⊎ (length c.args.later.now ≤ c.loop-i.j) =
    elim c.loop-i-test.branch [
      | then-loop-i-test+else-j-later w ↦ inr (omega arith)
      | else-loop-i-test w ↦ inl (omega arith)
    ] in
    finish c.args.earlier.now c.args.later.now c.loop-i.i c.loop-i.j _ _ _ _ _ ends c.in_ok-extend_from_slice.ensures.items c.in_ok-extend_from_slice-2.ensures.items
    c.split_at.ensures.back c.split_at-2.ensures.back c.loop-i.invariant.2
