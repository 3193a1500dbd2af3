use Rattle.std.proofs.Common.{◌<◌, ◌≤◌, length, arith}
use Rattle.pol_sets.proofs.Between.{above_ascend, without_ended, without_more}
use Rattle.pol_sets.proofs.stretches.without_all.Goals as goal

pub loop-number-preserved : goal.loop-number-preserved
loop-number-preserved c =
    let ns = c.args.lost.now in
    let i = c.loop-number.number-index in
    let within : i < length ns = omega arith in
    let rest = c.loop-number.rest.now in (
      above_ascend ns i within c.requires.lost_ascend rest c.loop-number.invariant.0 _ c.in_ok-rest.ensures.above,
      without_more ns i within c.requires.lost_ascend rest c.loop-number.invariant.0 _ _ _ _ c.in_ok-rest.ensures.below c.in_ok-rest.ensures.above c.loop-number.invariant.1,
    )

pub returns : goal.returns
returns c =
    let ended : length c.args.lost.now ≤ c.loop-number.number-index = omega arith in
    without_ended c.args.lost.now c.loop-number.number-index _ _ _ _ ended c.in_ok-extend_from_slice.ensures.items c.loop-number.invariant.1
