use Rattle.std.proofs.Common.{◌<◌, length, arith}
use Rattle.pol_sets.proofs.Between.{above_ascend, union_more}
use Rattle.pol_sets.proofs.stretches.with_all.Goals as goal

pub loop-number-preserved : goal.loop-number-preserved
loop-number-preserved c =
    let ns = c.args.gained.now in
    let i = c.loop-number.number-index in
    let within : i < length ns = omega arith in
    let rest = c.loop-number.rest.now in (
      above_ascend ns i within c.requires.gained_ascend rest c.loop-number.invariant.0 _ c.in_ok-rest.ensures.above,
      union_more ns i within c.requires.gained_ascend rest c.loop-number.invariant.0 _ _ _ _ _ c.in_ok-rest.ensures.below c.in_ok-push.ensures.items c.in_ok-rest.ensures.above c.loop-number.invariant.1,
    )
