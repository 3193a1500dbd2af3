use Rattle.std.proofs.Common.{◌+◌, ◌<◌, ◌≤◌, drop, length, sym, subst, ap, ◌∙◌, arith}
use Rattle.pol_sets.specs.Blocks.{bound_of, numbers_in}
use Rattle.pol_sets.specs.Ids.{has}
use Rattle.pol_sets.proofs.IdLemmas.{Ascends}
use Rattle.pol_sets.proofs.Parted.{back_ascends, front_ascends, has_before, has_behind, left_is, none_left}
use Rattle.pol_sets.proofs.blocks.has_in.Goals as goal

pub has-requires : goal.has-requires
has-requires c =
    let i = c.loop-block.block-index in
    let left = numbers_in (drop (i + 1) c.args.blocks.now) in
    record { ascends = front_ascends c.block-item.result left (subst Ascends (left_is c.args.blocks.now i c.block-item.result c.loop-block-test.true c.block-item.is) c.loop-block.invariant.0) }

pub returns-then-from-bound_of : goal.returns-then-from-bound_of
returns-then-from-bound_of c =
    let i = c.loop-block.block-index in
    let block = c.block-item.result in
    let left = numbers_in (drop (i + 1) c.args.blocks.now) in
    let parted = left_is c.args.blocks.now i block c.loop-block-test.true c.block-item.is in
    let bound = c.bound_of.ensures in
    let own = c.from.ensures in
    let before : c.args.id < bound_of block = omega (arith, bound, own, c.if-from-bound_of.true) in
    c.has.ensures
    ∙ sym (has_before block left c.args.id (subst Ascends parted c.loop-block.invariant.0) before)
    ∙ ap (has c.args.id) (sym parted)
    ∙ c.loop-block.invariant.1

pub loop-block-preserved : goal.loop-block-preserved
loop-block-preserved c =
    let i = c.loop-block.block-index in
    let block = c.block-item.result in
    let left = numbers_in (drop (i + 1) c.args.blocks.now) in
    let parted = left_is c.args.blocks.now i block c.loop-block-test.true c.block-item.is in
    let bound = c.bound_of.ensures in
    let own = c.from.ensures in
    let behind : bound_of block ≤ c.args.id = omega (arith, bound, own, c.if-from-bound_of.false) in
    let ascend = subst Ascends parted c.loop-block.invariant.0 in (
      back_ascends block left ascend,
      sym (has_behind block left c.args.id ascend behind) ∙ ap (has c.args.id) (sym parted) ∙ c.loop-block.invariant.1,
    )

pub returns : goal.returns
returns c =
    let ended : length c.args.blocks.now ≤ c.loop-block.block-index = omega arith in
    sym (ap (has c.args.id) (none_left c.args.blocks.now c.loop-block.block-index ended)) ∙ c.loop-block.invariant.1
