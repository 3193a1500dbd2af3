use Rattle.std.proofs.Common.{◌+◌, ◌≤◌, drop, length, sym, subst, arith}
use Rattle.std.proofs.lemmas.List.Kept.{IsStrictlySortedBy-filter}
use Rattle.std.specs.Ordering.{nat_cmp}
use Rattle.pol_sets.specs.Blocks.{numbers_in}
use Rattle.pol_sets.specs.Ids.{union, without}
use Rattle.pol_sets.proofs.IdLemmas.{Ascends}
use Rattle.pol_sets.proofs.Parted.{IsParted, front_ascends, left_is, none_left, parted_ended, parted_more}
use Rattle.pol_sets.proofs.blocks.moved_blocks.Goals as goal

pub push_moved-requires-clause-block_ascends : goal.push_moved-requires-clause-block_ascends
push_moved-requires-clause-block_ascends c =
    let i = c.loop-block.block-index in
    let left = numbers_in (drop (i + 1) c.args.blocks.now) in
    front_ascends c.block-item.result left (subst Ascends (left_is c.args.blocks.now i c.block-item.result c.loop-block-test.true c.block-item.is) c.loop-block.invariant.left_ascend)

pub push_moved-requires-clause-gained_ascend : goal.push_moved-requires-clause-gained_ascend
push_moved-requires-clause-gained_ascend c =
    subst Ascends (sym c.split_below.ensures.below) (IsStrictlySortedBy-filter nat_cmp _ c.loop-block.left_gained.now c.loop-block.invariant.gained_ascend)

pub push_moved-requires-clause-lost_ascend : goal.push_moved-requires-clause-lost_ascend
push_moved-requires-clause-lost_ascend c =
    subst Ascends (sym c.split_below-in-loop-block.ensures.below) (IsStrictlySortedBy-filter nat_cmp _ c.loop-block.left_lost.now c.loop-block.invariant.lost_ascend)

pub loop-block-preserved : goal.loop-block-preserved
loop-block-preserved c =
    let i = c.loop-block.block-index in
    let block = c.block-item.result in
    let left = numbers_in (drop (i + 1) c.args.blocks.now) in
    let all = union (without (numbers_in c.args.blocks.now) c.args.lost.now) c.args.gained.now in
    let so_far = subst (λ xs. IsParted xs c.loop-block.left_gained.now c.loop-block.left_lost.now (numbers_in c.loop-block.moved.items) all)
    (left_is c.args.blocks.now i block c.loop-block-test.true c.block-item.is) c.loop-block.invariant in
    parted_more block left c.loop-block.left_gained.now c.loop-block.left_lost.now _ _ _ _ _ _ all c.bound_of-bound.result c.bound_of-bound.ensures
    c.split_below.ensures.below c.split_below.ensures.others c.split_below-in-loop-block.ensures.below c.split_below-in-loop-block.ensures.others
    c.in_ok-push_moved.ensures.pushed so_far

pub returns : goal.returns
returns c =
    let ended : length c.args.blocks.now ≤ c.loop-block.block-index = omega arith in
    let all = union (without (numbers_in c.args.blocks.now) c.args.lost.now) c.args.gained.now in
    let so_far = subst (λ xs. IsParted xs c.loop-block.left_gained.now c.loop-block.left_lost.now (numbers_in c.loop-block.moved.items) all)
    (none_left c.args.blocks.now c.loop-block.block-index ended) c.loop-block.invariant in
    parted_ended c.loop-block.left_gained.now c.loop-block.left_lost.now _ _ all c.in_ok-push_numbers.ensures.pushed so_far
