use Rattle.std.proofs.Common.{◌+◌, ◌≤◌, drop, length, ap, ◌∙◌, arith}
use Rattle.std.proofs.lemmas.List.{length-append}
use Rattle.pol_sets.specs.Blocks.{numbers_in}
use Rattle.pol_sets.proofs.Parted.{left_is, none_left}
use Rattle.pol_sets.proofs.blocks.count_in.Goals as goal

pub overflow_add-count : goal.overflow_add-count
overflow_add-count c =
    let i = c.loop-block.block-index in
    let left = numbers_in (drop (i + 1) c.args.blocks.now) in
    let parted = ap length (left_is c.args.blocks.now i c.block-item.result c.loop-block-test.true c.block-item.is) ∙ length-append c.block-item.result left in
    let own = ap length c.as_slice.ensures.numbers in
    let fits = c.requires.fits in
    omega (arith, parted, own, fits, c.loop-block.invariant)

pub loop-block-preserved : goal.loop-block-preserved
loop-block-preserved c =
    let i = c.loop-block.block-index in
    let left = numbers_in (drop (i + 1) c.args.blocks.now) in
    let parted = ap length (left_is c.args.blocks.now i c.block-item.result c.loop-block-test.true c.block-item.is) ∙ length-append c.block-item.result left in
    let own = ap length c.as_slice.ensures.numbers in
    omega (arith, parted, own, c.loop-block.invariant)

pub returns : goal.returns
returns c =
    let ended : length c.args.blocks.now ≤ c.loop-block.block-index = omega arith in
    let none = ap length (none_left c.args.blocks.now c.loop-block.block-index ended) in
    omega (arith, none, c.loop-block.invariant)
