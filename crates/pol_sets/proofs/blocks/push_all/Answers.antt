use Rattle.std.proofs.Common.{◌+◌, ◌≤◌, ◌++◌, drop, length, sym, ap, ◌∙◌, arith}
use Rattle.std.proofs.lemmas.List.{append-nil, append_assoc}
use Rattle.pol_sets.specs.Blocks.{numbers_in}
use Rattle.pol_sets.proofs.Parted.{left_is, none_left}
use Rattle.pol_sets.proofs.blocks.push_all.Goals as goal

pub loop-block-preserved : goal.loop-block-preserved
loop-block-preserved c =
    let i = c.loop-block.block-index in
    let left = numbers_in (drop (i + 1) c.args.blocks.now) in
    ap (λ xs. xs ++ left) (c.in_ok-extend_from_slice.ensures.items ∙ ap (λ xs. c.loop-block.numbers.items ++ xs) c.as_slice.ensures.numbers)
    ∙ append_assoc c.loop-block.numbers.items c.block-item.result left
    ∙ ap (λ xs. c.loop-block.numbers.items ++ xs) (sym (left_is c.args.blocks.now i c.block-item.result c.loop-block-test.true c.block-item.is))
    ∙ c.loop-block.invariant

pub returns : goal.returns
returns c =
    let ended : length c.args.blocks.now ≤ c.loop-block.block-index = omega arith in
    record {
      pushed = sym (append-nil c.loop-block.numbers.items)
          ∙ ap (λ xs. c.loop-block.numbers.items ++ xs) (sym (none_left c.args.blocks.now c.loop-block.block-index ended))
          ∙ c.loop-block.invariant;
    }
