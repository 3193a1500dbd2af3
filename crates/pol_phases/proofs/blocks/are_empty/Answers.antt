use Rattle.std.proofs.Common.{IsTrue, false, ◌<◌, length, ◌∙◌, arith}
use Rattle.pol_phases.proofs.InBlocks.{block_in}
use Rattle.pol_phases.proofs.blocks.are_empty.Goals as goal

pub returns-then-not-is_empty : goal.returns-then-not-is_empty
returns-then-not-is_empty g c =
    let blocks = c.args.blocks.now in
    let place = c.loop-place.place in
    let within : place < length blocks.items = omega (arith, c.loop-place-test.true, c.len-place-end.ensures, blocks.ok.0) in (
      λ t. cc,
      λ none. block_in (IsTrue false) place blocks.items c.index.result.now within c.index.ensures c.if-not-is_empty.ensures.1 (c.loop-place.invariant ∙ none),
    )
