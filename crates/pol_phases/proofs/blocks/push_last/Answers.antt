use Rattle.std.proofs.Common.{◌-◌, arith}
use Rattle.pol_phases.proofs.CutLines.{on_ok}
use Rattle.pol_phases.proofs.InBlocks.{pushed_last}
use Rattle.pol_phases.proofs.blocks.push_last.Goals as goal

pub returns-clause-pushed : goal.returns-clause-pushed
returns-clause-pushed g c =
    let blocks = c.args.blocks.now in
    on_ok _ _ c.push.result
    (λ pushed. pushed_last (c.len-last.result - 1) blocks.items c.index_mut.result.now c.push.new.self c.args.entry (omega (arith, c.requires.some, blocks.ok.0))
    (omega (arith, c.len-last.ensures, blocks.ok.0)) c.index_mut.ensures.value pushed)
    c.push.ensures.pushed
