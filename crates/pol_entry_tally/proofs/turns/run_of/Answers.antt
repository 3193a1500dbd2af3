use Rattle.std.proofs.Common.{refl, subst}
use Rattle.pol_entry_tally.specs.Counts.{Rises}
use Rattle.pol_entry_tally.proofs.InOrder.{rises_back, run_is}
use Rattle.pol_entry_tally.proofs.turns.run_of.Goals as goal

pub below-requires-2 : goal.below-requires-2
below-requires-2 c = rises_back c.below.result.0.now c.below.result.1.now (subst Rises c.below.ensures.parts c.requires.rises)

pub returns : goal.returns
returns c =
    run_is c.args.code c.args.turns.now c.below.result.0.now c.below.result.1.now c.below-2.result.0.now c.below-2.result.1.now _ _ c.requires.rises c.requires.from
    c.below.ensures.parts c.below.ensures.low c.below.ensures.high c.below-2.ensures.parts c.below-2.ensures.low c.below-2.ensures.high refl refl
