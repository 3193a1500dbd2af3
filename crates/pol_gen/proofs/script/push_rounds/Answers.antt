use Rattle.std.proofs.Common.{refl}
use Rattle.pol_gen.specs.Generated.{round_lines}
use Rattle.pol_gen.proofs.Rounds.{one_more_part}
use Rattle.pol_gen.proofs.script.push_rounds.Goals as goal

pub loop-round-preserved : goal.loop-round-preserved
loop-round-preserved c = record {
  draws = c.in_ok-push_round.ensures.draws;
  lines = one_more_part (round_lines c.args.n) c.loop-round.round _ _ _ _ c.loop-round.invariant.lines c.in_ok-push_round.ensures.lines refl;
}
