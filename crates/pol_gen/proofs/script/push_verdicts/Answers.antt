use Rattle.std.proofs.Common.{◌+◌, ◌*◌, arith, ap, sym}
use Rattle.pol_gen.specs.Draws.{after}
use Rattle.pol_gen.specs.Generated.{verdict_line}
use Rattle.pol_gen.proofs.Rounds.{after_both, after-none, no_part, one_more_part}
use Rattle.pol_gen.proofs.script.push_verdicts.Goals as goal

pub loop-i-init : goal.loop-i-init
loop-i-init c = record {
  draws = sym (after-none c.args.draws.now.x);
  lines = no_part (λ i. verdict_line i (after (2 * i) c.args.draws.now.x)) _;
}

pub loop-i-preserved : goal.loop-i-preserved
loop-i-preserved c =
    let so_far = c.loop-i.invariant in
    record {
      draws = after_both (2 * c.loop-i.i) 2 (2 * (c.loop-i.i + 1)) c.args.draws.now.x c.loop-i.draws.x c.push_verdict.new.draws.x
          so_far.draws c.in_ok-push_verdict.ensures.draws (omega arith);
      lines = one_more_part (λ i. verdict_line i (after (2 * i) c.args.draws.now.x)) c.loop-i.i _ _ _ _
          so_far.lines c.in_ok-push_verdict.ensures.line (ap (verdict_line c.loop-i.i) so_far.draws);
    }
