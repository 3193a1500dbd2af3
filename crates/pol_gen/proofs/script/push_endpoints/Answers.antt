use Rattle.std.proofs.Common.{◌+◌, refl, ap, sym}
use Rattle.pol_gen.specs.Draws.{after}
use Rattle.pol_gen.specs.Generated.{endpoint_line}
use Rattle.pol_gen.proofs.Rounds.{after_both, after-none, no_part, one_more_part}
use Rattle.pol_gen.proofs.script.push_endpoints.Goals as goal

pub loop-i-init : goal.loop-i-init
loop-i-init c = record {
  draws = sym (after-none c.args.draws.now.x);
  lines = no_part (λ i. endpoint_line i (after i c.args.draws.now.x)) _;
}

pub loop-i-preserved : goal.loop-i-preserved
loop-i-preserved c =
    let so_far = c.loop-i.invariant in
    record {
      draws = after_both c.loop-i.i 1 (c.loop-i.i + 1) c.args.draws.now.x c.loop-i.draws.x c.push_endpoint.new.draws.x
          so_far.draws c.in_ok-push_endpoint.ensures.draws refl;
      lines = one_more_part (λ i. endpoint_line i (after i c.args.draws.now.x)) c.loop-i.i _ _ _ _
          so_far.lines c.in_ok-push_endpoint.ensures.line (ap (endpoint_line c.loop-i.i) so_far.draws);
    }
