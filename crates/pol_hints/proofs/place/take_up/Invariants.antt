use Rattle.std.specs.Prelude.{◌≡◌}
use Rattle.crossbeam_queue.specs.Passes.{IsSamePass, view}
use Rattle.pol_hints.proofs.place.take_up.Given as goal

-- the pass is as it was
abbrev pub invariant-loop : goal.invariant-loop
invariant-loop g l = record {
  same : IsSamePass l.fn.seat l.seat;
  known : view l.seat ≡ view l.fn.seat;
}
