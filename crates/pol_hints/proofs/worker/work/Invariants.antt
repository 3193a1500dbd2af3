use Rattle.std.specs.Prelude.{◌≡◌}
use Rattle.pol_hints.specs.Serving.{Serves}
use Rattle.pol_hints.proofs.worker.work.Given as goal

-- the pass stays one of the queue, and what was taken was worked on
abbrev pub invariant-loop : goal.invariant-loop
invariant-loop g l = record {
  queue : l.pass.queue ≡ l.hints.name;
  serves : Serves (g.J.Job.has_run l.job) l.fn.pass l.pass;
}
