use Rattle.std.specs.Prelude.{◌≡◌}
use Rattle.library_tests.proofs.bell.put_each.Given as goal

-- the pass stays one of the queue
abbrev pub invariant-loop-slot : goal.invariant-loop-slot
invariant-loop-slot g l = l.pass.queue ≡ l.hints.name
