use Rattle.std.specs.Prelude.{◌≡◌}
use Rattle.library_tests.proofs.hints.Yard.put_half.Given as goal

-- the pass stays one of the queue
abbrev pub invariant-loop : goal.invariant-loop
invariant-loop g l = l.pass.queue ≡ l.self.hints.name
