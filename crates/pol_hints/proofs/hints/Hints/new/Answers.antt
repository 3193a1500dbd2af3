use Rattle.std.proofs.Common.{ap, ℕ}
use Rattle.circular_buffer.specs.Buffer.{Buffer}
use Rattle.pol_hints.proofs.Steps.{opens, starts}
use Rattle.pol_hints.proofs.hints.Hints.new.Goals as goal

pub ruled-requires-clause-rule : goal.ruled-requires-clause-rule
ruled-requires-clause-rule c = starts

pub try_push_as-requires-clause-rule : goal.try_push_as-requires-clause-rule
try_push_as-requires-clause-rule c = opens _ _ _ _ c.in_ok-place.ensures.3 (ap (λ (b : Buffer ℕ). b.items) c.in_ok-waiting.ensures)
