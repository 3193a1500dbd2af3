use Rattle.std.proofs.Common.{◌≡◌, ◌++◌, take}
use Rattle.connections.specs.Told.{refusals_text}
use Rattle.connections.proofs.states.with_refusals.Given as goal

-- behind the text stand the lines of the refusals so far
abbrev pub invariant-loop-refusal : goal.invariant-loop-refusal
invariant-loop-refusal l = l.text.items ≡ l.fn.text.items ++ refusals_text l.side (take l.refusal-index l.refusals)
