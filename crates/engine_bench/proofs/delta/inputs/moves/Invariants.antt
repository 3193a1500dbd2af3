use Rattle.std.proofs.Common.{◌≡◌, length}
use Rattle.engine_bench.specs.Turns.{AllAt, MoveAt}
use Rattle.engine_bench.proofs.delta.inputs.moves.Given as goal

abbrev pub invariant-loop-number : goal.invariant-loop-number
invariant-loop-number l = (length l.moves.items ≡ l.number) × AllAt (MoveAt l.gained l.lost) l.moves.items
