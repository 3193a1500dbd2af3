use Rattle.std.proofs.Common.{◌≡◌, length}
use Rattle.std.specs.Arc.{arc_value}
use Rattle.engine_bench.specs.Turns.{AllAt, RowAt}
use Rattle.engine_bench.proofs.delta.inputs.rows.Given as goal

abbrev pub invariant-loop-number : goal.invariant-loop-number
invariant-loop-number l = (length l.rows.items ≡ l.number) × AllAt (RowAt (arc_value l.set)) l.rows.items
