use Rattle.std.proofs.Common.{◌≡◌, length}
use Rattle.engine_bench.specs.Turns.{AllAt, FilterAt}
use Rattle.engine_bench.proofs.delta.inputs.filter_list.Given as goal

abbrev pub invariant-loop-number : goal.invariant-loop-number
invariant-loop-number l = (length l.list.items ≡ l.number) × AllAt FilterAt l.list.items
