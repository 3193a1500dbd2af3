use Rattle.std.specs.Arc.{arc_value}
use Rattle.engine_bench.specs.Turns.{IsAt, ten}
use Rattle.engine_bench.proofs.delta.best_of_filter.Given as goal

-- what came has gone
abbrev pub invariant-loop : goal.invariant-loop
invariant-loop g l = IsAt ten (arc_value l.few.filters) l.work
