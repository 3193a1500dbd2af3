use Rattle.std.specs.Arc.{arc_value}
use Rattle.engine_bench.specs.Turns.{IsAt, ten}
use Rattle.engine_bench.proofs.delta.best_of.Given as goal

-- what came has gone
abbrev pub invariant-loop : goal.invariant-loop
invariant-loop g l = IsAt ten (arc_value l.there.filters) l.work
