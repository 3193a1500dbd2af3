use Rattle.std.specs.Arc.{arc_value}
use Rattle.engine_bench.specs.Turns.{IsAt, ten}
use Rattle.engine_bench.proofs.delta.turns.turns.Given as goal

-- the identity is gone
abbrev pub invariant-loop : goal.invariant-loop
invariant-loop l = IsAt ten (arc_value l.there.filters) l.work
