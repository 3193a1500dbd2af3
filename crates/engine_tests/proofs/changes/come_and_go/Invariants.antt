use Rattle.std.proofs.Common.{◌≤◌}
use Rattle.pol_set_changes.specs.Log.{newest}
use Rattle.engine_tests.proofs.changes.come_and_go.Given as goal

abbrev pub invariant-loop-turn : goal.invariant-loop-turn
invariant-loop-turn l = newest l.log ≤ l.turn
