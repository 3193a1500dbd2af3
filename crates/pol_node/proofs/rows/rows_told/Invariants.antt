use Rattle.std.proofs.Common.{◌≡◌}
use Rattle.pol_history.specs.SlotTurns.{rows_of}
use Rattle.pol_node.proofs.rows.rows_told.Given as goal

abbrev pub invariant-loop-turn : goal.invariant-loop-turn
invariant-loop-turn l = l.rows.items ≡ rows_of l.yielded
