use Rattle.std.proofs.Common.{◌≡◌}
use Rattle.std.specs.VecDeque.{deque_len}
use Rattle.pol_sessions.proofs.Seats.{ArePlayed}
use Rattle.pol_sessions.proofs.phase.play_phases.Given as goal

abbrev pub invariant-loop-lines : goal.invariant-loop-lines
invariant-loop-lines g l = record {
  played : ArePlayed g.N.NodeName.options g.N.NodeName.passes l.fn.passes.items l.fn.phases.items l.left.items l.told.items l.passes.items;
  hints : l.hint_pass.queue ≡ l.play.hints.now.name;
}

abbrev pub decreases-loop-lines : goal.decreases-loop-lines
decreases-loop-lines g l = deque_len l.left
