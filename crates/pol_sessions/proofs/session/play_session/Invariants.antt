use Rattle.std.proofs.Common.{◌≡◌, length}
use Rattle.pol_sessions.proofs.Lines.{IsHalfway}
use Rattle.pol_sessions.proofs.session.play_session.Given as goal

abbrev pub invariant-loop-line : goal.invariant-loop-line
invariant-loop-line g l = record {
  halfway : IsHalfway g.N.NodeName.options l.hints.room l.fn.pass l.fn.lines l.left l.answers l.pass l.fn.hint_pass l.hint_pass;
  hints : l.hint_pass.queue ≡ l.hints.name;
}

abbrev pub decreases-loop-line : goal.decreases-loop-line
decreases-loop-line g l = length l.left

abbrev pub ghosts-play_line : goal.ghosts-play_line
ghosts-play_line g a = record { name = a.blank.name; parts = a.blank.parts }
