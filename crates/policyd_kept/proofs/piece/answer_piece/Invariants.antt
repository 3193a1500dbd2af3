use Rattle.std.proofs.Common.{ℕ, List, ◌++◌, ◌≤◌, length}
use Rattle.policyd_kept.specs.Serving.{IsReady, IsServing, Story}
use Rattle.policyd_kept.proofs.piece.answer_piece.Given as goal

-- the lines that ended so far were answered, and the others stand in the rest
abbrev pub invariant-loop-front : goal.invariant-loop-front
invariant-loop-front g l =
    let d = g.D.Disk in
    let k = g.K.Sink in
    record {
      ready : IsReady d.seen d.may_leave l.course l.disk l.machine;
      serving : (story : Story g.row.D.Denot) (more : List ℕ)
          → IsServing d.moment d.left_since d.seen d.may_leave story (l.fn.course.begun.items ++ l.piece ++ more) l.fn.course (k.written l.fn.sink) l.fn.disk l.fn.machine
          → IsServing d.moment d.left_since d.seen d.may_leave story (l.course.begun.items ++ l.rest ++ more) l.course (k.written l.sink) l.disk l.machine;
      disk_faults : d.faults l.fn.disk ≤ d.faults l.disk;
      sink_faults : k.faults l.fn.sink ≤ k.faults l.sink;
    }

abbrev pub decreases-loop-front : goal.decreases-loop-front
decreases-loop-front g l = length l.rest
