use Rattle.std.proofs.Common.{◌<◌, ◌≤◌, length}
use Rattle.pol_kept.specs.Keeps.{requests_in}
use Rattle.pol_machine.specs.Stands.{options_in}
use Rattle.policyd_kept.specs.Serving.{IsReady}
use Rattle.policyd_kept.proofs.Reading.{IsReading}
use Rattle.policyd_kept.proofs.serve.serve_lines.Given as goal

-- the lines that ended so far were answered, and what has come of the next is kept
abbrev pub invariant-loop-count : goal.invariant-loop-count
invariant-loop-count g l =
    let d = g.D.Disk in
    let s = g.S.Source in
    let k = g.K.Sink in
    record {
      reading : IsReading d.moment d.left_since d.seen d.may_leave (options_in l.fn.machine) (requests_in l.fn.machine) l.fn.disk (k.written l.fn.sink)
          (s.left l.fn.source) (s.left l.source) l.room l.course (k.written l.sink) l.disk l.machine;
      ready : IsReady d.seen d.may_leave l.course l.disk l.machine;
      some : 0 < length l.piece;
      source_faults : s.faults l.fn.source ≤ s.faults l.source;
      disk_faults : d.faults l.fn.disk ≤ d.faults l.disk;
      sink_faults : k.faults l.fn.sink ≤ k.faults l.sink;
    }

abbrev pub decreases-loop-count : goal.decreases-loop-count
decreases-loop-count g l = l.room
