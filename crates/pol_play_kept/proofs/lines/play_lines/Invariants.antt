use Rattle.std.proofs.Common.{length}
use Rattle.pol_kept.specs.Keeps.{requests_in}
use Rattle.pol_machine.specs.Stands.{options_in}
use Rattle.pol_play_kept.proofs.Walking.{IsWalked}
use Rattle.pol_play_kept.proofs.lines.play_lines.Given as goal

-- the lines so far were answered, and the others stand in the rest
abbrev pub invariant-loop-line : goal.invariant-loop-line
invariant-loop-line g l =
    let d = g.D.Disk in
    IsWalked d.moment d.left_since d.seen d.may_leave d.faults d.does d.fails (options_in l.fn.machine) (requests_in l.fn.machine) l.script l.fn.disk l.rest l.progress l.disk l.machine

abbrev pub decreases-loop-line : goal.decreases-loop-line
decreases-loop-line g l = length l.rest
