use Rattle.std.proofs.Common.{Err, ap, refl}
use Rattle.pol_play_kept.proofs.Opened.{first_so_far, whole}
use Rattle.pol_play_kept.proofs.script.play_opened.Goals as goal

pub play_lines-requires-clause-so_far : goal.play_lines-requires-clause-so_far
play_lines-requires-clause-so_far g c =
    let d = g.D.Disk in
    let first = c.start-progress in
    first_so_far d.seen d.may_leave first.result c.args.disk.now c.args.machine first.ensures.phase first.ensures.text first.ensures.marked c.requires.kept c.requires.opened

pub returns-in-Ok-clause-whole : goal.returns-in-Ok-clause-whole
returns-in-Ok-clause-whole g c is =
    let d = g.D.Disk in
    whole d.seen d.may_leave _ _ _ c.play_lines.new.progress c.play_lines.new.disk c.play_lines.new.machine c.in-Ok.ensures.whole

pub returns-in-Err-Disk-clause-stops : goal.returns-in-Err-Disk-clause-stops
returns-in-Err-Disk-clause-stops g c is = c.in-Err-Disk.ensures.stops (ap Err c.in-Err-Disk.field-0-is)

pub returns-in-Err-Disk-clause-stops_at_call : goal.returns-in-Err-Disk-clause-stops_at_call
returns-in-Err-Disk-clause-stops_at_call g c is = c.in-Err-Disk.ensures.stops_at_call (ap Err c.in-Err-Disk.field-0-is)
