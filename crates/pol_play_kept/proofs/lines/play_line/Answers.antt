use Rattle.std.proofs.Common.{Ok, Err, refl, subst}
use Rattle.pol_machine.specs.Serial.{machine_of}
use Rattle.pol_model.specs.declared.options.Options.{Options}
use Rattle.pol_script.specs.Reading.{reading_of}
use Rattle.pol_serial_run.specs.Accepted.{accepted_by}
use Rattle.pol_serial_run.specs.SerialRun.{machine_after_lines}
use Rattle.pol_play_kept.specs.Calls.{RunsFor, calls_to_keep}
use Rattle.pol_play_kept.specs.declared.line.Stopped.TheVariants.{Disk as DiskFailed}
use Rattle.pol_play_kept.proofs.Committing.{same_error}
use Rattle.pol_play_kept.proofs.Going.{line_moments, one_more, stops_here}
use Rattle.pol_play_kept.proofs.lines.play_line.Goals as goal

pub returns-in-Ok-push-clause-goes_on : goal.returns-in-Ok-push-clause-goes_on
returns-in-Ok-push-clause-goes_on g c options start readings so_far =
    let d = g.D.Disk in
    one_more d.seen d.may_leave options start readings c.args.progress.now c.args.disk.now c.args.machine.now so_far _ c.in-Ok.told c.push.new.self
    c.answer_line.new.disk c.answer_line.new.machine (c.in-Ok.ensures.plays _ so_far.stands).answered c.answer_line.ensures.options
    c.in-Ok-push.ensures.text c.in-Ok-push.ensures.marked c.in-Ok-push.ensures.phase

pub returns-in-Ok-push-clause-any_moment : goal.returns-in-Ok-push-clause-any_moment
returns-in-Ok-push-clause-any_moment g c options start readings so_far =
    let d = g.D.Disk in
    line_moments d.seen d.may_leave options start readings c.args.progress.now c.args.disk.now c.args.machine.now so_far d.moment d.left_since c.args.progress.now.phase _
    c.answer_line.new.disk c.answer_line.new.machine _ (c.answer_line.ensures.plays _ so_far.stands)

pub returns-in-Err-push-clause-any_moment : goal.returns-in-Err-push-clause-any_moment
returns-in-Err-push-clause-any_moment g c options start readings so_far =
    let d = g.D.Disk in
    line_moments d.seen d.may_leave options start readings c.args.progress.now c.args.disk.now c.args.machine.now so_far d.moment d.left_since c.args.progress.now.phase _
    c.answer_line.new.disk c.answer_line.new.machine _ (c.answer_line.ensures.plays _ so_far.stands)

pub returns-in-Err-clause-stops : goal.returns-in-Err-clause-stops
returns-in-Err-clause-stops g c options start readings so_far is =
    let d = g.D.Disk in
    stops_here d.seen d.may_leave options start readings c.args.progress.now c.args.disk.now c.args.machine.now so_far d.moment d.left_since g.met.D.Disk.counts_now
    c.args.progress.now.phase _ c.answer_line.new.disk c.answer_line.new.machine _ (c.in-Err.ensures.plays _ so_far.stands) (same_error c.in-Err.stopped DiskFailed is)

pub returns-in-Err-clause-any_moment : goal.returns-in-Err-clause-any_moment
returns-in-Err-clause-any_moment g c options start readings so_far =
    let d = g.D.Disk in
    line_moments d.seen d.may_leave options start readings c.args.progress.now c.args.disk.now c.args.machine.now so_far d.moment d.left_since c.args.progress.now.phase _
    c.answer_line.new.disk c.answer_line.new.machine _ (c.answer_line.ensures.plays _ so_far.stands)

pub returns-in-Ok-push-clause-calls : goal.returns-in-Ok-push-clause-calls
returns-in-Ok-push-clause-calls g c options start readings so_far =
    let d = g.D.Disk in
    subst (λ (o : Options). RunsFor d.does d.fails (calls_to_keep (accepted_by o (machine_after_lines options (machine_of options start) readings) (reading_of c.args.line.now)))
    c.args.disk.now c.answer_line.new.disk) so_far.options_are (c.in-Ok.ensures.calls _ so_far.stands)

pub returns-in-Err-clause-stops_keeping : goal.returns-in-Err-clause-stops_keeping
returns-in-Err-clause-stops_keeping g c is = c.in-Err.ensures.stops (same_error c.in-Err.stopped DiskFailed is)
