use Rattle.std.proofs.Common.{◌≡◌, [], Err, ap, refl, rules, subst, sym, ◌∙◌}
use Rattle.pol_answer.specs.declared.answer.Answer.TheVariants as answer
use Rattle.pol_machine.specs.Stands.{Stands, options_in}
use Rattle.pol_run.specs.Spots.{Reading}
use Rattle.pol_script.specs.Gives.{line_fault_of}
use Rattle.pol_script.specs.Reading.{reading_of}
use Rattle.pol_script.specs.declared.line_fault.LineError.{LineError}
use Rattle.pol_json.specs.Gives.{Fails}
use Rattle.pol_serial_run.specs.Accepted.{accepted_by}
use Rattle.pol_serial_run.specs.SerialRun.{IsLineAnswer, machine_then}
use Rattle.pol_play_kept.proofs.Counted.{keeps_none}
use Rattle.pol_play_kept.proofs.Others.{plays_told}
use Rattle.pol_play_kept.proofs.Kept.{nothing_done}
use Rattle.pol_play_kept.proofs.Committing.{no_disk}
use Rattle.pol_play_kept.proofs.line.answer_line.Goals as goal

pub returns-in-Err-Fault-clause-plays : goal.returns-in-Err-Fault-clause-plays
returns-in-Err-Fault-clause-plays g c m stands =
    let d = g.D.Disk in
    let options = options_in c.args.machine.now in
    let s = c.args.machine.now in
    let read = subst (λ (e : LineError). Fails (line_fault_of e) (reading_of c.args.line.now)) c.in-Err-Fault.field-0-is c.in-Err-Fault.ensures.exact in
    let told : c.answer_fault.result ≡ answer.BadLine c.in-Err-Fault.fault = search rules in
    plays_told d.moment d.left_since d.seen d.may_leave c.args.disk.now s s m stands c.requires.kept c.args.phase _
    (ap (accepted_by options m) read) (g.met.D.Disk.only_now c.args.disk.now)
    c.answer_fault.result refl (subst (λ (r : Reading). IsLineAnswer options m c.args.phase r c.answer_fault.result) (sym read) told)
    (subst (λ (r : Reading). Stands s (machine_then options m r)) (sym read) stands)

pub returns-in-Err-Memory-clause-plays : goal.returns-in-Err-Memory-clause-plays
returns-in-Err-Memory-clause-plays g c m stands =
    let d = g.D.Disk in
    record {
      answered = tt;
      accepted = λ is. absurd (no_disk is);
      any_moment = nothing_done d.moment d.left_since d.seen d.may_leave c.args.disk.now c.args.machine.now (g.met.D.Disk.only_now c.args.disk.now) c.requires.kept _;
    }

pub returns-in-Err-Fault-clause-calls : goal.returns-in-Err-Fault-clause-calls
returns-in-Err-Fault-clause-calls g c m stands =
    let d = g.D.Disk in
    let options = options_in c.args.machine.now in
    let read = subst (λ (e : LineError). Fails (line_fault_of e) (reading_of c.args.line.now)) c.in-Err-Fault.field-0-is c.in-Err-Fault.ensures.exact in
    keeps_none d.does d.fails options m (reading_of c.args.line.now) c.args.disk.now c.args.disk.now (ap (accepted_by options m) read) refl
