use Rattle.std.proofs.Common.{Ok, ap, refl, ◌∙◌, subst, sym}
use Rattle.pol_machine.specs.Stands.{Stands, options_in}
use Rattle.pol_run.specs.Spots.{Reading}
use Rattle.pol_script.specs.Reading.{reading_of}
use Rattle.pol_serial_run.specs.Accepted.{accepted_by}
use Rattle.pol_serial_run.specs.SerialRun.{IsLineAnswer, machine_then}
use Rattle.pol_play_kept.proofs.Counted.{keeps_none}
use Rattle.pol_play_kept.proofs.Others.{none_accepted, other_answered, plays_nothing, plays_told}
use Rattle.pol_play_kept.proofs.line.answer_other.Goals as goal

pub returns-in-Ok-clause-plays : goal.returns-in-Ok-clause-plays
returns-in-Ok-clause-plays g c m stands =
    let d = g.D.Disk in
    let options = options_in c.args.machine.now in
    let read = sym c.requires.read in
    plays_told d.moment d.left_since d.seen d.may_leave c.args._disk.now c.args.machine.now c.answer_command.new.machine m stands c.requires.kept c.args.phase _
    (ap (accepted_by options m) c.requires.read ∙ none_accepted options m c.args.command c.requires.other) (g.met.D.Disk.only_now c.args._disk.now)
    c.in-Ok.told c.answer_command.ensures.options
    (subst (λ (r : Reading). IsLineAnswer options m c.args.phase r c.in-Ok.told) read (c.in-Ok.ensures.told m stands))
    (subst (λ (r : Reading). Stands c.answer_command.new.machine (machine_then options m r)) read (c.in-Ok.ensures.stands m stands))

pub returns-in-Ok-clause-kept : goal.returns-in-Ok-clause-kept
returns-in-Ok-clause-kept g c =
    let d = g.D.Disk in
    let options = options_in c.args.machine.now in
    let read = sym c.requires.read in
    let m = c.requires.kept.stands.machine in
    let stands = c.requires.kept.stands.stands in
    let after = other_answered d.seen d.may_leave c.args._disk.now c.args.machine.now m stands c.requires.kept c.args.phase _
    (ap (accepted_by options m) c.requires.read ∙ none_accepted options m c.args.command c.requires.other)
    c.answer_command.new.machine c.in-Ok.told c.answer_command.ensures.options
    (subst (λ (r : Reading). IsLineAnswer options m c.args.phase r c.in-Ok.told) read (c.in-Ok.ensures.told m stands))
    (subst (λ (r : Reading). Stands c.answer_command.new.machine (machine_then options m r)) read (c.in-Ok.ensures.stands m stands)) in
    after.kept

pub returns-in-Err-clause-plays : goal.returns-in-Err-clause-plays
returns-in-Err-clause-plays g c m stands =
    let d = g.D.Disk in
    let options = options_in c.args.machine.now in
    plays_nothing d.moment d.left_since d.seen d.may_leave c.args._disk.now c.args.machine.now c.answer_command.new.machine m stands c.requires.kept c.args.phase _
    (ap (accepted_by options m) c.requires.read ∙ none_accepted options m c.args.command c.requires.other) (g.met.D.Disk.only_now c.args._disk.now)

pub returns-in-Ok-clause-calls : goal.returns-in-Ok-clause-calls
returns-in-Ok-clause-calls g c m stands =
    let d = g.D.Disk in
    let options = options_in c.args.machine.now in
    keeps_none d.does d.fails options m (reading_of c.args._line.now) c.args._disk.now c.args._disk.now
    (ap (accepted_by options m) c.requires.read ∙ none_accepted options m c.args.command c.requires.other) refl
