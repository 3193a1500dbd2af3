use Rattle.std.proofs.Common.{ℕ, List, refl, subst}
use Rattle.pol_kept.specs.Keeps.{requests_in}
use Rattle.pol_machine.specs.Stands.{options_in}
use Rattle.pol_play_kept.specs.Images.{OfScript}
use Rattle.pol_status.specs.declared.status.Status.{Status}
use Rattle.pol_status.specs.declared.status.Status.TheVariants.{Usage, Read, Write, Disk, Damaged}
use Rattle.policyd_kept.specs.Served.{Serves}
use Rattle.policyd_kept.proofs.Opening.{answered_is, not_answered, not_damaged, not_usage, only_answered}
use Rattle.policyd_kept.proofs.Serving.{ready_first}
use Rattle.policyd_kept.proofs.serve.serve_opened.Goals as goal

pub serve_lines-requires-clause-ready : goal.serve_lines-requires-clause-ready
serve_lines-requires-clause-ready g c =
    let d = g.D.Disk in
    let first = c.start-course.ensures in
    ready_first d.seen d.may_leave c.start-course.result c.args.disk.now c.args.machine c.requires.kept (record { phase = first.phase; marked = first.marked; lines = first.lines; begun = first.begun })

pub serve_lines-requires-clause-first : goal.serve_lines-requires-clause-first
serve_lines-requires-clause-first g c =
    let first = c.start-course.ensures in
    record { phase = first.phase; marked = first.marked; lines = first.lines; begun = first.begun }

pub returns-in-Ok-clause-serves : goal.returns-in-Ok-clause-serves
returns-in-Ok-clause-serves g c =
    let d = g.D.Disk in
    let k = g.K.Sink in
    let machine = c.args.machine in
    subst (λ (status : Status). OfScript (g.S.Source.left c.args.source.now) (λ (script : List ℕ).
    Serves d.moment d.left_since d.may_leave (options_in machine) (requests_in machine) script c.args.disk.now c.serve_lines.new.disk (k.written c.args.sink.now) (k.written c.serve_lines.new.sink) status))
    (answered_is c.answered.result c.serve_lines.new.course.marked c.answered.ensures.answered c.answered.ensures.status) c.in-Ok.ensures.serves

pub serve_lines-requires-clause-opened : goal.serve_lines-requires-clause-opened
serve_lines-requires-clause-opened g c = c.requires.opened

pub returns-in-Ok-clause-no_usage : goal.returns-in-Ok-clause-no_usage
returns-in-Ok-clause-no_usage g c is = only_answered c.answered.result Usage c.answered.ensures.answered refl is

pub returns-in-Ok-clause-no_damage : goal.returns-in-Ok-clause-no_damage
returns-in-Ok-clause-no_damage g c is = only_answered c.answered.result Damaged c.answered.ensures.answered refl is

pub returns-in-Ok-clause-read : goal.returns-in-Ok-clause-read
returns-in-Ok-clause-read g c is = absurd (only_answered c.answered.result Read c.answered.ensures.answered refl is)

pub returns-in-Ok-clause-write : goal.returns-in-Ok-clause-write
returns-in-Ok-clause-write g c is = absurd (only_answered c.answered.result Write c.answered.ensures.answered refl is)

pub returns-in-Ok-clause-failed : goal.returns-in-Ok-clause-failed
returns-in-Ok-clause-failed g c is = absurd (only_answered c.answered.result Disk c.answered.ensures.answered refl is)

pub returns-in-Ok-clause-within : goal.returns-in-Ok-clause-within
returns-in-Ok-clause-within g c answered = c.in-Ok.ensures.within

pub returns-in-Ok-clause-at_end : goal.returns-in-Ok-clause-at_end
returns-in-Ok-clause-at_end g c answered = c.in-Ok.ensures.at_end

pub returns-clause-no_usage : goal.returns-clause-no_usage
returns-clause-no_usage g c is = not_usage c.in-Err.status c.in-Err.ensures.causes is

pub returns-clause-no_damage : goal.returns-clause-no_damage
returns-clause-no_damage g c is = not_damaged c.in-Err.status c.in-Err.ensures.causes is

pub returns-clause-within : goal.returns-clause-within
returns-clause-within g c answered = absurd (not_answered c.in-Err.status c.in-Err.ensures.causes answered)

pub returns-clause-at_end : goal.returns-clause-at_end
returns-clause-at_end g c answered = absurd (not_answered c.in-Err.status c.in-Err.ensures.causes answered)
