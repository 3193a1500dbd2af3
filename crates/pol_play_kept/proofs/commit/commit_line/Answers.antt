use Rattle.std.proofs.Common.{Err, ap, refl, subst}
use Rattle.pol_kept.specs.Errors.{is_disk}
use Rattle.pol_kept.specs.Keeps.{Commits}
use Rattle.pol_kept.specs.declared.error.KeptError.{KeptError}
use Rattle.pol_machine.specs.Stands.{options_in}
use Rattle.pol_play_kept.proofs.Committing.{plays_disk, plays_done, plays_memory, plays_refused}
use Rattle.pol_play_kept.proofs.Counted.{keeps_one, keeps_refused, short_line}
use Rattle.pol_play_kept.proofs.commit.commit_line.Goals as goal

pub returns-in-Ok-clause-plays : goal.returns-in-Ok-clause-plays
returns-in-Ok-clause-plays g c m session phase stands reads =
    let d = g.D.Disk in
    plays_done d.moment d.left_since d.seen d.may_leave c.args.disk.now c.commit_over.new.disk c.args.machine.now c.commit_over.new.machine m c.args.request session phase _ reads
    (g.met.D.Disk.only_now c.args.disk.now) c.requires.kept c.in-Ok.done (c.in-Ok.ensures.machine m stands) (c.in-Ok.ensures.kept refl) c.commit_over.ensures.any_moment

pub returns-in-Err-Refused-clause-plays : goal.returns-in-Err-Refused-clause-plays
returns-in-Err-Refused-clause-plays g c m session phase stands reads =
    let d = g.D.Disk in
    let options = options_in c.args.machine.now in
    let error = c.in-Err-Refused in
    plays_refused d.moment d.left_since d.seen d.may_leave c.args.disk.now c.commit_over.new.disk c.args.machine.now c.commit_over.new.machine m c.args.request session phase _ reads
    (g.met.D.Disk.only_now c.args.disk.now) c.requires.kept error.refused
    (subst (λ (e : KeptError). Commits options m c.args.request c.commit_over.new.machine (Err e)) error.field-0-is (error.ensures.machine m stands))
    (error.ensures.kept (ap is_disk error.field-0-is)) (error.ensures.untouched (ap is_disk error.field-0-is))

pub returns-in-Err-Memory-clause-plays : goal.returns-in-Err-Memory-clause-plays
returns-in-Err-Memory-clause-plays g c m session phase stands reads =
    let d = g.D.Disk in
    let error = c.in-Err-Memory in
    plays_memory d.moment d.left_since d.seen d.may_leave c.args.disk.now c.commit_over.new.disk c.args.machine.now c.commit_over.new.machine m c.args.request session phase _ reads
    (g.met.D.Disk.only_now c.args.disk.now) c.requires.kept (error.ensures.untouched (ap is_disk error.field-0-is))

pub returns-in-Err-Disk-clause-plays : goal.returns-in-Err-Disk-clause-plays
returns-in-Err-Disk-clause-plays g c m session phase stands reads =
    let d = g.D.Disk in
    let options = options_in c.args.machine.now in
    let error = c.in-Err-Disk in
    let done = subst (λ (e : KeptError). Commits options m c.args.request c.commit_over.new.machine (Err e)) error.field-0-is (error.ensures.machine m stands) in
    plays_disk d.moment d.left_since d.seen d.may_leave c.args.disk.now c.commit_over.new.disk c.args.machine.now c.commit_over.new.machine m c.args.request session phase _ reads
    (g.met.D.Disk.only_now c.args.disk.now) c.requires.kept done.0 done.1 c.commit_over.ensures.any_moment

pub returns-in-Ok-clause-calls : goal.returns-in-Ok-clause-calls
returns-in-Ok-clause-calls g c m session stands reads =
    let d = g.D.Disk in
    keeps_one d.does d.fails d.seen (options_in c.args.machine.now) m c.args.request session c.args.line.now _ reads c.args.disk.now c.commit_over.new.disk c.commit_over.new.machine
    c.in-Ok.done (c.in-Ok.ensures.machine m stands) c.in-Ok.ensures.calls

pub returns-in-Err-Refused-clause-calls : goal.returns-in-Err-Refused-clause-calls
returns-in-Err-Refused-clause-calls g c m session stands reads =
    let d = g.D.Disk in
    let options = options_in c.args.machine.now in
    let error = c.in-Err-Refused in
    keeps_refused d.does d.fails d.seen options m c.args.request session c.args.line.now _ reads c.args.disk.now c.commit_over.new.disk c.commit_over.new.machine
    error.refused (subst (λ (e : KeptError). Commits options m c.args.request c.commit_over.new.machine (Err e)) error.field-0-is (error.ensures.machine m stands))
    (error.ensures.untouched (ap is_disk error.field-0-is))

pub returns-in-Err-Disk-clause-stops : goal.returns-in-Err-Disk-clause-stops
returns-in-Err-Disk-clause-stops g c is =
    let error = c.in-Err-Disk in
    record { short = short_line c.args.line.now _ _ error.field-0-is refl error.ensures.too_long; stops = error.ensures.stops (ap Err error.field-0-is) }
