use Rattle.std.proofs.Common.{◌≤◌, ℕ, List, length}
use Rattle.pol_disk.proofs.Moments.{widened}
use Rattle.pol_kept.specs.Keeps.{SameJournal}
use Rattle.pol_kept.proofs.Openings.{fresh_journal, fresh_kept, fresh_opened, short_cut, short_same}
use Rattle.pol_machine.specs.Stands.{options_in}
use Rattle.pol_kept.proofs.opening.open_short.Goals as goal

pub returns-in-Ok-clause-opened : goal.returns-in-Ok-clause-opened
returns-in-Ok-clause-opened g c = fresh_opened c.args.machine.now c.requires.start

pub returns-in-Err-clause-opened : goal.returns-in-Err-clause-opened
returns-in-Err-clause-opened g c = fresh_opened c.args.machine.now c.requires.start

pub returns-in-Ok-clause-journal : goal.returns-in-Ok-clause-journal
returns-in-Ok-clause-journal g c = fresh_journal c.args.machine.now c.requires.start (g.D.Disk.seen c.args.disk.now) c.requires.short

pub returns-in-Err-clause-journal : goal.returns-in-Err-clause-journal
returns-in-Err-clause-journal g c = fresh_journal c.args.machine.now c.requires.start (g.D.Disk.seen c.args.disk.now) c.requires.short

pub returns-in-Ok-clause-cut : goal.returns-in-Ok-clause-cut
returns-in-Ok-clause-cut g c =
    let d = g.D.Disk in
    short_cut (d.seen c.args.disk.now) (d.seen c.start.new.disk) c.requires.short c.in-Ok.ensures.ok.read

pub returns-in-Ok-clause-kept : goal.returns-in-Ok-clause-kept
returns-in-Ok-clause-kept g c =
    let d = g.D.Disk in
    fresh_kept c.args.machine.now c.requires.start d.seen d.may_leave c.start.new.disk c.in-Ok.ensures.ok

pub returns-in-Ok-clause-any_moment : goal.returns-in-Ok-clause-any_moment
returns-in-Ok-clause-any_moment g c =
    let d = g.D.Disk in
    let old = d.seen c.args.disk.now in
    let options = options_in c.args.machine.now in
    widened d.moment d.left_since c.args.disk.now c.start.new.disk (λ (f : List ℕ). length f ≤ 1) (SameJournal options old) c.start.ensures.any_moment
    (λ f short. short_same options old f c.requires.short short)

pub returns-in-Err-clause-any_moment : goal.returns-in-Err-clause-any_moment
returns-in-Err-clause-any_moment g c =
    let d = g.D.Disk in
    let old = d.seen c.args.disk.now in
    let options = options_in c.args.machine.now in
    widened d.moment d.left_since c.args.disk.now c.start.new.disk (λ (f : List ℕ). length f ≤ 1) (SameJournal options old) c.start.ensures.any_moment
    (λ f short. short_same options old f c.requires.short short)
