use Rattle.std.proofs.Common.{◌++◌, ◌∷◌, [], ℕ, List, ◌∙◌, subst}
use Rattle.pol_disk.specs.Images.{LeavesOnly}
use Rattle.pol_disk.proofs.Moments.{widened}
use Rattle.pol_journal.specs.Journal.{IsJournalOrOneMore}
use Rattle.pol_kept.specs.Keeps.{requests_in}
use Rattle.pol_kept.proofs.Disks.{kept_more, kept_still, untouched, while_written}
use Rattle.pol_kept.proofs.Machines.{committed}
use Rattle.pol_machine.specs.Stands.{options_in}
use Rattle.pol_record_log.specs.Records.{record_of}
use Rattle.pol_record_log.specs.Steps.{IsAppended, IsOnDisk, before_gate}
use Rattle.pol_kept.proofs.committing.commit_over.Goals as goal

pub returns-in-Ok-append-clause-kept : goal.returns-in-Ok-append-clause-kept
returns-in-Ok-append-clause-kept g c = λ kept.
    let d = g.D.Disk in
    let old = c.args.machine.now in
    let m = c.requires.kept.stands.machine in
    let stands = c.requires.kept.stands.stands in
    let there = subst (λ (b : List ℕ). IsOnDisk d.seen d.may_leave c.append.new.disk (before_gate (d.seen c.args.disk.now) ++ 1 ∷ b)) (c.as_slice.ensures.value ∙ c.in-Ok.ensures.record) c.in-Ok-append.ensures.ok in
    kept_more d.seen d.may_leave c.args.disk.now old c.requires.kept c.args.request c.args.line.now c.in-Ok.ensures.short c.requires.read m stands c.step.new.machine
    c.step.ensures.options c.in-Ok-step.done (c.in-Ok-step.ensures.machine m stands) c.append.new.disk there

pub returns-in-Ok-append-clause-any_moment : goal.returns-in-Ok-append-clause-any_moment
returns-in-Ok-append-clause-any_moment g c =
    let d = g.D.Disk in
    let old = c.args.machine.now in
    let m = c.requires.kept.stands.machine in
    let stands = c.requires.kept.stands.stands in
    let front = before_gate (d.seen c.args.disk.now) in
    let P : List ℕ → Type 0 = IsJournalOrOneMore (options_in old) (requests_in old) c.args.request in
    widened d.moment d.left_since c.args.disk.now c.append.new.disk (IsAppended front (record_of c.args.line.now ++ 0 ∷ [])) P
    (subst (λ (b : List ℕ). LeavesOnly d.moment d.left_since c.args.disk.now c.append.new.disk (IsAppended front b)) (c.as_slice.ensures.value ∙ c.in-Ok.ensures.record) c.append.ensures.any_moment)
    (while_written d.seen d.may_leave c.args.disk.now old c.requires.kept c.args.request c.args.line.now c.in-Ok.ensures.short c.requires.read m stands c.step.new.machine
    c.step.ensures.options c.in-Ok-step.done (c.in-Ok-step.ensures.machine m stands))

pub returns-in-Ok-step-clause-any_moment : goal.returns-in-Ok-step-clause-any_moment
returns-in-Ok-step-clause-any_moment g c =
    let d = g.D.Disk in
    let old = c.args.machine.now in
    let m = c.requires.kept.stands.machine in
    let stands = c.requires.kept.stands.stands in
    let front = before_gate (d.seen c.args.disk.now) in
    let P : List ℕ → Type 0 = IsJournalOrOneMore (options_in old) (requests_in old) c.args.request in
    widened d.moment d.left_since c.args.disk.now c.append.new.disk (IsAppended front (record_of c.args.line.now ++ 0 ∷ [])) P
    (subst (λ (b : List ℕ). LeavesOnly d.moment d.left_since c.args.disk.now c.append.new.disk (IsAppended front b)) (c.as_slice.ensures.value ∙ c.in-Ok.ensures.record) c.append.ensures.any_moment)
    (while_written d.seen d.may_leave c.args.disk.now old c.requires.kept c.args.request c.args.line.now c.in-Ok.ensures.short c.requires.read m stands c.step.new.machine
    c.step.ensures.options c.in-Ok-step.done (c.in-Ok-step.ensures.machine m stands))

pub returns-in-Ok-clause-any_moment : goal.returns-in-Ok-clause-any_moment
returns-in-Ok-clause-any_moment g c =
    let d = g.D.Disk in
    untouched d.seen d.may_leave d.moment d.left_since c.args.disk.now (g.met.D.Disk.only_now c.args.disk.now) c.args.machine.now c.args.request c.requires.kept

pub returns-clause-any_moment : goal.returns-clause-any_moment
returns-clause-any_moment g c =
    let d = g.D.Disk in
    untouched d.seen d.may_leave d.moment d.left_since c.args.disk.now (g.met.D.Disk.only_now c.args.disk.now) c.args.machine.now c.args.request c.requires.kept

pub returns-in-Ok-clause-kept : goal.returns-in-Ok-clause-kept
returns-in-Ok-clause-kept g c = λ other.
    let d = g.D.Disk in
    let m = c.requires.kept.stands.machine in
    let stands = c.requires.kept.stands.stands in
    kept_still d.seen d.may_leave c.args.disk.now c.args.machine.now c.step.new.machine m c.args.request c.in-Err-step.why c.requires.kept stands c.step.ensures.options other
    (c.in-Err-step.ensures.machine m stands)

pub returns-in-Ok-append-clause-accepted : goal.returns-in-Ok-append-clause-accepted
returns-in-Ok-append-clause-accepted g c =
    let old = c.args.machine.now in
    let m = c.requires.kept.stands.machine in
    let stands = c.requires.kept.stands.stands in
    (committed (options_in old) m c.args.request old stands c.step.new.machine c.in-Ok-step.done (c.in-Ok-step.ensures.machine m stands)).requests_are
