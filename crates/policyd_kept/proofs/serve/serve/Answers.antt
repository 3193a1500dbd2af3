use Rattle.std.proofs.Common.{ℕ, List, subst, sym, ◌∙◌}
use Rattle.pol_disk.specs.Images.{LeavesOnly}
use Rattle.pol_journal.specs.Journal.{IsJournal}
use Rattle.pol_kept.specs.Keeps.{KeepsJournal, requests_in}
use Rattle.pol_machine.specs.Serial.{machine_of}
use Rattle.pol_machine.specs.Stands.{Stands, options_in}
use Rattle.pol_model.specs.declared.options.Options.{Options}
use Rattle.pol_play_kept.proofs.Opened.{opened_requests}
use Rattle.pol_play_kept.proofs.Written.{of_any}
use Rattle.pol_status.specs.declared.status.Status.TheVariants.{Memory, Disk, Damaged}
use Rattle.policyd_kept.specs.Served.{Serves}
use Rattle.policyd_kept.proofs.Opening.{damaged, serves_opened, unopened_by_disk, unopened_by_memory}
use Rattle.policyd_kept.proofs.serve.serve.Goals as goal

pub serve_opened-requires-clause-opened : goal.serve_opened-requires-clause-opened
serve_opened-requires-clause-opened g c =
    let machine = c.in-Ok.machine in
    subst (λ (o : Options). Stands machine (machine_of o (requests_in machine))) (sym c.in-Ok.ensures.opened.options_are) c.in-Ok.ensures.opened.stands

pub returns-in-Ok-clause-served : goal.returns-in-Ok-clause-served
returns-in-Ok-clause-served g c start were =
    let d = g.D.Disk in
    let k = g.K.Sink in
    let options = c.args.options in
    let old = c.args.disk.now in
    let mid = c.open_over.new.disk in
    let machine = c.in-Ok.machine in
    let stay = g.met.D.Disk.seen_may_stay old in
    let same = c.config_of-config.ensures.same in
    let opens = subst (λ (o : Options). LeavesOnly d.moment d.left_since old mid (KeepsJournal o (d.seen old) (d.may_leave old))) same c.open_over.ensures.any_moment in
    let journal = subst (λ (o : Options). IsJournal o (requests_in machine) (d.seen old)) same c.in-Ok.ensures.journal in
    serves_opened d.moment d.left_since d.seen d.may_leave options start old mid were stay opens (g.S.Source.left c.args.source.now) (options_in machine) (requests_in machine)
    (c.in-Ok.ensures.opened.options_are ∙ same) (opened_requests d.moment d.left_since d.seen d.may_leave options start old mid were stay (requests_in machine) journal)
    c.serve_opened.new.disk (k.written c.args.sink.now) (k.written c.serve_opened.new.sink) c.serve_opened.result c.serve_opened.ensures.serves

pub returns-in-Err-Damaged-clause-served : goal.returns-in-Err-Damaged-clause-served
returns-in-Err-Damaged-clause-served g c start were =
    let d = g.D.Disk in
    let old = c.args.disk.now in
    let mid = c.open_over.new.disk in
    let known = g.K.Sink.written c.args.sink.now in
    let opens = subst (λ (o : Options). LeavesOnly d.moment d.left_since old mid (KeepsJournal o (d.seen old) (d.may_leave old))) c.config_of-config.ensures.same c.open_over.ensures.any_moment in
    of_any (g.S.Source.left c.args.source.now) (λ (script : List ℕ). Serves d.moment d.left_since d.may_leave c.args.options start script old mid known known Damaged)
    (damaged d.moment d.left_since d.seen d.may_leave c.args.options start old mid were (g.met.D.Disk.seen_may_stay old) opens (g.met.D.Disk.counts_now mid) known)

pub returns-in-Err-Disk-clause-served : goal.returns-in-Err-Disk-clause-served
returns-in-Err-Disk-clause-served g c start were =
    let d = g.D.Disk in
    let old = c.args.disk.now in
    let mid = c.open_over.new.disk in
    let known = g.K.Sink.written c.args.sink.now in
    let opens = subst (λ (o : Options). LeavesOnly d.moment d.left_since old mid (KeepsJournal o (d.seen old) (d.may_leave old))) c.config_of-config.ensures.same c.open_over.ensures.any_moment in
    of_any (g.S.Source.left c.args.source.now) (λ (script : List ℕ). Serves d.moment d.left_since d.may_leave c.args.options start script old mid known known Disk)
    (unopened_by_disk d.moment d.left_since d.seen d.may_leave c.args.options start old mid were (g.met.D.Disk.seen_may_stay old) opens (g.met.D.Disk.counts_now mid) known)

pub returns-in-Err-Memory-clause-served : goal.returns-in-Err-Memory-clause-served
returns-in-Err-Memory-clause-served g c start were =
    let d = g.D.Disk in
    let old = c.args.disk.now in
    let mid = c.open_over.new.disk in
    let known = g.K.Sink.written c.args.sink.now in
    let opens = subst (λ (o : Options). LeavesOnly d.moment d.left_since old mid (KeepsJournal o (d.seen old) (d.may_leave old))) c.config_of-config.ensures.same c.open_over.ensures.any_moment in
    of_any (g.S.Source.left c.args.source.now) (λ (script : List ℕ). Serves d.moment d.left_since d.may_leave c.args.options start script old mid known known Memory)
    (unopened_by_memory d.moment d.left_since d.seen d.may_leave c.args.options start old mid were (g.met.D.Disk.seen_may_stay old) opens (g.met.D.Disk.counts_now mid) known)
