use Rattle.std.proofs.Common.{List, ap, ◌∙◌, subst, sym}
use Rattle.pol_disk.specs.MemDisk.{bytes_in}
use Rattle.pol_journal.specs.Journal.{IsJournal}
use Rattle.pol_kept.specs.Keeps.{TellsDamage, options_of, requests_in}
use Rattle.pol_crash_drill.specs.Crashed.{left_by_crash}
use Rattle.pol_crash_drill.proofs.Ends.{one_journal, one_list}
use Rattle.pol_crash_drill.proofs.restart.count_kept.Goals as goal

pub returns-in-Ok : goal.returns-in-Ok
returns-in-Ok c requests journal =
    let options = options_of c.args.config in
    let found = requests_in c.in-Ok.machine in
    let left = left_by_crash c.args.call c.args.disk.past in
    let here : IsJournal options found left = subst (IsJournal options found) c.crash-left.ensures.kept.read c.in-Ok.ensures.journal in
    rw (c.journal.ensures.requests, c.repo.ensures.repo) (one_list options left found requests here journal)

pub unreachable-requires : goal.unreachable-requires
unreachable-requires c =
    let options = options_of c.args.config in
    let left = left_by_crash c.args.call c.args.disk.past in
    let told = subst (TellsDamage options (bytes_in c.crash-left.result)) c.in-Err-Damaged.field-0-is c.in-Err-Damaged.ensures.damaged in
    one_journal _ c.in-Err-Damaged.field-0-0 c.requires.journal.requests
    (subst (IsJournal options c.requires.journal.requests) (sym c.crash-left.ensures.kept.read) c.requires.journal.journal) told
