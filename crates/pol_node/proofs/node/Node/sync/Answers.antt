-- What the last sync told holds again from the pass's history on, and so does what the turns of the slots make.
use Rattle.std.proofs.Common.{List, [], Option, IfSome, subst}
use Rattle.std.proofs.lemmas.Result.{IfOk-weaker, on_ok_weaker}
use mathlib.Core.List.{IsPrefix}
use Rattle.pol_history.specs.declared.event.HistoryEvent.{HistoryEvent}
use Rattle.pol_history.specs.Calls.{IsSynced}
use Rattle.pol_history.proofs.Meetings.{pass-grows, passes-grow, passes-grow_whole}
use Rattle.pol_node.specs.declared.report.SyncReport.{SyncReport}
use Rattle.pol_node.proofs.Again.{synced_now}
use Rattle.pol_node.proofs.node.Node.sync.Goals as goal

-- the last sync's answer, where just what it had seen is seen
pub returns-in-Some-clause-synced : goal.returns-in-Some-clause-synced
returns-in-Some-clause-synced g c =
    let options = g.N.NodeName.options in
    let grown = c.show-revision.ensures.grows.whole.grows in
    let shown = c.show-revision.new.pass.has.history in
    let report = c.in-Some.report in
    let tells : IsSynced options shown shown report.revision report.full =
    subst (λ (told : Option SyncReport). IfSome told (λ (report : SyncReport). IsSynced options shown shown report.revision report.full)) c.in-Some.is c.in_ok-told.ensures.tells in
    synced_now options c.args.pass.now.has.history shown grown.legal grown.goes_on report.revision report.full tells

pub returns-clause-grows : goal.returns-clause-grows
returns-clause-grows g c =
    let options = g.N.NodeName.options in
    let first = c.args.pass.now in
    passes-grow options first c.show-revision.new.pass c.sync_slots.new.pass [] [] (pass-grows options first c.show-revision.new.pass [] c.show-revision.ensures.grows)
    c.sync_slots.ensures.grows

pub returns-clause-whole : goal.returns-clause-whole
returns-clause-whole g c =
    let options = g.N.NodeName.options in
    let first = c.args.pass.now in
    on_ok_weaker c.sync_slots.result
    (passes-grow_whole options first c.show-revision.new.pass c.sync_slots.new.pass [] [] (pass-grows options first c.show-revision.new.pass [] c.show-revision.ensures.grows))
    c.sync_slots.ensures.whole

pub returns-clause-synced : goal.returns-clause-synced
returns-clause-synced g c =
    let options = g.N.NodeName.options in
    let first = c.args.pass.now.has.history in
    let mid = c.show-revision.new.pass.has.history in
    let new = c.sync_slots.new.pass.has.history in
    IfOk-weaker c.sync_slots.result
    (λ (report : SyncReport). (early : List HistoryEvent) → IsPrefix early mid → IsSynced options early new report.revision report.full)
    (λ (report : SyncReport). IsSynced options first new report.revision report.full)
    (λ report told. told first c.show-revision.ensures.grows.whole.grows.goes_on) c.sync_slots.ensures.synced
