-- What was taken is reported behind the history that is shown.
use Rattle.std.proofs.Common.{[], List, ap, refl, subst, sym, ◌∙◌}
use mathlib.Core.List.{IsPrefix}
use Rattle.pol_map_changes.specs.Changes.{changed}
use Rattle.pol_map_changes.specs.declared.change.Change.{Change}
use Rattle.pol_slot_map.specs.Followed.{table_then}
use Rattle.pol_history.specs.declared.event.HistoryEvent.{HistoryEvent}
use Rattle.pol_history.specs.declared.event.HistoryEvent.TheVariants as event
use Rattle.pol_history.specs.Machine.{endpoint_id}
use Rattle.pol_history.specs.Meet.{AreOf}
use Rattle.pol_history.specs.Reports.{last_report, published_before}
use Rattle.pol_history.proofs.Meetings.{are_of-blocked, are_of-publish, pass-grows, passes-grow_whole}
use Rattle.pol_history_log.specs.Asked.{table_at}
use Rattle.pol_repo_history.specs.AtHistory.{IsAt}
use Rattle.pol_repo_history.proofs.AtHistory.{at_blocked, at_publish, revision_at}
use Rattle.pol_node.specs.Kept.{IsLastNoMore, IsLastNow, NotReported}
use Rattle.pol_node.proofs.Reporting.{blocked_here, either_way, leads_here, may_block, may_publish, memory_fails, published_here, reported_here, taken_before, taken_then, within}
use Rattle.pol_node.proofs.Lasting.{blocked_as, next_here, published_as}
use Rattle.pol_node.proofs.desk.Desk.finish.Goals as goal

pub returns-then-is_of-clause-finished : goal.returns-then-is_of-clause-finished
returns-then-is_of-clause-finished g c =
    let taken = c.args.taken.now in
    let last_is = sym c.last_report-report.ensures ∙ c.is_same_report.ensures.same c.if-not-is_same_report.false in
    reported_here (endpoint_id taken.endpoint) taken.revision c.show.new.pass.has.history c.args.last c.is_published.result
    (ap (last_report (endpoint_id taken.endpoint)) c.show.ensures.all ∙ last_is) (sym c.is_of.ensures ∙ c.if-is_of.true) c.is_published.ensures

pub returns-then-not-is_same_report-clause-cause : goal.returns-then-not-is_same_report-clause-cause
returns-then-not-is_same_report-clause-cause g c =
    let options = g.N.NodeName.options in let endpoint = endpoint_id c.args.taken.now.endpoint in
    subst (λ (h : List HistoryEvent). IsLastNoMore options h endpoint c.args.last) (sym c.show.ensures.all)
    (record {
      live = c.if-not-is_live.ensures;
      other = λ same. c.is_same_report.ensures.other c.if-not-is_same_report.true (c.last_report-report.ensures ∙ same);
    })

pub returns-then-is_of-clause-reported : goal.returns-then-is_of-clause-reported
returns-then-is_of-clause-reported g c =
    let options = g.N.NodeName.options in let endpoint = endpoint_id c.args.taken.now.endpoint in
    let last_is = sym c.last_report-report.ensures ∙ c.is_same_report.ensures.same c.if-not-is_same_report.false in
    record {
      now = subst (λ (h : List HistoryEvent). IsLastNow options h endpoint c.args.last) (sym c.show.ensures.all)
          (record { live = c.if-not-is_live.ensures; is = last_is });
      shows = refl;
    }

-- ---- it is published

pub publish-requires-clause-seen : goal.publish-requires-clause-seen
publish-requires-clause-seen g c =
    let options = g.N.NodeName.options in let taken = c.args.taken.now in let old = c.args.pass.now.has.history in let shown = c.show.new.pass.has.history in
    let grown = c.show.ensures.grows.whole.grows in
    let was = taken_before options old shown shown taken grown.goes_on grown.legal refl c.requires.revision c.requires.taken in
    within options old shown taken was

pub publish-requires-clause-taken : goal.publish-requires-clause-taken
publish-requires-clause-taken g c =
    let options = g.N.NodeName.options in let taken = c.args.taken.now in let old = c.args.pass.now.has.history in let shown = c.show.new.pass.has.history in
    let grown = c.show.ensures.grows.whole.grows in
    let was = taken_before options old shown shown taken grown.goes_on grown.legal refl c.requires.revision c.requires.taken in
    taken_then options old shown taken was

pub publish-requires-clause-may : goal.publish-requires-clause-may
publish-requires-clause-may g c =
    let options = g.N.NodeName.options in let taken = c.args.taken.now in let old = c.args.pass.now.has.history in let history = c.show.new.self.seen in
    let grown = c.show.ensures.grows.whole.grows in
    let was = taken_before options old c.show.new.pass.has.history history taken grown.goes_on grown.legal c.show.ensures.all c.requires.revision c.requires.taken in
    let last_is = sym c.last_report-report.ensures ∙ c.is_same_report.ensures.same c.if-not-is_same_report.false in
    let next = next_here options old history taken was c.args.last c.if-not-is_live.ensures c.requires.last last_is (sym c.is_of.ensures ∙ c.if-is_of.false) in
    may_publish options old history taken was (published_before c.args.last) next c.args.self.now.limit c.args.count c.args.self.now.limited c.requires.count c.if-count-self.true

pub publish-requires-clause-leads : goal.publish-requires-clause-leads
publish-requires-clause-leads g c =
    let options = g.N.NodeName.options in let taken = c.args.taken.now in let old = c.args.pass.now.has.history in let history = c.show.new.self.seen in
    let grown = c.show.ensures.grows.whole.grows in
    let was = taken_before options old c.show.new.pass.has.history history taken grown.goes_on grown.legal c.show.ensures.all c.requires.revision c.requires.taken in
    let last_is = sym c.last_report-report.ensures ∙ c.is_same_report.ensures.same c.if-not-is_same_report.false in
    let next = next_here options old history taken was c.args.last c.if-not-is_live.ensures c.requires.last last_is (sym c.is_of.ensures ∙ c.if-is_of.false) in
    leads_here options old history taken was (published_before c.args.last) c.in_ok-list.list next c.requires.shown
    (ap (λ (changes : List Change). changed changes (table_then options old (endpoint_id taken.endpoint) (published_before c.args.last))) c.in_ok-list.ensures.list
    ∙ c.requires.leads)

pub invariant_of-self-then-count-self : goal.invariant_of-self-then-count-self
invariant_of-self-then-count-self g c =
    let options = g.N.NodeName.options in let passes = g.N.NodeName.passes in let endpoint = endpoint_id c.args.taken.now.endpoint in
    let revision = c.args.taken.now.revision in let history = c.show.new.self.seen in let repo = c.args.self.now.repo in
    let at = subst (λ (h : List HistoryEvent). IsAt options h repo) (sym c.show.ensures.same) c.args.self.now.at in
    let ours = subst (λ (h : List HistoryEvent). AreOf passes h) (sym c.show.ensures.same) c.args.self.now.ours in
    let table = table_at options history endpoint revision in
    let added = event.Publish endpoint revision table in
    record {
      at = either_way (λ (h : List HistoryEvent). IsAt options h repo) c.publish.result history c.publish.new.self.seen added c.publish.ensures.added c.publish.ensures.err
          at (at_publish options history repo at endpoint revision table);
      ours = either_way (λ (h : List HistoryEvent). AreOf passes h) c.publish.result history c.publish.new.self.seen added c.publish.ensures.added c.publish.ensures.err
          ours (are_of-publish passes history endpoint revision table ours);
      limited = c.args.self.now.limited;
    }

pub returns-in_ok-publish-clause-grows : goal.returns-in_ok-publish-clause-grows
returns-in_ok-publish-clause-grows g c =
    let options = g.N.NodeName.options in
    passes-grow_whole options c.args.pass.now c.show.new.pass c.publish.new.pass [] [] (pass-grows options c.args.pass.now c.show.new.pass [] c.show.ensures.grows)
    c.publish.ensures.grows

pub returns-in_ok-publish-clause-finished : goal.returns-in_ok-publish-clause-finished
returns-in_ok-publish-clause-finished g c =
    let options = g.N.NodeName.options in let taken = c.args.taken.now in let old = c.args.pass.now.has.history in let history = c.show.new.self.seen in
    let grown = c.show.ensures.grows.whole.grows in
    let was = taken_before options old c.show.new.pass.has.history history taken grown.goes_on grown.legal c.show.ensures.all c.requires.revision c.requires.taken in
    published_here options old history taken was c.publish.new.pass.has.history (c.publish.ensures.shown ∙ c.in_ok-publish.ensures.added)

pub returns-in_ok-publish-clause-reported : goal.returns-in_ok-publish-clause-reported
returns-in_ok-publish-clause-reported g c =
    let options = g.N.NodeName.options in let endpoint = endpoint_id c.args.taken.now.endpoint in let revision = c.args.taken.now.revision in
    let history = c.show.new.self.seen in let repo = c.args.self.now.repo in
    let at = subst (λ (h : List HistoryEvent). IsAt options h repo) (sym c.show.ensures.same) c.args.self.now.at in
    published_as options history c.publish.new.pass.has.history endpoint revision c.if-not-is_live.ensures (table_at options history endpoint revision)
    c.revision-commits.result c.published.result c.published.ensures (c.revision-commits.ensures.revision ∙ revision_at options history repo at)
    (c.publish.ensures.shown ∙ c.in_ok-publish.ensures.added)

pub returns-in_err-list-clause-cause : goal.returns-in_err-list-clause-cause
returns-in_err-list-clause-cause g c =
    let options = g.N.NodeName.options in let endpoint = endpoint_id c.args.taken.now.endpoint in
    let last_is = sym c.last_report-report.ensures ∙ c.is_same_report.ensures.same c.if-not-is_same_report.false in
    memory_fails (NotReported options c.show.new.pass.has.history endpoint c.args.last) c.from_residual.result c.from_residual.ensures.1
    (subst (λ (h : List HistoryEvent). IsLastNow options h endpoint c.args.last) (sym c.show.ensures.all)
    (record { live = c.if-not-is_live.ensures; is = last_is }))

pub returns-in_err-publish-clause-cause : goal.returns-in_err-publish-clause-cause
returns-in_err-publish-clause-cause g c =
    let options = g.N.NodeName.options in let endpoint = endpoint_id c.args.taken.now.endpoint in let new = c.publish.new.pass.has.history in
    let last_is = sym c.last_report-report.ensures ∙ c.is_same_report.ensures.same c.if-not-is_same_report.false in
    memory_fails (NotReported options new endpoint c.args.last) c.from_residual-in_err-publish.result c.from_residual-in_err-publish.ensures.1
    (subst (λ (h : List HistoryEvent). IsLastNow options h endpoint c.args.last) (sym (c.publish.ensures.shown ∙ c.in_err-publish.ensures.err))
    (record { live = c.if-not-is_live.ensures; is = last_is }))

-- ---- it is too large

pub block-requires-clause-seen : goal.block-requires-clause-seen
block-requires-clause-seen g c =
    let options = g.N.NodeName.options in let taken = c.args.taken.now in let old = c.args.pass.now.has.history in let shown = c.show.new.pass.has.history in
    let grown = c.show.ensures.grows.whole.grows in
    let was = taken_before options old shown shown taken grown.goes_on grown.legal refl c.requires.revision c.requires.taken in
    within options old shown taken was

pub block-requires-clause-taken : goal.block-requires-clause-taken
block-requires-clause-taken g c =
    let options = g.N.NodeName.options in let taken = c.args.taken.now in let old = c.args.pass.now.has.history in let shown = c.show.new.pass.has.history in
    let grown = c.show.ensures.grows.whole.grows in
    let was = taken_before options old shown shown taken grown.goes_on grown.legal refl c.requires.revision c.requires.taken in
    taken_then options old shown taken was

pub block-requires-clause-may : goal.block-requires-clause-may
block-requires-clause-may g c =
    let options = g.N.NodeName.options in let taken = c.args.taken.now in let old = c.args.pass.now.has.history in let history = c.show.new.self.seen in
    let grown = c.show.ensures.grows.whole.grows in
    let was = taken_before options old c.show.new.pass.has.history history taken grown.goes_on grown.legal c.show.ensures.all c.requires.revision c.requires.taken in
    let last_is = sym c.last_report-report.ensures ∙ c.is_same_report.ensures.same c.if-not-is_same_report.false in
    let next = next_here options old history taken was c.args.last c.if-not-is_live.ensures c.requires.last last_is (sym c.is_of.ensures ∙ c.if-is_of.false) in
    may_block options old history taken was (published_before c.args.last) next c.args.self.now.limit c.args.count c.args.self.now.limited c.requires.count c.if-count-self.false

pub invariant_of-self-else-count-self : goal.invariant_of-self-else-count-self
invariant_of-self-else-count-self g c =
    let options = g.N.NodeName.options in let passes = g.N.NodeName.passes in let endpoint = endpoint_id c.args.taken.now.endpoint in
    let revision = c.args.taken.now.revision in let history = c.show.new.self.seen in let repo = c.args.self.now.repo in
    let at = subst (λ (h : List HistoryEvent). IsAt options h repo) (sym c.show.ensures.same) c.args.self.now.at in
    let ours = subst (λ (h : List HistoryEvent). AreOf passes h) (sym c.show.ensures.same) c.args.self.now.ours in
    let added = event.Blocked endpoint revision c.args.count in
    record {
      at = either_way (λ (h : List HistoryEvent). IsAt options h repo) c.block.result history c.block.new.self.seen added c.block.ensures.added c.block.ensures.err
          at (at_blocked options history repo at endpoint revision c.args.count);
      ours = either_way (λ (h : List HistoryEvent). AreOf passes h) c.block.result history c.block.new.self.seen added c.block.ensures.added c.block.ensures.err
          ours (are_of-blocked passes history endpoint revision c.args.count ours);
      limited = c.args.self.now.limited;
    }

pub returns-in_ok-block-clause-grows : goal.returns-in_ok-block-clause-grows
returns-in_ok-block-clause-grows g c =
    let options = g.N.NodeName.options in
    passes-grow_whole options c.args.pass.now c.show.new.pass c.block.new.pass [] [] (pass-grows options c.args.pass.now c.show.new.pass [] c.show.ensures.grows)
    c.block.ensures.grows

pub returns-in_ok-block-clause-finished : goal.returns-in_ok-block-clause-finished
returns-in_ok-block-clause-finished g c =
    let taken = c.args.taken.now in let old = c.args.pass.now.has.history in
    let begins = subst (λ (h : List HistoryEvent). IsPrefix old h) c.show.ensures.all c.show.ensures.grows.whole.grows.goes_on in
    blocked_here old c.show.new.self.seen c.block.new.pass.has.history (endpoint_id taken.endpoint) taken.revision c.args.count begins
    (c.block.ensures.shown ∙ c.in_ok-block.ensures.added)

pub returns-in_ok-block-clause-reported : goal.returns-in_ok-block-clause-reported
returns-in_ok-block-clause-reported g c =
    let options = g.N.NodeName.options in let endpoint = endpoint_id c.args.taken.now.endpoint in
    let history = c.show.new.self.seen in let repo = c.args.self.now.repo in
    let at = subst (λ (h : List HistoryEvent). IsAt options h repo) (sym c.show.ensures.same) c.args.self.now.at in
    let last_is = sym c.last_report-report.ensures ∙ c.is_same_report.ensures.same c.if-not-is_same_report.false in
    blocked_as options history c.block.new.pass.has.history endpoint c.args.taken.now.revision c.if-not-is_live.ensures c.args.count
    c.revision-commits.result c.args.last c.blocked.result c.blocked.ensures (c.revision-commits.ensures.revision ∙ revision_at options history repo at)
    last_is (c.block.ensures.shown ∙ c.in_ok-block.ensures.added)

pub returns-in_err-block-clause-cause : goal.returns-in_err-block-clause-cause
returns-in_err-block-clause-cause g c =
    let options = g.N.NodeName.options in let endpoint = endpoint_id c.args.taken.now.endpoint in let new = c.block.new.pass.has.history in
    let last_is = sym c.last_report-report.ensures ∙ c.is_same_report.ensures.same c.if-not-is_same_report.false in
    memory_fails (NotReported options new endpoint c.args.last) c.from_residual-in_err-block.result c.from_residual-in_err-block.ensures.1
    (subst (λ (h : List HistoryEvent). IsLastNow options h endpoint c.args.last) (sym (c.block.ensures.shown ∙ c.in_err-block.ensures.err))
    (record { live = c.if-not-is_live.ensures; is = last_is }))
