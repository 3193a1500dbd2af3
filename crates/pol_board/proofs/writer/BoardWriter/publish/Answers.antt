use Rattle.std.proofs.Common.{ap, sym, subst, ◌∙◌}
use Rattle.pol_model.specs.State.{State}
use Rattle.pol_history.specs.declared.event.HistoryEvent.TheVariants as event
use Rattle.pol_history.specs.Commits.{commits_by}
use Rattle.pol_history.specs.Content.{numbers_in}
use Rattle.pol_history.specs.Machine.{endpoint_id}
use Rattle.pol_history.proofs.Own.{own-publish, state-prefix}
use Rattle.pol_history_log.specs.Asked.{table_at}
use Rattle.pol_board.specs.Counts.{Counted}
use Rattle.pol_board.proofs.Counting.{counted-publish}
use Rattle.pol_board.proofs.Showing.{longer_is, longer-is_change, own_shown}
use Rattle.pol_board.proofs.writer.BoardWriter.publish.Goals as goal

pub append-requires-clause-change : goal.append-requires-clause-change
append-requires-clause-change g c =
    let t = c.args.taken.now in let h = c.args.self.now.seen in let options = g.N.NodeName.options in
    let table = table_at options h (endpoint_id t.endpoint) t.revision in
    let state = state-prefix options c.args.pass.now.has.history h t.revision c.until_fits.ensures.grows c.requires.seen in
    let tells = c.in_ok-change.ensures options h table (record {
      leads = c.requires.leads;
      numbers = λ address. c.requires.taken.addresses address ∙ ap (λ (s : State). numbers_in s address) (sym state);
    }) in
    longer-is_change options c.in_ok-change.change h (event.Publish (endpoint_id t.endpoint) t.revision table) c.in_ok-longer.longer tells c.in_ok-longer.ensures

pub shown-requires-2-clause-own : goal.shown-requires-2-clause-own
shown-requires-2-clause-own g c =
    let t = c.args.taken.now in let p = c.shown.new.self in let h = c.args.self.now.seen in let options = g.N.NodeName.options in
    let table = table_at options h (endpoint_id t.endpoint) t.revision in
    let all = longer_is h (event.Publish (endpoint_id t.endpoint) t.revision table) c.in_ok-longer.longer c.in_ok-seen.seen c.in_ok-longer.ensures c.in_ok-seen.ensures.ok.0 in
    ap (commits_by p.number) all ∙ own-publish p.number (endpoint_id t.endpoint) t.revision table h
    ∙ own_shown options c.args.pass.now p h c.shown.ensures.grows c.shown.ensures.all

pub invariant_of-self-3-clause-counted : goal.invariant_of-self-3-clause-counted
invariant_of-self-3-clause-counted g c =
    let t = c.args.taken.now in let h = c.args.self.now.seen in let counts = c.args.self.now.counts.items in
    let table = table_at g.N.NodeName.options h (endpoint_id t.endpoint) t.revision in
    let all = longer_is h (event.Publish (endpoint_id t.endpoint) t.revision table) c.in_ok-longer.longer c.in_ok-seen.seen c.in_ok-longer.ensures c.in_ok-seen.ensures.ok.0 in
    subst (Counted counts) (sym all) (counted-publish (endpoint_id t.endpoint) t.revision table h counts c.args.self.now.counted)

pub returns-clause-added : goal.returns-clause-added
returns-clause-added g c =
    let t = c.args.taken.now in let h = c.args.self.now.seen in
    let table = table_at g.N.NodeName.options h (endpoint_id t.endpoint) t.revision in
    longer_is h (event.Publish (endpoint_id t.endpoint) t.revision table) c.in_ok-longer.longer c.in_ok-seen.seen c.in_ok-longer.ensures c.in_ok-seen.ensures.ok.0
