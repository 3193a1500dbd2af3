use Rattle.std.proofs.Common.{ap, sym, subst, ◌∙◌}
use Rattle.pol_history.specs.declared.event.HistoryEvent.TheVariants as event
use Rattle.pol_history.specs.Commits.{commits_by}
use Rattle.pol_history.specs.Machine.{endpoint_id}
use Rattle.pol_history.proofs.Own.{own-blocked}
use Rattle.pol_board.specs.Counts.{Counted}
use Rattle.pol_board.proofs.Counting.{counted-blocked}
use Rattle.pol_board.proofs.Showing.{longer_is, own_shown}
use Rattle.pol_board.proofs.writer.BoardWriter.block.Goals as goal

pub shown-requires-2-clause-own : goal.shown-requires-2-clause-own
shown-requires-2-clause-own g c =
    let t = c.args.taken.now in let p = c.shown.new.self in let h = c.args.self.now.seen in
    let all = longer_is h (event.Blocked (endpoint_id t.endpoint) t.revision c.args.count) c.block-longer.result c.in_ok-seen.seen c.block-longer.ensures c.in_ok-seen.ensures.ok.0 in
    ap (commits_by p.number) all ∙ own-blocked p.number (endpoint_id t.endpoint) t.revision c.args.count h
    ∙ own_shown g.N.NodeName.options c.args.pass.now p h c.shown.ensures.grows c.shown.ensures.all

pub invariant_of-self-2-clause-counted : goal.invariant_of-self-2-clause-counted
invariant_of-self-2-clause-counted g c =
    let t = c.args.taken.now in let h = c.args.self.now.seen in let counts = c.args.self.now.counts.items in
    let all = longer_is h (event.Blocked (endpoint_id t.endpoint) t.revision c.args.count) c.block-longer.result c.in_ok-seen.seen c.block-longer.ensures c.in_ok-seen.ensures.ok.0 in
    subst (Counted counts) (sym all) (counted-blocked (endpoint_id t.endpoint) t.revision c.args.count h counts c.args.self.now.counted)

pub returns-clause-added : goal.returns-clause-added
returns-clause-added g c =
    let t = c.args.taken.now in
    longer_is c.args.self.now.seen (event.Blocked (endpoint_id t.endpoint) t.revision c.args.count) c.block-longer.result c.in_ok-seen.seen c.block-longer.ensures c.in_ok-seen.ensures.ok.0
