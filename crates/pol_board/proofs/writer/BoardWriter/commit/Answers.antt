use Rattle.std.proofs.Common.{ℕ, ◌++◌, ◌∷◌, [], List, length, ap, ◌∙◌, arith}
use Rattle.pol_model.specs.declared.request.Request.{Request}
use Rattle.pol_history.specs.declared.event.HistoryEvent.TheVariants as event
use Rattle.pol_history.specs.Commits.{commits_by}
use Rattle.pol_history.proofs.Own.{commits_by-few, own-commit}
use Rattle.pol_board.proofs.Showing.{longer_is, own_shown}
use Rattle.pol_board.proofs.writer.BoardWriter.commit.Goals as goal

pub committed-requires-clause-own : goal.committed-requires-clause-own
committed-requires-clause-own g c =
    let p = c.shown.new.self in let h = c.args.self.now.seen in let request = c.args.request.now in let count = c.count-count.result in
    let all = longer_is h (event.Commit c.number-number.result count request) c.commit-longer.result c.in_ok-seen.seen c.commit-longer.ensures c.in_ok-seen.ensures.ok.0 in
    let mine = own_shown g.N.NodeName.options c.args.pass.now p h c.shown.ensures.grows c.shown.ensures.all in
    ap (commits_by p.number) all ∙ ap (λ (n : ℕ). commits_by p.number (h ++ event.Commit n count request ∷ [])) c.number-number.ensures
    ∙ own-commit p.number count request h ∙ ap (λ (own : List Request). own ++ request ∷ []) mine

pub committed-requires-clause-room : goal.committed-requires-clause-room
committed-requires-clause-room g c =
    let p = c.shown.new.self in let h = c.args.self.now.seen in
    let few = commits_by-few p.number h in
    let mine = ap length (own_shown g.N.NodeName.options c.args.pass.now p h c.shown.ensures.grows c.shown.ensures.all) in
    omega (arith, few, mine, c.len.ensures.length, c.if-len-ge-EVENTS.false)
