use Rattle.std.proofs.Common.{◌≡◌, ◌+◌, ◌-◌, ◌∷◌, Some, arith, cond, drop, find, sym, ◌∙◌, ap}
use Rattle.std.proofs.lemmas.List.{drop_more}
use Rattle.std.specs.HashMap.{get_by}
use Rattle.pol_rule.specs.contracts.policy.PeerPartialEq.TheImpl as peers
use Rattle.pol_rule.specs.declared.policy.Peer.{Peer}
use Rattle.pol_sets.specs.Sets.{is_row_of}
use Rattle.pol_distill.proofs.Indexes.{at, put_row, set_in, set_of_first}
use Rattle.pol_distill.proofs.index.PeerSets.new.Goals as goal

pub loop-i-preserved : goal.loop-i-preserved
loop-i-preserved c = λ p.
    let row = c.index-rows-i.result in
    let next : c.loop-i.i - 1 + 1 ≡ c.loop-i.i = omega arith in
    let split : drop (c.loop-i.i - 1) c.args.rows.now ≡ row ∷ drop c.loop-i.i c.args.rows.now =
    drop_more c.args.rows.now (c.loop-i.i - 1) row (omega arith) ∙ (λ j. sym c.index-rows-i.is j ∷ drop (next j) c.args.rows.now) in
    let first = λ (q : Peer). set_in (cond (peers.ghosts.eq q p) (Some c.deref.result) (get_by (λ k. peers.ghosts.eq p k.now) c.loop-i.table)) in
    ap set_in (c.in_ok-insert.ensures.updates.0 (at p))
    ∙ ap first c.peer.ensures.peer
    ∙ put_row (is_row_of p row) row (find (is_row_of p) (drop c.loop-i.i c.args.rows.now)) c.deref.result (get_by (λ k. peers.ghosts.eq p k.now) c.loop-i.table)
    c.deref.ensures (c.loop-i.invariant p)
    ∙ ap (set_of_first p) (sym split)
