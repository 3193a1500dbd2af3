use Rattle.std.proofs.Common.{◌≡◌, ◌+◌, ◌-◌, ◌∷◌, Some, arith, cond, drop, find, refl, sym, ◌∙◌, ap}
use Rattle.std.proofs.lemmas.List.{drop_more}
use Rattle.std.specs.HashMap.{get_by}
use Rattle.pol_rule.specs.contracts.policy.PeerPartialEq.TheImpl as peers
use Rattle.pol_rule.specs.declared.policy.Peer.{Peer}
use Rattle.pol_sets.specs.Sets.{is_row_of}
use Rattle.pol_distill.proofs.Indexes.{at}
use Rattle.pol_entry_changes.specs.PeerRow.{placed_row}
use Rattle.pol_entry_changes.proofs.FirstRow.{put_row}
use Rattle.pol_entry_changes.proofs.rows.table_of.Goals as goal

pub loop-i-preserved : goal.loop-i-preserved
loop-i-preserved c = λ p.
    let row = c.index-rows-i.result in
    let next : c.loop-i.i - 1 + 1 ≡ c.loop-i.i = omega arith in
    let split : drop (c.loop-i.i - 1) c.args.rows.now ≡ row ∷ drop c.loop-i.i c.args.rows.now =
    drop_more c.args.rows.now (c.loop-i.i - 1) row (omega arith) ∙ (λ j. sym c.index-rows-i.is j ∷ drop (next j) c.args.rows.now) in
    ap placed_row (c.in_ok-insert.ensures.updates.0 (at p))
    ∙ put_row (peers.ghosts.eq c.peer.result.now p) row (find (is_row_of p) (drop c.loop-i.i c.args.rows.now)) _ (get_by (λ k. peers.ghosts.eq p k.now) c.loop-i.table) refl (c.loop-i.invariant p)
    ∙ ap (λ (q : Peer). cond (peers.ghosts.eq q p) (Some row) (find (is_row_of p) (drop c.loop-i.i c.args.rows.now))) c.peer.ensures.peer
    ∙ ap (find (is_row_of p)) (sym split)
