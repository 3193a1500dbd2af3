use Rattle.std.proofs.Common.{◌≡◌, ◌+◌, ◌-◌, ◌∷◌, arith, drop, sym, ◌∙◌, ap}
use Rattle.std.proofs.lemmas.List.{drop_more}
use Rattle.pol_connection_maps.specs.PeerRows.{first_row}
use Rattle.pol_connection_maps.proofs.Peered.{at, row_more}
use Rattle.pol_connection_maps.proofs.peer_rows.PeerRows.new.Goals as goal

pub loop-i-preserved : goal.loop-i-preserved
loop-i-preserved c = λ p.
    let row = c.index-rows-i.result in
    let next : c.loop-i.i - 1 + 1 ≡ c.loop-i.i = omega arith in
    let split : drop (c.loop-i.i - 1) c.args.rows.now ≡ row ∷ drop c.loop-i.i c.args.rows.now =
    drop_more c.args.rows.now (c.loop-i.i - 1) row (omega arith) ∙ (λ j. sym c.index-rows-i.is j ∷ drop (next j) c.args.rows.now) in
    row_more p _ _ (drop c.loop-i.i c.args.rows.now) _ _ c.peer.ensures.peer (c.in_ok-insert.ensures.updates.0 (at p)) (c.loop-i.invariant p)
    ∙ ap (λ rows. first_row rows p) (sym split)
