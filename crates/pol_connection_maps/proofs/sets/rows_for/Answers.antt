use Rattle.std.proofs.Common.{◌≡◌, ◌+◌, ◌<◌, ◌++◌, [], ◌∷◌, length, map, take, sym, ap, subst, ◌∙◌, arith}
use Rattle.std.proofs.lemmas.List.{map-append, take_more}
use Rattle.pol_connection_maps.specs.Sets.{AreSetsOf}
use Rattle.pol_connection_maps.proofs.Listed.{no_rows, row_more}
use Rattle.pol_connection_maps.proofs.sets.rows_for.Goals as goal

pub loop-peer-init : goal.loop-peer-init
loop-peer-init c = no_rows c.args.identities.now c.new-rows.result.items c.new-rows.ensures.items

pub loop-peer-preserved : goal.loop-peer-preserved
loop-peer-preserved c =
    let all = c.args.peers.now in
    let i = c.loop-peer.peer-index in
    let item = c.peer-item.result in
    let within : i < length all = omega arith in
    let more : map (λ p. p.now) (take (i + 1) all) ≡ map (λ p. p.now) (take i all) ++ item.now ∷ [] =
    ap (map (λ p. p.now)) (take_more all i item within ∙ ap (λ q. take i all ++ q ∷ []) (sym c.peer-item.is)) ∙ map-append (λ p. p.now) (take i all) (item ∷ [])
    in
    subst (λ ps. AreSetsOf c.args.identities.now ps c.push.new.self.items) (sym more)
    (subst (AreSetsOf c.args.identities.now (map (λ p. p.now) (take i all) ++ item.now ∷ [])) (sym c.in_ok-push.ensures.items)
    (row_more c.args.identities.now (map (λ p. p.now) (take i all)) item.now c.loop-peer.rows.items c.in_ok-set_row.field-0
    c.in_ok-set_row.ensures.peer c.in_ok-set_row.ensures.set c.loop-peer.invariant))
