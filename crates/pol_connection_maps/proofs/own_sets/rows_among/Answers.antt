use Rattle.std.proofs.Common.{◌≡◌, ◌+◌, ◌<◌, ◌++◌, [], ◌∷◌, IsTrue, length, map, take, sym, ap, subst, ◌∙◌, arith}
use Rattle.std.proofs.lemmas.List.{map-append, take_all, take_more}
use Rattle.pol_sets.specs.Sets.{has_set}
use Rattle.pol_connection_maps.specs.Sets.{AreSetsOf}
use Rattle.pol_connection_maps.proofs.Listed.{given_is, no_rows, row_more}
use Rattle.pol_connection_maps.proofs.Lookup.{every_at}
use Rattle.pol_connection_maps.proofs.Peered.{every_under, found_peer, given_by}
use Rattle.pol_connection_maps.proofs.own_sets.rows_among.Goals as goal

pub loop-peer-init : goal.loop-peer-init
loop-peer-init c = λ identities exact. no_rows identities c.new-rows.result.items c.new-rows.ensures.items

pub row_of-requires : goal.row_of-requires
row_of-requires c =
    let all = c.args.peers.now in
    let item = c.peer-item.result in
    every_at (λ p. IsTrue (has_set c.args.sets.now p.now)) all c.loop-peer.peer-index item (every_under (λ p. IsTrue (has_set c.args.sets.now p)) (λ p. p.now) all c.requires) (omega arith) c.peer-item.is

pub loop-peer-preserved : goal.loop-peer-preserved
loop-peer-preserved c = λ identities exact.
    let all = c.args.peers.now in
    let i = c.loop-peer.peer-index in
    let item = c.peer-item.result in
    let within : i < length all = omega arith in
    let has = every_at (λ p. IsTrue (has_set c.args.sets.now p.now)) all i item (every_under (λ p. IsTrue (has_set c.args.sets.now p)) (λ p. p.now) all c.requires) within c.peer-item.is in
    let more : map (λ p. p.now) (take (i + 1) all) ≡ map (λ p. p.now) (take i all) ++ item.now ∷ [] =
    ap (map (λ p. p.now)) (take_more all i item within ∙ ap (λ q. take i all ++ q ∷ []) (sym c.peer-item.is)) ∙ map-append (λ p. p.now) (take i all) (item ∷ [])
    in
    subst (λ ps. AreSetsOf identities ps c.push.new.self.items) (sym more)
    (subst (AreSetsOf identities (map (λ p. p.now) (take i all) ++ item.now ∷ [])) (sym c.in_ok-push.ensures.items)
    (row_more identities (map (λ p. p.now) (take i all)) item.now c.loop-peer.rows.items c.in_ok-share_of.field-0
    (c.in_ok-share_of.ensures.peer ∙ found_peer c.args.sets.now item.now _ c.row_of.ensures)
    (c.in_ok-share_of.ensures.set ∙ given_by c.args.sets.now item.now _ c.row_of.ensures ∙ given_is identities c.args.sets.now exact item.now has) (c.loop-peer.invariant identities exact)))

pub returns : goal.returns
returns c = λ identities exact.
    subst (λ ps. AreSetsOf identities (map (λ p. p.now) ps) c.loop-peer.rows.items) (take_all c.loop-peer.peer-index c.args.peers.now c.loop-peer-test.false) (c.loop-peer.invariant identities exact)
