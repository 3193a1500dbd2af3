use Rattle.std.proofs.Common.{◌≡◌, ◌+◌, ◌<◌, ◌∷◌, drop, length, map, take, IsSome, sym, ap, ◌∙◌, subst, arith}
use Rattle.std.specs.List.{AllByRecursion}
use Rattle.std.proofs.lemmas.List.{drop_more, map-append, take-append-drop}
use Rattle.pol_selcache.specs.Live.{number_of}
use Rattle.pol_taken.proofs.Adding.{every-parts, no_rows}
use Rattle.pol_taken.proofs.sets.rows_for.Goals as goal

pub loop-peer-init : goal.loop-peer-init
loop-peer-init c = no_rows c.args.cache.now.live c.new-rows.result c.new-rows.ensures.none

pub add_peer-requires : goal.add_peer-requires
add_peer-requires c =
    let all = c.args.peers.now in
    let i = c.loop-peer.peer-index in
    let item = c.peer-item.result in
    let within : i < length all = omega arith in
    let split : drop i all ≡ item ∷ drop (i + 1) all = drop_more all i item within ∙ ap (λ q. q ∷ drop (i + 1) all) (sym c.peer-item.is) in
    let parts = sym (map-append (λ p. p.now) (take i all) (drop i all)) ∙ ap (map (λ p. p.now)) (take-append-drop i all) in
    let others = (every-parts (λ p. IsSome (number_of p c.args.cache.now.live)) (map (λ p. p.now) (take i all)) (map (λ p. p.now) (drop i all))
    (subst (AllByRecursion (λ p. IsSome (number_of p c.args.cache.now.live))) (sym parts) c.requires.live)).1 in
    let here = subst (λ ps. AllByRecursion (λ p. IsSome (number_of p c.args.cache.now.live)) (map (λ p. p.now) ps)) split others in
    record { live = here.0 }
