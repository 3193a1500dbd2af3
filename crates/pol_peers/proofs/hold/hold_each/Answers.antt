use Rattle.std.proofs.Common.{◌≡◌, ◌+◌, ◌*◌, ◌<◌, ◌≤◌, ◌++◌, [], ◌∷◌, drop, length, map, take, sym, ap, ◌∙◌, subst, arith}
use Rattle.std.proofs.lemmas.List.{append_assoc, drop_more, map-append, take-append-drop, take_more}
use Rattle.pol_selcache.specs.Cache.{Cache}
use Rattle.pol_selcache.specs.Held.{steps_of}
use Rattle.pol_selcache.proofs.Judged.{judged_at_most}
use Rattle.pol_peers.specs.Numbering.{LosesRefs}
use Rattle.pol_peers.specs.References.{IsMoreBy}
use Rattle.pol_peers.proofs.Counts.{has_more, more_joined, undone}
use Rattle.pol_peers.proofs.Costs.{cost_more, cost_of_all}
use Rattle.pol_peers.proofs.Holds.{added_more}
use Rattle.pol_peers.proofs.Refs.{ref_gained, refs_gained_further, refs_given_back}
use Rattle.pol_peers.proofs.hold.hold_each.Goals as goal

pub drop_each-requires : goal.drop_each-requires
drop_each-requires g c = record {
  held = rw c.in-Err.ensures.err (has_more (map (λ p. p.now) (take c.loop-i.i c.args.peers.now)) c.args.cache.now.live c.loop-i.cache.live c.loop-i.invariant.more);
}

pub returns-in-Err-clause-err : goal.returns-in-Err-clause-err
returns-in-Err-clause-err g c =
    let first = map (λ p. p.now) (take c.loop-i.i c.args.peers.now) in
    undone first c.args.cache.now.live c.loop-i.cache.live c.drop_each.new.cache.live c.loop-i.invariant.more
    (subst (λ (cache : Cache). IsMoreBy first c.drop_each.new.cache.live cache.live) c.in-Err.ensures.err c.drop_each.ensures.dropped)

pub returns-in-Err-clause-gains : goal.returns-in-Err-clause-gains
returns-in-Err-clause-gains g c =
    let first = map (λ p. p.now) (take c.loop-i.i c.args.peers.now) in
    refs_given_back first c.args.identities.now c.args.cache.now c.loop-i.cache c.drop_each.new.cache c.requires.sound.live c.loop-i.invariant.gains c.loop-i.invariant.more
    (subst (λ (cache : Cache). LosesRefs cache c.drop_each.new.cache) c.in-Err.ensures.err c.drop_each.ensures.loses)
    (subst (λ (cache : Cache). IsMoreBy first c.drop_each.new.cache.live cache.live) c.in-Err.ensures.err c.drop_each.ensures.dropped)

pub returns-in-Err-clause-cost : goal.returns-in-Err-clause-cost
returns-in-Err-clause-cost g c =
    let all = c.args.peers.now in
    let i = c.loop-i.i in
    let p = c.index-peers-i.result in
    let rows = length c.args.identities.now in
    let first = map (λ p. p.now) (take i all) in
    let others = map (λ p. p.now) (drop (i + 1) all) in
    let within : i < length all = omega arith in
    let split : drop i all ≡ p ∷ drop (i + 1) all = drop_more all i p within ∙ ap (λ q. q ∷ drop (i + 1) all) (sym c.index-peers-i.is) in
    let whole = append_assoc first (p.now ∷ []) others
    ∙ ap (λ ps. first ++ map (λ p. p.now) ps) (sym split)
    ∙ sym (map-append (λ p. p.now) (take i all) (drop i all))
    ∙ ap (map (λ p. p.now)) (take-append-drop i all) in
    let one : c.add.new.steps ≤ c.loop-i.steps + steps_of p.now * rows = omega (arith, c.add.ensures.cost, judged_at_most c.args.identities.now p.now) in
    cost_of_all (first ++ p.now ∷ []) others (map (λ p. p.now) all) rows c.args.steps.now c.add.new.steps whole
    (cost_more first p.now rows c.args.steps.now c.loop-i.steps c.add.new.steps c.loop-i.invariant.cost one)

pub loop-i-preserved : goal.loop-i-preserved
loop-i-preserved g c =
    let all = c.args.peers.now in
    let i = c.loop-i.i in
    let p = c.index-peers-i.result in
    let within : i < length all = omega arith in
    let taken : take (i + 1) all ≡ take i all ++ p ∷ [] = take_more all i p within ∙ ap (λ q. take i all ++ q ∷ []) (sym c.index-peers-i.is) in
    let shown = ap (map (λ p. p.now)) taken ∙ map-append (λ p. p.now) (take i all) (p ∷ []) in
    let first = map (λ p. p.now) (take i all) in
    let rows = c.args.identities.now in
    let one_more : IsMoreBy (p.now ∷ []) c.loop-i.cache.live c.add.new.self.live = rw c.in-Ok.ensures.added (added_more p.now rows c.loop-i.cache c.loop-i.invariant.sound.live) in
    let one : c.add.new.steps ≤ c.loop-i.steps + steps_of p.now * length rows = omega (arith, c.add.ensures.cost, judged_at_most rows p.now) in
    record {
      sound = c.add.ensures.sound;
      more = rw shown (more_joined first (p.now ∷ []) c.args.cache.now.live c.loop-i.cache.live c.add.new.self.live c.loop-i.invariant.more one_more);
      gains = refs_gained_further rows c.args.cache.now c.loop-i.cache c.add.new.self c.loop-i.invariant.gains (ref_gained p.now rows c.loop-i.cache c.add.new.self c.in-Ok.ensures.added c.add.ensures.exact);
      cost = rw shown (cost_more first p.now (length rows) c.args.steps.now c.loop-i.steps c.add.new.steps c.loop-i.invariant.cost one);
    }
