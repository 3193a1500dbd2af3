use Rattle.std.proofs.Common.{Option, ℕ, sym, subst, ◌∙◌}
use Rattle.pol_trie.specs.Standing.{IsWell}
use Rattle.pol_trie.proofs.Seeking.{WalksTo, walk_starts, walk_on, walk_stops, walk_is_over, well_below, shallower}
use Rattle.pol_trie.proofs.Calls.{well_here, used_here}
use Rattle.pol_trie.proofs.walk.longest.Goals as goal

pub loop-at-init : goal.loop-at-init
loop-at-init g c = record { well = c.requires; walks = walk_starts c.args.nodes.now c.args.root c.args.port c.args.steps.now }

pub get-node-requires : goal.get-node-requires
get-node-requires g c = record { in_use = used_here c.args.nodes.now c.in-Some.i (well_here c.args.nodes.now c.loop-at.at c.in-Some.i c.in-Some.is c.loop-at.invariant.well) }

pub returns-then-not-holds-clause-kind : goal.returns-then-not-holds-clause-kind
returns-then-not-holds-clause-kind g c = λ t lo hi len h.
    let L : Option ℕ → Type 0 = λ o. WalksTo c.args.nodes.now c.args.root o c.args.port c.loop-at.best c.args.steps.now c.loop-at.steps in
    (walk_stops c.args.nodes.now c.args.root c.in-Some.i c.get-node.result.now c.args.port c.loop-at.best c.args.steps.now c.loop-at.steps c.get-node.ensures.value
    (sym c.holds.ensures ∙ c.if-not-holds.true) (subst L c.in-Some.is c.loop-at.invariant.walks) t lo hi len h).0

pub returns-then-not-holds-clause-cost : goal.returns-then-not-holds-clause-cost
returns-then-not-holds-clause-cost g c = λ t lo hi len h.
    let L : Option ℕ → Type 0 = λ o. WalksTo c.args.nodes.now c.args.root o c.args.port c.loop-at.best c.args.steps.now c.loop-at.steps in
    c.tick.ensures ∙ (walk_stops c.args.nodes.now c.args.root c.in-Some.i c.get-node.result.now c.args.port c.loop-at.best c.args.steps.now c.loop-at.steps c.get-node.ensures.value
    (sym c.holds.ensures ∙ c.if-not-holds.true) (subst L c.in-Some.is c.loop-at.invariant.walks) t lo hi len h).1

pub loop-at-smaller : goal.loop-at-smaller
loop-at-smaller g c =
    let p = c.args.nodes.now in
    let i = c.in-Some.i in
    let well = well_here p c.loop-at.at i c.in-Some.is c.loop-at.invariant.well in
    rw (c.child-at.ensures, c.in-Some.is) (shallower p i c.get-node.result.now c.is_upper.result c.get-node.ensures.value well)

pub loop-at-preserved : goal.loop-at-preserved
loop-at-preserved g c =
    let p = c.args.nodes.now in
    let i = c.in-Some.i in
    let n = c.get-node.result.now in
    let high = c.is_upper.result in
    let there = c.get-node.ensures.value in
    let before = c.args.steps.now in
    let W : Option ℕ → Type 0 = λ o. IsWell p o in
    let L : Option ℕ → Type 0 = λ o. WalksTo p c.args.root o c.args.port c.loop-at.best before c.loop-at.steps in
    let on = walk_on p c.args.root i n c.args.port c.loop-at.best before c.loop-at.steps high c.is_upper.ensures there (sym c.holds.ensures ∙ c.if-not-holds.false)
    (subst L c.in-Some.is c.loop-at.invariant.walks) in
    record {
      well = subst W (sym c.child-at.ensures) (well_below p i n high there (well_here p c.loop-at.at i c.in-Some.is c.loop-at.invariant.well));
      walks = rw (c.child-at.ensures, c.or-best.ensures, c.kind.ensures, c.tick.ensures) on;
    }

pub returns-clause-kind : goal.returns-clause-kind
returns-clause-kind g c = λ t lo hi len h.
    let L : Option ℕ → Type 0 = λ o. WalksTo c.args.nodes.now c.args.root o c.args.port c.loop-at.best c.args.steps.now c.loop-at.steps in
    (walk_is_over c.args.nodes.now c.args.root c.args.port c.loop-at.best c.args.steps.now c.loop-at.steps (subst L c.in_default.is c.loop-at.invariant.walks) t lo hi len h).0

pub returns-clause-cost : goal.returns-clause-cost
returns-clause-cost g c = λ t lo hi len h.
    let L : Option ℕ → Type 0 = λ o. WalksTo c.args.nodes.now c.args.root o c.args.port c.loop-at.best c.args.steps.now c.loop-at.steps in
    (walk_is_over c.args.nodes.now c.args.root c.args.port c.loop-at.best c.args.steps.now c.loop-at.steps (subst L c.in_default.is c.loop-at.invariant.walks) t lo hi len h).1
