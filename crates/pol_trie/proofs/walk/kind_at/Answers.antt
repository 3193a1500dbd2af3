use Rattle.std.proofs.Common.{Option, ℕ, sym, subst, ◌∙◌}
use Rattle.pol_trie.specs.Standing.{IsWell}
use Rattle.pol_trie.proofs.Seeking.{LeadsTo, way_starts, way_on, way_ends, way_is_over, well_below, shallower}
use Rattle.pol_trie.proofs.Calls.{well_here, used_here}
use Rattle.pol_trie.proofs.walk.kind_at.Goals as goal

pub loop-at-init : goal.loop-at-init
loop-at-init c = record { well = c.requires; leads = way_starts c.args.nodes.now c.args.root c.args.port.now }

pub get-node-requires : goal.get-node-requires
get-node-requires c = record { in_use = used_here c.args.nodes.now c.in-Some.i (well_here c.args.nodes.now c.loop-at.at c.in-Some.i c.in-Some.is c.loop-at.invariant.well) }

pub returns-then-same : goal.returns-then-same
returns-then-same c =
    let L : Option ℕ → Type 0 = λ o. LeadsTo c.args.nodes.now c.args.root o c.args.port.now in
    λ t lo hi len h. c.kind.ensures
    ∙ way_ends c.args.nodes.now c.args.root c.in-Some.i c.get-node.result.now c.args.port.now c.get-node.ensures.value (sym c.same.ensures ∙ c.if-same.true) (subst L c.in-Some.is c.loop-at.invariant.leads) t lo hi len h

pub loop-at-smaller : goal.loop-at-smaller
loop-at-smaller c =
    let p = c.args.nodes.now in
    let i = c.in-Some.i in
    let well = well_here p c.loop-at.at i c.in-Some.is c.loop-at.invariant.well in
    rw (c.child-at.ensures, c.in-Some.is) (shallower p i c.get-node.result.now c.is_upper.result c.get-node.ensures.value well)

pub loop-at-preserved : goal.loop-at-preserved
loop-at-preserved c =
    let p = c.args.nodes.now in
    let i = c.in-Some.i in
    let n = c.get-node.result.now in
    let high = c.is_upper.result in
    let there = c.get-node.ensures.value in
    let W : Option ℕ → Type 0 = λ o. IsWell p o in
    let L : Option ℕ → Type 0 = λ o. LeadsTo p c.args.root o c.args.port.now in
    record {
      well = subst W (sym c.child-at.ensures) (well_below p i n high there (well_here p c.loop-at.at i c.in-Some.is c.loop-at.invariant.well));
      leads = subst L (sym c.child-at.ensures)
          (way_on p c.args.root i n c.args.port.now high c.is_upper.ensures there (sym c.same.ensures ∙ c.if-same.false) (subst L c.in-Some.is c.loop-at.invariant.leads));
    }

pub returns : goal.returns
returns c =
    let L : Option ℕ → Type 0 = λ o. LeadsTo c.args.nodes.now c.args.root o c.args.port.now in
    way_is_over c.args.nodes.now c.args.root c.args.port.now (subst L c.in_default.is c.loop-at.invariant.leads)
