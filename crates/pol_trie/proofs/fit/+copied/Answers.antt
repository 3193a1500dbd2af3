use Rattle.std.proofs.Common.{ℕ, ◌<◌, true, false, Option, Some, sym, subst, arith}
use Rattle.pol_trie.specs.Links.{child}
use Rattle.pol_trie.proofs.Stand.{depth}
use Rattle.pol_trie.proofs.Seeking.{shallower}
use Rattle.pol_trie.proofs.Calls.{well_here, used_here}
use Rattle.pol_trie.proofs.Copying.{CopiesAll, copies_at, fits_at, well_of, copies_none, fits_low, fits_high, low_is_well, high_is_well, room_left, copies_node}
use Rattle.pol_trie.proofs.fit.+copied.Goals as goal

pub returns-in_err-i : goal.returns-in_err-i
returns-in_err-i t c =
    let P : Option ℕ → Type 0 = λ o. CopiesAll c.args.from.now c.args.at c.args.to.now c.args.to.now o in
    subst P (sym c.from_residual.ensures) (copies_none c.args.from.now c.args.to.now c.args.at c.in_err-i.was)

pub get-node-requires : goal.get-node-requires
get-node-requires t c = record { in_use = used_here c.args.from.now c.in_ok-i.i (well_here c.args.from.now c.args.at c.in_ok-i.i c.in_ok-i.was (well_of c.args.from.now c.args.at c.args.to.now c.requires)) }

pub copied-low-requires : goal.copied-low-requires
copied-low-requires t c =
    let p = c.args.from.now in
    let i = c.in_ok-i.i in
    let n = c.get-node.result.now in
    let there = c.get-node.ensures.value in
    let w = fits_at p c.args.at (Some i) c.args.to.now c.in_ok-i.was c.requires in
    let D : Option ℕ → Type 0 = λ o. depth p (child n false) < depth p o in
    let less = subst D (sym c.in_ok-i.was) (shallower p i n false there (well_of p (Some i) c.args.to.now w)) in (
      rw c.child.ensures (omega (arith, less, c.decreases)),
      fits_at p (child n false) c.child.result c.args.to.now (sym c.child.ensures) (fits_low p i n there c.args.to.now w),
    )

pub copied-high-requires : goal.copied-high-requires
copied-high-requires t c =
    let p = c.args.from.now in
    let i = c.in_ok-i.i in
    let n = c.get-node.result.now in
    let there = c.get-node.ensures.value in
    let w = fits_at p c.args.at (Some i) c.args.to.now c.in_ok-i.was c.requires in
    let D : Option ℕ → Type 0 = λ o. depth p (child n true) < depth p o in
    let less = subst D (sym c.in_ok-i.was) (shallower p i n true there (well_of p (Some i) c.args.to.now w)) in
    let low = copies_at p c.child.result (child n false) c.args.to.now c.copied-low.new.to c.copied-low.result c.child.ensures c.copied-low.ensures in (
      rw c.child-2.ensures (omega (arith, less, c.decreases)),
      fits_at p (child n true) c.child-2.result c.copied-low.new.to (sym c.child-2.ensures) (fits_high p i n there c.args.to.now w c.copied-low.new.to c.copied-low.result low),
    )

pub link_fits-requires : goal.link_fits-requires
link_fits-requires t c =
    let p = c.args.from.now in
    let i = c.in_ok-i.i in
    let n = c.get-node.result.now in
    let w = fits_at p c.args.at (Some i) c.args.to.now c.in_ok-i.was c.requires in
    let low = copies_at p c.child.result (child n false) c.args.to.now c.copied-low.new.to c.copied-low.result c.child.ensures c.copied-low.ensures in
    let high = copies_at p c.child-2.result (child n true) c.copied-low.new.to c.copied-high.new.to c.copied-high.result c.child-2.ensures c.copied-high.ensures in
    low_is_well p i n c.get-node.ensures.value c.args.to.now w c.copied-low.new.to c.copied-high.new.to c.copied-low.result c.copied-high.result low high

pub link_fits-requires-2 : goal.link_fits-requires-2
link_fits-requires-2 t c =
    let p = c.args.from.now in
    let i = c.in_ok-i.i in
    let n = c.get-node.result.now in
    let w = fits_at p c.args.at (Some i) c.args.to.now c.in_ok-i.was c.requires in
    let low = copies_at p c.child.result (child n false) c.args.to.now c.copied-low.new.to c.copied-low.result c.child.ensures c.copied-low.ensures in
    let high = copies_at p c.child-2.result (child n true) c.copied-low.new.to c.copied-high.new.to c.copied-high.result c.child-2.ensures c.copied-high.ensures in
    high_is_well p i n c.get-node.ensures.value c.args.to.now w c.copied-low.new.to c.copied-high.new.to c.copied-low.result c.copied-high.result low high

pub add-requires : goal.add-requires
add-requires t c =
    let p = c.args.from.now in
    let i = c.in_ok-i.i in
    let n = c.get-node.result.now in
    let w = fits_at p c.args.at (Some i) c.args.to.now c.in_ok-i.was c.requires in
    let low = copies_at p c.child.result (child n false) c.args.to.now c.copied-low.new.to c.copied-low.result c.child.ensures c.copied-low.ensures in
    let high = copies_at p c.child-2.result (child n true) c.copied-low.new.to c.copied-high.new.to c.copied-high.result c.child-2.ensures c.copied-high.ensures in
    record {
      spare = room_left p i n c.get-node.ensures.value c.args.to.now w c.copied-low.new.to c.copied-high.new.to c.copied-low.result c.copied-high.result low high;
      below = c.link_fits.ensures;
      other = c.link_fits-2.ensures;
    }

pub returns : goal.returns
returns t c = λ x lo hi len h.
    let p = c.args.from.now in
    let i = c.in_ok-i.i in
    let n = c.get-node.result.now in
    let w = fits_at p c.args.at (Some i) c.args.to.now c.in_ok-i.was c.requires in
    let low = copies_at p c.child.result (child n false) c.args.to.now c.copied-low.new.to c.copied-low.result c.child.ensures c.copied-low.ensures in
    let high = copies_at p c.child-2.result (child n true) c.copied-low.new.to c.copied-high.new.to c.copied-high.result c.child-2.ensures c.copied-high.ensures in
    let a = c.add.ensures in
    copies_at p (Some i) c.args.at c.args.to.now c.add.new.nodes (Some c.add.result) (sym c.in_ok-i.was)
    (copies_node p i n c.get-node.ensures.value c.args.to.now w c.copied-low.new.to c.copied-high.new.to c.copied-low.result c.copied-high.result low high
    c.add.new.nodes c.add.result c.port.result c.kind.result c.port.ensures c.kind.ensures a.was_free a.updates a.count a.spare)
    x lo hi len h
