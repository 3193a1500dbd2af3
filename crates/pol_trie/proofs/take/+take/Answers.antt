use Rattle.std.proofs.Common.{ℕ, ◌+◌, ◌<◌, Option, None, is_some, sym, ap, subst, ◌∙◌, arith}
use Rattle.pol_trie.specs.Tree.{node_count, kind_in}
use Rattle.pol_trie.specs.Links.{child}
use Rattle.pol_trie.specs.Standing.{Stands, Holds, IsWell, Becomes}
use Rattle.pol_arena.specs.Pool.{node_at}
use Rattle.pol_trie.proofs.Prefixes.{half_lo, half_hi}
use Rattle.pol_trie.proofs.Stand.{not_below, unlinked_is_leaf, depth}
use Rattle.pol_trie.proofs.Putting.{with_kind, settled, here_changed, below_changed}
use Rattle.pol_trie.proofs.Seeking.{shallower, below_of, well_below}
use Rattle.pol_trie.proofs.Calls.{well_here, used_here, takes_below, absent, not_around, loose_of}
use Rattle.pol_trie.proofs.take.+take.Goals as goal

pub returns-in_err-i : goal.returns-in_err-i
returns-in_err-i t c = λ x lo hi len h.
    let P : Option ℕ → Type 0 = λ o. Stands (node_at c.args.nodes.now) o x in
    let B : Option ℕ → Type 0 = λ o. Becomes c.args.nodes.now c.args.nodes.now o (with_kind c.args.port.now None x) (node_count x) lo hi len in
    subst B (c.in_err-i.was ∙ sym c.from_residual.ensures)
    (absent c.args.nodes.now c.args.at c.args.port.now x lo hi len h (ap (λ y. kind_in y c.args.port.now) (unlinked_is_leaf (node_at c.args.nodes.now) x (subst P c.in_err-i.was h.stands))))

pub get-requires : goal.get-requires
get-requires t c = record { in_use = used_here c.args.nodes.now c.in_ok-i.i (well_here c.args.nodes.now c.args.at c.in_ok-i.i c.in_ok-i.was c.requires) }

pub set_kind-requires : goal.set_kind-requires
set_kind-requires t c = record { in_use = used_here c.args.nodes.now c.in_ok-i.i (well_here c.args.nodes.now c.args.at c.in_ok-i.i c.in_ok-i.was c.requires) }

pub settle-requires : goal.settle-requires
settle-requires t c =
    let p = c.args.nodes.now in
    let i = c.in_ok-i.i in
    let n = c.get.result.now in
    let w = well_here p c.args.at i c.in_ok-i.was c.requires in
    loose_of p c.set_kind.new.nodes i _ _ w.lo w.hi w.len _
    (here_changed p c.set_kind.new.nodes i n c.args.port.now None c.get.ensures.value (c.set_kind.ensures.updates n c.get.ensures.value) c.set_kind.ensures.count
    (sym c.same.ensures ∙ c.if-same.true) w.tree w.lo w.hi w.len w.holds)

pub returns-then-same : goal.returns-then-same
returns-then-same t c = λ x lo hi len h.
    let p = c.args.nodes.now in
    let i = c.in_ok-i.i in
    let n = c.get.result.now in
    let P : Option ℕ → Type 0 = λ o. Holds p o x lo hi len in
    let done = here_changed p c.set_kind.new.nodes i n c.args.port.now None c.get.ensures.value (c.set_kind.ensures.updates n c.get.ensures.value) c.set_kind.ensures.count
    (sym c.same.ensures ∙ c.if-same.true) x lo hi len (subst P c.in_ok-i.was h) in
    settled p c.set_kind.new.nodes c.settle.new.nodes i c.settle.result (with_kind c.args.port.now None x) (node_count x) lo hi len _ done
    (c.settle.ensures done.tree lo hi len done.holds)

pub returns-then-not-contains : goal.returns-then-not-contains
returns-then-not-contains t c = λ x lo hi len h.
    let p = c.args.nodes.now in
    let i = c.in_ok-i.i in
    let P : Option ℕ → Type 0 = λ o. Holds p o x lo hi len in
    absent p c.args.at c.args.port.now x lo hi len h
    (not_around p i c.get.result.now c.args.port.now x lo hi len c.get.ensures.value (subst P c.in_ok-i.was h) (sym c.contains.ensures ∙ c.if-not-contains.true))

pub take-below-requires : goal.take-below-requires
take-below-requires t c =
    let p = c.args.nodes.now in
    let i = c.in_ok-i.i in
    let n = c.get.result.now in
    let high = c.is_upper-high.result in
    let well = well_here p c.args.at i c.in_ok-i.was c.requires in
    let there = c.get.ensures.value in
    let less = shallower p i n high there well in
    let D : Option ℕ → Type 0 = λ o. depth p (child n high) < depth p o in
    let less' = subst D (sym c.in_ok-i.was) less in
    let W : Option ℕ → Type 0 = λ o. IsWell p o in
    (rw c.child.ensures (omega (arith, less', c.decreases)), subst W (sym c.child.ensures) (well_below p i n high there well))

pub link_fits-requires : goal.link_fits-requires
link_fits-requires t c =
    let p = c.args.nodes.now in
    let i = c.in_ok-i.i in
    let n = c.get.result.now in
    let high = c.is_upper-high.result in
    let there = c.get.ensures.value in
    let w = well_here p c.args.at i c.in_ok-i.was c.requires in
    let b = below_of p i n high w.tree w.lo w.hi w.len there w.holds in
    let from = half_lo n.port high in
    let to = half_hi n.port high in
    let P : Option ℕ → Type 0 = λ o. Holds p o b.below from to (n.port.len + 1) in
    let done = c.take-below.ensures b.below from to (n.port.len + 1) (subst P (sym c.child.ensures) b.holds) in
    record { tree = done.tree; lo = from; hi = to; len = n.port.len + 1; holds = done.holds }

pub link-requires : goal.link-requires
link-requires t c =
    let p = c.args.nodes.now in
    let i = c.in_ok-i.i in
    let n = c.get.result.now in
    let high = c.is_upper-high.result in
    let there = c.get.ensures.value in
    let w = well_here p c.args.at i c.in_ok-i.was c.requires in
    let b = below_of p i n high w.tree w.lo w.hi w.len there w.holds in
    let from = half_lo n.port high in
    let to = half_hi n.port high in
    let P : Option ℕ → Type 0 = λ o. Holds p o b.below from to (n.port.len + 1) in
    let done = c.take-below.ensures b.below from to (n.port.len + 1) (subst P (sym c.child.ensures) b.holds) in
    record { in_use = ap is_some (done.others i n there (not_below n.port from to)); fits = c.link_fits.ensures }

pub settle-requires-2 : goal.settle-requires-2
settle-requires-2 t c =
    let p = c.args.nodes.now in
    let i = c.in_ok-i.i in
    let w = well_here p c.args.at i c.in_ok-i.was c.requires in
    let n = c.get.result.now in
    let port = c.args.port.now in
    let high = c.is_upper-high.result in
    let from = half_lo n.port high in
    let to = half_hi n.port high in
    let within = takes_below n port high c.is_upper-high.ensures (sym c.contains.ensures ∙ c.if-not-contains.false) (sym c.same.ensures ∙ c.if-same.false) in
    let changed = below_changed p c.take-below.new.nodes c.link.new.nodes i n high c.take-below.result port None c.get.ensures.value c.link.ensures.updates c.link.ensures.count within.inside
    (λ y held.
    let Q : Option ℕ → Type 0 = λ o. Holds p o y from to (n.port.len + 1) in
    c.take-below.ensures y from to (n.port.len + 1) (subst Q (sym c.child.ensures) held)) in
    loose_of p c.link.new.nodes i _ _ w.lo w.hi w.len _ (changed w.tree w.lo w.hi w.len w.holds)

pub returns : goal.returns
returns t c = λ x lo hi len h.
    let p = c.args.nodes.now in
    let i = c.in_ok-i.i in
    let P : Option ℕ → Type 0 = λ o. Holds p o x lo hi len in
    let n = c.get.result.now in
    let port = c.args.port.now in
    let high = c.is_upper-high.result in
    let from = half_lo n.port high in
    let to = half_hi n.port high in
    let within = takes_below n port high c.is_upper-high.ensures (sym c.contains.ensures ∙ c.if-not-contains.false) (sym c.same.ensures ∙ c.if-same.false) in
    let changed = below_changed p c.take-below.new.nodes c.link.new.nodes i n high c.take-below.result port None c.get.ensures.value c.link.ensures.updates c.link.ensures.count within.inside
    (λ y held.
    let Q : Option ℕ → Type 0 = λ o. Holds p o y from to (n.port.len + 1) in
    c.take-below.ensures y from to (n.port.len + 1) (subst Q (sym c.child.ensures) held)) in
    let done = changed x lo hi len (subst P c.in_ok-i.was h) in
    settled p c.link.new.nodes c.settle-2.new.nodes i c.settle-2.result (with_kind c.args.port.now None x) (node_count x) lo hi len _ done
    (c.settle-2.ensures done.tree lo hi len done.holds)
