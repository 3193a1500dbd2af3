use Rattle.std.proofs.Common.{◌≡◌, ℕ, ◌+◌, ◌<◌, Option, Some, is_some, IsSome, refl, sym, ap, subst, ◌∙◌, arith}
use Rattle.pol_arena.specs.Pool.{node_at}
use Rattle.pol_ports.specs.declared.PortPrefix.{PortPrefix}
use Rattle.pol_trie.specs.Tree.{kind_in, node_count}
use Rattle.pol_trie.specs.Links.{child}
use Rattle.pol_trie.specs.Standing.{Stands, Holds, HasRoom, IsBelow}
use Rattle.pol_trie.proofs.Prefixes.{half_lo, half_hi}
use Rattle.pol_trie.proofs.Stand.{not_below, unlinked_is_leaf, depth}
use Rattle.pol_trie.proofs.Putting.{with_kind, becomes, here_changed, below_changed, leaf_put}
use Rattle.pol_trie.proofs.Seeking.{shallower, below_of, kind_in-side, way_starts, way_ends}
use Rattle.pol_trie.proofs.Calls.{well_here, room_here, well_of, used_here, room_at_none, room_below, is_below, not_around, takes_below}
use Rattle.pol_trie.proofs.put.+put.Goals as goal

pub add-requires : goal.add-requires
add-requires t c = (let two = room_at_none c.args.nodes.now c.args.at c.args.port c.in_default.is c.requires in record { spare = omega arith; below = tt; other = tt })

pub returns-in_default-clause-put : goal.returns-in_default-clause-put
returns-in_default-clause-put t c = λ x lo hi len h takes.
    let a = c.add.ensures in
    let P : Option ℕ → Type 0 = λ o. Holds c.args.nodes.now o x lo hi len in
    leaf_put c.args.nodes.now c.add.new.nodes c.add.result c.args.port c.args.kind a.was_free a.updates a.count x lo hi len (subst P c.in_default.is h) takes.inside

pub get-requires : goal.get-requires
get-requires t c =
    record { in_use = used_here c.args.nodes.now c.in-Some.i (well_here c.args.nodes.now c.args.at c.in-Some.i c.in-Some.is (well_of c.args.nodes.now c.args.at c.args.port c.requires)) }

pub returns-then-same-clause-put : goal.returns-then-same-clause-put
returns-then-same-clause-put t c = λ x lo hi len h takes.
    let i = c.in-Some.i in
    let n = c.get.result.now in
    let P : Option ℕ → Type 0 = λ o. Holds c.args.nodes.now o x lo hi len in
    becomes c.args.nodes.now c.set_kind.new.nodes i (with_kind c.args.port (Some c.args.kind) x) (node_count x) lo hi len (IsSome (Some c.args.kind)) refl
    (here_changed c.args.nodes.now c.set_kind.new.nodes i n c.args.port (Some c.args.kind) c.get.ensures.value (c.set_kind.ensures.updates n c.get.ensures.value) c.set_kind.ensures.count
    (sym c.same.ensures ∙ c.if-same.true) x lo hi len (subst P c.in-Some.is h))

pub put_over-requires : goal.put_over-requires
put_over-requires t c =
    let n = c.get.result.now in
    let P : PortPrefix → Type 0 = λ x. IsBelow c.args.nodes.now c.in-Some.i x c.args.port in
    record {
      below = subst P (sym c.port.ensures)
          (is_below c.args.nodes.now c.in-Some.i n c.args.port c.get.ensures.value (room_here c.args.nodes.now c.args.at c.in-Some.i c.args.port c.in-Some.is c.requires)
          (sym c.contains.ensures ∙ c.if-not-contains.true));
    }

pub returns-then-not-contains-clause-put : goal.returns-then-not-contains-clause-put
returns-then-not-contains-clause-put t c = λ x lo hi len h takes.
    let P : Option ℕ → Type 0 = λ o. Holds c.args.nodes.now o x lo hi len in
    c.put_over.ensures x lo hi len (subst P c.in-Some.is h) takes

pub put-below-requires : goal.put-below-requires
put-below-requires t c =
    let p = c.args.nodes.now in
    let i = c.in-Some.i in
    let n = c.get.result.now in
    let high = c.is_upper-high.result in
    let room = room_here p c.args.at i c.args.port c.in-Some.is c.requires in
    let there = c.get.ensures.value in
    let less = shallower p i n high there (well_of p (Some i) c.args.port room) in
    let D : Option ℕ → Type 0 = λ o. depth p (child n high) < depth p o in
    let less' = subst D (sym c.in-Some.is) less in
    let R : Option ℕ → Type 0 = λ o. HasRoom p o c.args.port in (
      rw c.child.ensures (omega (arith, less', c.decreases)),
      subst R (sym c.child.ensures) (room_below p i n c.args.port high there room (sym c.contains.ensures ∙ c.if-not-contains.false) (sym c.same.ensures ∙ c.if-same.false) c.is_upper-high.ensures),
    )

pub link_fits-requires : goal.link_fits-requires
link_fits-requires t c =
    let p = c.args.nodes.now in
    let i = c.in-Some.i in
    let n = c.get.result.now in
    let port = c.args.port in
    let high = c.is_upper-high.result in
    let there = c.get.ensures.value in
    let room = room_here p c.args.at i port c.in-Some.is c.requires in
    let b = below_of p i n high room.tree room.lo room.hi room.len there room.holds in
    let from = half_lo n.port high in
    let to = half_hi n.port high in
    let P : Option ℕ → Type 0 = λ o. Holds p o b.below from to (n.port.len + 1) in
    let takes = takes_below n port high c.is_upper-high.ensures (sym c.contains.ensures ∙ c.if-not-contains.false) (sym c.same.ensures ∙ c.if-same.false) in
    let done = c.put-below.ensures.put b.below from to (n.port.len + 1) (subst P (sym c.child.ensures) b.holds) takes in
    record { tree = done.tree; lo = from; hi = to; len = n.port.len + 1; holds = done.holds }

pub link-requires : goal.link-requires
link-requires t c =
    let p = c.args.nodes.now in
    let i = c.in-Some.i in
    let n = c.get.result.now in
    let port = c.args.port in
    let high = c.is_upper-high.result in
    let there = c.get.ensures.value in
    let room = room_here p c.args.at i port c.in-Some.is c.requires in
    let b = below_of p i n high room.tree room.lo room.hi room.len there room.holds in
    let from = half_lo n.port high in
    let to = half_hi n.port high in
    let P : Option ℕ → Type 0 = λ o. Holds p o b.below from to (n.port.len + 1) in
    let takes = takes_below n port high c.is_upper-high.ensures (sym c.contains.ensures ∙ c.if-not-contains.false) (sym c.same.ensures ∙ c.if-same.false) in
    let done = c.put-below.ensures.put b.below from to (n.port.len + 1) (subst P (sym c.child.ensures) b.holds) takes in
    record { in_use = ap is_some (done.others i n there (not_below n.port from to)); fits = c.link_fits.ensures }

pub returns-clause-put : goal.returns-clause-put
returns-clause-put t c = λ x lo hi len h takes.
    let p = c.args.nodes.now in
    let i = c.in-Some.i in
    let n = c.get.result.now in
    let port = c.args.port in
    let high = c.is_upper-high.result in
    let from = half_lo n.port high in
    let to = half_hi n.port high in
    let P : Option ℕ → Type 0 = λ o. Holds p o x lo hi len in
    let within = takes_below n port high c.is_upper-high.ensures (sym c.contains.ensures ∙ c.if-not-contains.false) (sym c.same.ensures ∙ c.if-same.false) in
    becomes p c.link.new.nodes i (with_kind port (Some c.args.kind) x) (node_count x) lo hi len ((y : ℕ) × (Some c.put-below.result.0 ≡ Some y)) (c.put-below.result.0, refl)
    (below_changed p c.put-below.new.nodes c.link.new.nodes i n high (Some c.put-below.result.0) port (Some c.args.kind) c.get.ensures.value c.link.ensures.updates c.link.ensures.count within.inside
    (λ y held.
    let Q : Option ℕ → Type 0 = λ o. Holds p o y from to (n.port.len + 1) in
    c.put-below.ensures.put y from to (n.port.len + 1) (subst Q (sym c.child.ensures) held) within) x lo hi len (subst P c.in-Some.is h))

pub returns-in_default-clause-had : goal.returns-in_default-clause-had
returns-in_default-clause-had t c = λ x lo hi len h.
    let P : Option ℕ → Type 0 = λ o. Stands (node_at c.args.nodes.now) o x in
    sym (ap (λ y. kind_in y c.args.port) (unlinked_is_leaf (node_at c.args.nodes.now) x (subst P c.in_default.is h.stands)))

pub returns-then-same-clause-had : goal.returns-then-same-clause-had
returns-then-same-clause-had t c = λ x lo hi len h.
    let p = c.args.nodes.now in
    let i = c.in-Some.i in
    let P : Option ℕ → Type 0 = λ o. Holds p o x lo hi len in
    c.kind.ensures
    ∙ way_ends p (Some i) i c.get.result.now c.args.port c.get.ensures.value (sym c.same.ensures ∙ c.if-same.true) (way_starts p (Some i) c.args.port) x lo hi len (subst P c.in-Some.is h)

pub returns-then-not-contains-clause-had : goal.returns-then-not-contains-clause-had
returns-then-not-contains-clause-had t c = λ x lo hi len h.
    let p = c.args.nodes.now in
    let i = c.in-Some.i in
    let P : Option ℕ → Type 0 = λ o. Holds p o x lo hi len in
    sym (not_around p i c.get.result.now c.args.port x lo hi len c.get.ensures.value (subst P c.in-Some.is h) (sym c.contains.ensures ∙ c.if-not-contains.true))

pub returns-clause-had : goal.returns-clause-had
returns-clause-had t c = λ x lo hi len h.
    let p = c.args.nodes.now in
    let i = c.in-Some.i in
    let n = c.get.result.now in
    let port = c.args.port in
    let high = c.is_upper-high.result in
    let P : Option ℕ → Type 0 = λ o. Holds p o x lo hi len in
    let b = below_of p i n high x lo hi len c.get.ensures.value (subst P c.in-Some.is h) in
    let from = half_lo n.port high in
    let to = half_hi n.port high in
    let Q : Option ℕ → Type 0 = λ o. Holds p o b.below from to (n.port.len + 1) in
    c.put-below.ensures.had b.below from to (n.port.len + 1) (subst Q (sym c.child.ensures) b.holds)
    ∙ sym (ap (λ y. kind_in y port) b.is ∙ kind_in-side n.port n.kind high b.below b.other port (sym c.same.ensures ∙ c.if-same.false) (sym c.is_upper-high.ensures))
