use Rattle.std.proofs.Common.{◌+◌, ◌<◌, ◌^◌, length, sym, ap, subst, ◌∙◌, arith}
use Rattle.std.specs.BinaryHeap.{heap_capacity, heap_items}
use Rattle.indexmap.proofs.CallerLemmas.{insert_entry-new}
use Rattle.pol_interner.specs.Slots.{HasNone, free_place}
use Rattle.pol_interner.specs.Tied.{IsFreeOf, all_shown}
use Rattle.pol_interner.proofs.Added.{grown-free, grown-room, grown-shown, grown-tied, popped-free, popped-room, popped-shown, popped-tied, popped_within}
use Rattle.pol_interner.proofs.Shown.{none-found, wider-room}
use Rattle.pol_interner.proofs.interner.Interner.add.Goals as goal

pub index_mut-requires : goal.index_mut-requires
index_mut-requires g c =
    let room = c.in_ok-make_room.ensures in
    let is : IsFreeOf (heap_items c.make_room.new.free) (all_shown c.self.inside.places.entries c.self.inside.slots.items) = rw room.free c.self.invariant.1 in
    let within = popped_within _ _ c.args.key _ c.self.invariant.0 _ _ _ _ is c.self.invariant.2 (c.free_place-place.ensures ∙ ap free_place (sym c.self.view_is)) c.in-Some.ensures.permutation c.in-Some.ensures.heap_order in
    omega (arith, within, c.make_room.new.slots.ok.0, ap length room.slots)

pub invariant_of-self-in-Some : goal.invariant_of-self-in-Some
invariant_of-self-in-Some g c =
    let room = c.in_ok-make_room.ensures in
    let is : IsFreeOf (heap_items c.make_room.new.free) (all_shown c.self.inside.places.entries c.self.inside.slots.items) = rw room.free c.self.invariant.1 in
    let least = c.free_place-place.ensures ∙ ap free_place (sym c.self.view_is) in
    let none = none-found g.K.PartialEq.eq _ _ c.args.key c.self.invariant.0 (subst (HasNone g.K.PartialEq.eq c.args.key) (sym c.self.view_is) c.requires.absent) in
    let pop = c.in-Some.ensures in
    rw (c.in_ok-insert.ensures.entries, insert_entry-new g.K.PartialEq.eq c.self.inside.places c.args.key c.free_place-place.result none, room.slots, c.len.ensures.len) (
      popped-tied _ _ c.args.key _ c.self.invariant.0 _ _ _ _ is c.self.invariant.2 least pop.permutation pop.heap_order,
      popped-free _ _ c.args.key _ c.self.invariant.0 _ _ _ _ is c.self.invariant.2 least pop.permutation pop.heap_order,
      wider-room _ _ _ (popped-room _ _ c.args.key _ c.self.invariant.0 _ _ _ _ is c.self.invariant.2 least pop.permutation pop.heap_order) (omega (arith, room.capacity, pop.capacity)),
    )

pub invariant_of-self-in-None : goal.invariant_of-self-in-None
invariant_of-self-in-None g c =
    let room = c.in_ok-make_room.ensures in
    let is : IsFreeOf (heap_items c.make_room.new.free) (all_shown c.self.inside.places.entries c.self.inside.slots.items) = rw room.free c.self.invariant.1 in
    let least = c.free_place-place.ensures ∙ ap free_place (sym c.self.view_is) in
    let none = none-found g.K.PartialEq.eq _ _ c.args.key c.self.invariant.0 (subst (HasNone g.K.PartialEq.eq c.args.key) (sym c.self.view_is) c.requires.absent) in
    let pop = c.in-None.ensures in
    let empty = sym c.make_room.new.free.data.ok.0 ∙ pop.none in
    let covered : length c.self.inside.slots.items < heap_capacity c.make_room.new.free = omega (arith, room.free_room, ap length room.slots) in
    let fits : c.free_place-place.result + 1 < 2 ^ 32 = omega (arith, c.requires.fits, c.free_place-place.ensures) in
    rw (c.in_ok-insert.ensures.entries, insert_entry-new g.K.PartialEq.eq c.self.inside.places c.args.key c.free_place-place.result none, c.push_reserved.ensures.items, room.slots, c.len.ensures.len, pop.unchanged.0) (
      grown-tied _ _ c.args.key _ c.self.invariant.0 _ (heap_capacity c.make_room.new.free) is least empty covered fits,
      grown-free _ _ c.args.key _ c.self.invariant.0 _ (heap_capacity c.make_room.new.free) is least empty covered fits,
      wider-room _ _ _ (grown-room _ _ c.args.key _ c.self.invariant.0 _ (heap_capacity c.make_room.new.free) is least empty covered fits) (omega (arith, pop.capacity)),
    )

pub returns-in-Some-clause-ok : goal.returns-in-Some-clause-ok
returns-in-Some-clause-ok g c =
    let room = c.in_ok-make_room.ensures in
    let is : IsFreeOf (heap_items c.make_room.new.free) (all_shown c.self.inside.places.entries c.self.inside.slots.items) = rw room.free c.self.invariant.1 in
    let least = c.free_place-place.ensures ∙ ap free_place (sym c.self.view_is) in
    let none = none-found g.K.PartialEq.eq _ _ c.args.key c.self.invariant.0 (subst (HasNone g.K.PartialEq.eq c.args.key) (sym c.self.view_is) c.requires.absent) in
    let pop = c.in-Some.ensures in
    rw (← c.self.view_is, c.in_ok-insert.ensures.entries, insert_entry-new g.K.PartialEq.eq c.self.inside.places c.args.key c.free_place-place.result none, room.slots, c.len.ensures.len)
    (popped-shown _ _ c.args.key _ c.self.invariant.0 _ _ _ _ is c.self.invariant.2 least pop.permutation pop.heap_order)

pub returns-in-None-clause-ok : goal.returns-in-None-clause-ok
returns-in-None-clause-ok g c =
    let room = c.in_ok-make_room.ensures in
    let is : IsFreeOf (heap_items c.make_room.new.free) (all_shown c.self.inside.places.entries c.self.inside.slots.items) = rw room.free c.self.invariant.1 in
    let least = c.free_place-place.ensures ∙ ap free_place (sym c.self.view_is) in
    let none = none-found g.K.PartialEq.eq _ _ c.args.key c.self.invariant.0 (subst (HasNone g.K.PartialEq.eq c.args.key) (sym c.self.view_is) c.requires.absent) in
    let pop = c.in-None.ensures in
    let empty = sym c.make_room.new.free.data.ok.0 ∙ pop.none in
    let covered : length c.self.inside.slots.items < heap_capacity c.make_room.new.free = omega (arith, room.free_room, ap length room.slots) in
    let fits : c.free_place-place.result + 1 < 2 ^ 32 = omega (arith, c.requires.fits, c.free_place-place.ensures) in
    rw (← c.self.view_is, c.in_ok-insert.ensures.entries, insert_entry-new g.K.PartialEq.eq c.self.inside.places c.args.key c.free_place-place.result none, c.push_reserved.ensures.items, room.slots, c.len.ensures.len)
    (grown-shown _ _ c.args.key _ c.self.invariant.0 _ (heap_capacity c.make_room.new.free) is least empty covered fits)
