use Rattle.std.proofs.Common.{◌+◌, drop, map, refl, sym, ap, subst, ◌∙◌, arith}
use Rattle.std.proofs.lemmas.Result.{err_from_is_err_and}
use Rattle.serde_json.specs.View.{view, items_view, members_view}
use Rattle.pol_json.specs.Gives.{Finds}
use Rattle.pol_json.specs.Path.{fault_below}
use Rattle.pol_json.specs.Places.{named, numbered, places, under, unless_absent, below_items, below_members, first_found}
use Rattle.pol_json.specs.Table.{one, list_of, shape_of as shape_at}
use Rattle.pol_json.proofs.Steps.{leads_places, sound_leaf, there}
use Rattle.pol_json.proofs.Turns.{passed, stopped, item_turn, member_turn}
use Rattle.pol_json.proofs.walk.+walk.Goals as goal

pub walk_one-returns-then-is_sound_leaf : goal.walk_one-returns-then-is_sound_leaf
walk_one-returns-then-is_sound_leaf t c =
    rw (sound_leaf (named c.args.name.now) c.args.content (view c.args.value.now) (sym c.is_sound_leaf.ensures ∙ c.if-is_sound_leaf.true)) refl

pub walk_one-returns : goal.walk_one-returns
walk_one-returns t c =
    leads_places (named c.args.name.now) (one c.args.content) (one c.args.content) (view c.args.value.now)
    c.walk.result c.from_member.result refl c.walk.ensures c.from_member.ensures

pub walk_member-returns-in-One : goal.walk_member-returns-in-One
walk_member-returns-in-One t c =
    let d = view c.args.value.now in
    let step = named c.args.name.now in
    let at_table = shape_at c.args.kind c.args.name.now in
    there d (map (under step) (places at_table d)) c.is_null.result c.walk_one.result c.is_null.ensures c.if-is_null.false
    (subst (λ s. Finds (fault_below (first_found (map (under step) (places s d)))) c.walk_one.result) c.in-One.ensures c.walk_one.ensures)

pub walk_member-returns-in-List : goal.walk_member-returns-in-List
walk_member-returns-in-List t c =
    let d = view c.args.value.now in
    let at_table = shape_at c.args.kind c.args.name.now in
    there d (map (under (named c.args.name.now)) (places at_table d)) c.is_null.result c.from_member.result c.is_null.ensures c.if-is_null.false
    (leads_places (named c.args.name.now) (list_of c.in-List.content) at_table d c.walk_list.result c.from_member.result c.in-List.ensures c.walk_list.ensures c.from_member.ensures)

pub walk_item-returns : goal.walk_item-returns
walk_item-returns t c =
    leads_places (numbered c.args.index) (one c.args.content) (one c.args.content) (view c.args.value.now)
    c.walk.result c.from_item.result refl c.walk.ensures c.from_item.ensures

pub walk_items-returns-in_err-walk_item : goal.walk_items-returns-in_err-walk_item
walk_items-returns-in_err-walk_item t c =
    let vs = c.deref-value-items.result.now in
    let i = c.loop-index.index in
    let turn = item_turn c.args.content vs i c.value-item.result (omega arith) c.value-item.is in
    let p = err_from_is_err_and c.from_residual.result c.from_residual.ensures.1 in
    let all = c.deref-value-items.ensures.value in
    let so_far = ap (λ xs. first_found (below_items c.args.content 0 (items_view xs))) (sym all) ∙ c.loop-index.invariant ∙ ap first_found turn in
    stopped (map (under (numbered i)) (places (one c.args.content) (view c.value-item.result))) (below_items c.args.content (i + 1) (items_view (drop (i + 1) vs)))
    (first_found (below_items c.args.content 0 (items_view c.args.items.now.items))) c.in_err-walk_item.field-0.0 c.from_residual.result so_far c.in_err-walk_item.ensures (cc (p.1, p.2))

pub walk_items-loop-index-preserved : goal.walk_items-loop-index-preserved
walk_items-loop-index-preserved t c =
    let vs = c.deref-value-items.result.now in
    let i = c.loop-index.index in
    let turn = item_turn c.args.content vs i c.value-item.result (omega arith) c.value-item.is in
    passed (map (under (numbered i)) (places (one c.args.content) (view c.value-item.result))) (below_items c.args.content (i + 1) (items_view (drop (i + 1) vs)))
    (first_found (below_items c.args.content 0 (items_view vs))) (c.loop-index.invariant ∙ ap first_found turn) c.in_ok-walk_item.ensures

pub walk_members-loop-name-preserved : goal.walk_members-loop-name-preserved
walk_members-loop-name-preserved t c =
    let v = c.in-Some.value.now in
    let name = c.as_str.result.now in
    let turn = member_turn c.args.kind c.loop-name.name-iterator c.next.new.self (c.in-Some.name.now, v) name c.in-Some.ensures.steps c.as_str.ensures.value in
    passed (unless_absent (view v) (map (under (named name)) (places (shape_at c.args.kind name) (view v)))) (below_members c.args.kind (members_view c.next.new.self))
    (first_found (below_members c.args.kind (members_view c.args.members.now.entries))) (c.loop-name.invariant ∙ ap first_found turn) c.in_ok-walk_member.ensures

pub walk_members-returns-in_err-walk_member : goal.walk_members-returns-in_err-walk_member
walk_members-returns-in_err-walk_member t c =
    let v = c.in-Some.value.now in
    let name = c.as_str.result.now in
    let turn = member_turn c.args.kind c.loop-name.name-iterator c.next.new.self (c.in-Some.name.now, v) name c.in-Some.ensures.steps c.as_str.ensures.value in
    let p = err_from_is_err_and c.from_residual.result c.from_residual.ensures.1 in
    stopped (unless_absent (view v) (map (under (named name)) (places (shape_at c.args.kind name) (view v)))) (below_members c.args.kind (members_view c.next.new.self))
    (first_found (below_members c.args.kind (members_view c.args.members.now.entries))) c.in_err-walk_member.field-0.0 c.from_residual.result
    (c.loop-name.invariant ∙ ap first_found turn) c.in_err-walk_member.ensures (cc (p.1, p.2))
