use Rattle.std.proofs.Common.{◌≡◌, ◌-◌, ◌<◌, List, Some, slice_get, refl, ap, sym, subst, ◌∙◌, arith}
use Rattle.pol_selectors.specs.declared.spots.Row.{Row}
use Rattle.pol_selectors.specs.declared.spots.Spot.{Spot}
use Rattle.pol_selectors.specs.Inside.{IsLiveAt, IsPutAt, live_in, live_of}
use Rattle.pol_selectors.specs.Live.{AreLive, one_less, with_count, without_reference}
use Rattle.pol_selectors.proofs.Kept.{table_changed}
use Rattle.pol_selectors.proofs.LiveLists.{unreference_keeps}
use Rattle.pol_selectors.proofs.Placed.{own_row, put_live, put_lower, put_numbers, put_own, referenced_at, there_row}
use Rattle.pol_selectors.proofs.selectors.Selectors.unrefer.Goals as goal

-- the last reference
pub take_out-requires-clause-place : goal.take_out-requires-clause-place
take_out-requires-clause-place c =
    let found = there_row c.args.number c.place_near-place.result c.as_slice.result.now c.as_slice-2.result.now c.self.inside.spots.items c.row_at.result.now
    c.place_near-place.ensures.place c.as_slice.ensures.value c.row_at.ensures c.as_slice-2.ensures.value in
    record { there = found.0; last = ap (λ (row : Row). row.references) found.1 ∙ c.if-references-eq1.true }

-- another one
pub overflow_sub-references : goal.overflow_sub-references
overflow_sub-references c =
    let found = there_row c.args.number c.place_near-place.result c.as_slice.result.now c.as_slice-2.result.now c.self.inside.spots.items c.row_at.result.now
    c.place_near-place.ensures.place c.as_slice.ensures.value c.row_at.ensures c.as_slice-2.ensures.value in
    let some : 0 < c.row_at.result.now.references =
    subst (λ (row : Row). 0 < row.references) found.1 (referenced_at c.args.number c.place_near-place.result c.self.inside.spots.items found.0 c.self.invariant.live.referenced) in
    omega arith

at : (c : goal.After-put_references) → IsLiveAt c.args.number c.self.inside.spots.items c.place_near-place.result
at c = subst (λ (spots : List Spot). IsLiveAt c.args.number spots c.place_near-place.result) c.as_slice.ensures.value c.place_near-place.ensures.place

own : (c : goal.After-put_references) → (at c).row ≡ c.row_at.result.now
own c =
    own_row c.args.number c.place_near-place.result c.self.inside.spots.items (at c) c.row_at.result.now
    (subst (λ (spots : List Spot). (spot : Spot) → slice_get spots c.place_near-place.result ≡ Some spot → spot.row ≡ Some c.row_at.result.now) c.as_slice-2.ensures.value c.row_at.ensures)

put : (c : goal.After-put_references) → IsPutAt c.place_near-place.result (Some (one_less (live_of c.args.number (at c).row))) c.self.inside.spots.items c.put_references.new.spots.items
put c =
    subst (λ (row : Row). IsPutAt c.place_near-place.result (Some (with_count (row.references - 1) (live_of c.args.number (at c).row))) c.self.inside.spots.items c.put_references.new.spots.items) (sym (own c))
    (put_own c.args.number c.place_near-place.result c.self.inside.spots.items c.put_references.new.spots.items (at c) (with_count (c.row_at.result.now.references - 1)) c.put_references.ensures)

some : (c : goal.After-put_references) → 0 < (at c).row.references - 1
some c =
    let some_there = referenced_at c.args.number c.place_near-place.result c.self.inside.spots.items (at c) c.self.invariant.live.referenced in
    let same = ap (λ (row : Row). row.references) (own c) in
    omega arith

is : (c : goal.After-put_references) → live_in c.put_references.new.spots.items ≡ without_reference c.args.number (live_in c.self.inside.spots.items)
is c = put_lower c.args.number c.place_near-place.result c.self.inside.spots.items c.put_references.new.spots.items (at c) c.self.invariant.live.numbers c.self.invariant.live.referenced (some c) (put c)

pub invariant_of-self-else-references-eq1 : goal.invariant_of-self-else-references-eq1
invariant_of-self-else-references-eq1 c =
    table_changed c.args.number one_less (λ s. refl) (λ s. refl) c.self.inside.known.entries c.self.inside.spots.items c.put_references.new.spots.items c.self.inside.filing c.self.invariant
    (put_numbers _ _ _ _ (put c))
    (put_live c.args.number c.place_near-place.result c.self.inside.spots.items c.put_references.new.spots.items (at c) one_less c.self.invariant.live.numbers (put c))
    (subst AreLive (sym (is c)) (unreference_keeps c.args.number (live_in c.self.inside.spots.items) c.self.invariant.live))

pub returns-else-references-eq1-clause-dropped : goal.returns-else-references-eq1-clause-dropped
returns-else-references-eq1-clause-dropped c = is c ∙ ap (without_reference c.args.number) c.self.view_is

pub returns-else-references-eq1-clause-sound : goal.returns-else-references-eq1-clause-sound
returns-else-references-eq1-clause-sound c = (invariant_of-self-else-references-eq1 c).live
