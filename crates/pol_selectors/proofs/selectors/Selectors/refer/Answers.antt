use Rattle.std.proofs.Common.{◌≡◌, ◌+◌, List, Some, slice_get, refl, ap, sym, subst, ◌∙◌}
use Rattle.pol_selectors.specs.declared.spots.Row.{Row}
use Rattle.pol_selectors.specs.declared.spots.Spot.{Spot}
use Rattle.pol_selectors.specs.Inside.{IsLiveAt, IsPutAt, live_in, live_of}
use Rattle.pol_selectors.specs.Live.{AreLive, one_more, with_count, with_reference}
use Rattle.pol_selectors.proofs.Kept.{table_changed}
use Rattle.pol_selectors.proofs.LiveLists.{reference_keeps}
use Rattle.pol_selectors.proofs.Placed.{own_row, put_live, put_numbers, put_own}
use Rattle.pol_selectors.proofs.selectors.Selectors.refer.Goals as goal

at : (c : goal.After-put_references) → IsLiveAt c.args.number c.self.inside.spots.items c.place_near-place.result
at c = subst (λ (spots : List Spot). IsLiveAt c.args.number spots c.place_near-place.result) c.as_slice.ensures.value c.place_near-place.ensures.place

more : (c : goal.After-put_references) → c.in-Some.more ≡ (at c).row.references + 1
more c =
    let told = rw c.in-Some.is at c.checked_add.ensures in
    let own = own_row c.args.number c.place_near-place.result c.self.inside.spots.items (at c) c.row_at.result.now
    (subst (λ (spots : List Spot). (spot : Spot) → slice_get spots c.place_near-place.result ≡ Some spot → spot.row ≡ Some c.row_at.result.now) c.as_slice-2.ensures.value c.row_at.ensures) in
    told.1 ∙ ap (λ (row : Row). row.references + 1) (sym own)

put : (c : goal.After-put_references) → IsPutAt c.place_near-place.result (Some (one_more (live_of c.args.number (at c).row))) c.self.inside.spots.items c.put_references.new.spots.items
put c =
    subst (λ count. IsPutAt c.place_near-place.result (Some (with_count count (live_of c.args.number (at c).row))) c.self.inside.spots.items c.put_references.new.spots.items) (more c)
    (put_own c.args.number c.place_near-place.result c.self.inside.spots.items c.put_references.new.spots.items (at c) (with_count c.in-Some.more) c.put_references.ensures)

is : (c : goal.After-put_references) → live_in c.put_references.new.spots.items ≡ with_reference c.args.number (live_in c.self.inside.spots.items)
is c = put_live c.args.number c.place_near-place.result c.self.inside.spots.items c.put_references.new.spots.items (at c) one_more c.self.invariant.live.numbers (put c)

pub invariant_of-self : goal.invariant_of-self
invariant_of-self c =
    table_changed c.args.number one_more (λ s. refl) (λ s. refl) c.self.inside.known.entries c.self.inside.spots.items c.put_references.new.spots.items c.self.inside.filing c.self.invariant
    (put_numbers _ _ _ _ (put c)) (is c) (subst AreLive (sym (is c)) (reference_keeps c.args.number (live_in c.self.inside.spots.items) c.self.invariant.live))

pub returns-in-Some-clause-referred : goal.returns-in-Some-clause-referred
returns-in-Some-clause-referred c = is c ∙ ap (with_reference c.args.number) c.self.view_is

pub returns-in-Some-clause-sound : goal.returns-in-Some-clause-sound
returns-in-Some-clause-sound c = (invariant_of-self c).live
