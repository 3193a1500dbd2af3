use Rattle.std.proofs.Common.{◌≡◌, List, Some, refl, ap, sym, subst, ◌∙◌}
use Rattle.std.specs.Arc.{arc_value}
use Rattle.pol_selectors.specs.declared.spots.Spot.{Spot}
use Rattle.pol_selectors.specs.Inside.{IsLiveAt, IsPutAt, live_in, live_of}
use Rattle.pol_selectors.specs.Live.{AreLive, with_numbers, with_set}
use Rattle.pol_selectors.proofs.Kept.{table_changed}
use Rattle.pol_selectors.proofs.LiveLists.{set_keeps}
use Rattle.pol_selectors.proofs.Placed.{put_live, put_numbers, put_own}
use Rattle.pol_selectors.proofs.selectors.Selectors.put_set.Goals as goal

at : (c : goal.After-put_set) → IsLiveAt c.args.number c.self.inside.spots.items c.place_near-place.result
at c = subst (λ (spots : List Spot). IsLiveAt c.args.number spots c.place_near-place.result) c.as_slice.ensures.value c.place_near-place.ensures.place

put : (c : goal.After-put_set) → IsPutAt c.place_near-place.result (Some (with_numbers (arc_value c.args.set) (live_of c.args.number (at c).row))) c.self.inside.spots.items c.put_set.new.spots.items
put c = put_own c.args.number c.place_near-place.result c.self.inside.spots.items c.put_set.new.spots.items (at c) (with_numbers (arc_value c.args.set)) c.put_set.ensures

is : (c : goal.After-put_set) → live_in c.put_set.new.spots.items ≡ with_set c.args.number (arc_value c.args.set) (live_in c.self.inside.spots.items)
is c = put_live c.args.number c.place_near-place.result c.self.inside.spots.items c.put_set.new.spots.items (at c) (with_numbers (arc_value c.args.set)) c.self.invariant.live.numbers (put c)

pub invariant_of-self : goal.invariant_of-self
invariant_of-self c =
    table_changed c.args.number (with_numbers (arc_value c.args.set)) (λ s. refl) (λ s. refl) c.self.inside.known.entries c.self.inside.spots.items c.put_set.new.spots.items c.self.inside.filing c.self.invariant
    (put_numbers _ _ _ _ (put c)) (is c) (subst AreLive (sym (is c)) (set_keeps c.args.number (arc_value c.args.set) (live_in c.self.inside.spots.items) c.self.invariant.live))

pub returns-clause-put : goal.returns-clause-put
returns-clause-put c = is c ∙ ap (with_set c.args.number (arc_value c.args.set)) c.self.view_is

pub returns-clause-sound : goal.returns-clause-sound
returns-clause-sound c = (invariant_of-self c).live
