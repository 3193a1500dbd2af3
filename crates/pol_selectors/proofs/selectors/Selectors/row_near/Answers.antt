use Rattle.std.proofs.Common.{List, ap, sym, subst, ◌∙◌}
use Rattle.pol_model.specs.Ascending.{Ascends}
use Rattle.pol_selectors.specs.declared.spots.Spot.{Spot}
use Rattle.pol_selectors.specs.Inside.{live_in, spot_numbers}
use Rattle.pol_selectors.specs.Live.{selector_of}
use Rattle.pol_selectors.proofs.Placed.{selected}
use Rattle.pol_selectors.proofs.selectors.Selectors.row_near.Goals as goal

pub returns-clause-row : goal.returns-clause-row
returns-clause-row c =
    let is = sym c.as_slice-spots.ensures.value in
    let ascend = subst (λ (spots : List Spot). Ascends (spot_numbers spots)) is c.self.invariant.ascend in
    let own = selected c.args.number c.place_near-place.result c.as_slice-spots.result.now c.place_near-place.ensures.place c.row_at.result.now ascend c.row_at.ensures in
    sym (ap (selector_of c.args.number) c.self.view_is) ∙ sym (ap (λ (spots : List Spot). selector_of c.args.number (live_in spots)) c.as_slice-spots.ensures.value) ∙ own
