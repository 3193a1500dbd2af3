use Rattle.std.proofs.Common.{◌++◌, ◌∷◌, [], List, Some, refl, ap, sym, subst, ◌∙◌}
use Rattle.pol_model.specs.Ascending.{Ascends}
use Rattle.pol_selectors.specs.declared.spots.Spot.{Spot}
use Rattle.pol_selectors.specs.Inside.{live_in, live_of, spot_numbers}
use Rattle.pol_selectors.specs.Live.{Live}
use Rattle.pol_selectors.proofs.Placed.{behind_ascends, behind_live}
use Rattle.pol_selectors.proofs.known.put_behind.Goals as goal

pub returns-clause-live : goal.returns-clause-live
returns-clause-live c =
    let spot : Spot = record { number = c.args.number; row = Some c.args.row } in
    ap live_in c.push_reserved.ensures.items
    ∙ behind_live c.cut.new.spots.items spot (live_of c.args.number c.args.row) refl
    ∙ ap (λ (live : List Live). live ++ live_of c.args.number c.args.row ∷ []) c.cut.ensures.live

pub returns-clause-ascend : goal.returns-clause-ascend
returns-clause-ascend c =
    let spot : Spot = record { number = c.args.number; row = Some c.args.row } in
    subst (λ (spots : List Spot). Ascends (spot_numbers spots)) (sym c.push_reserved.ensures.items) (behind_ascends c.cut.new.spots.items spot c.cut.ensures.ascend c.cut.ensures.below)
