use Rattle.std.proofs.Common.{◌≤◌, drop, List, ap, sym, subst, ◌∙◌}
use Rattle.std.specs.List.{AllByRecursion}
use Rattle.pol_model.specs.Ascending.{Ascends}
use Rattle.pol_selectors.specs.declared.spots.Spot.{Spot}
use Rattle.pol_selectors.specs.Inside.{live_in, spot_numbers}
use Rattle.pol_selectors.proofs.Placed.{cut_ascends, cut_live}
use Rattle.pol_selectors.proofs.spots.cut.Goals as goal

pub returns-clause-live : goal.returns-clause-live
returns-clause-live c =
    let end = c.first_from-end.result in
    ap live_in c.truncate.ensures.items
    ∙ cut_live c.args.number c.args.spots.now.items end c.requires.above
    (subst (λ (spots : List Spot). AllByRecursion (λ m. c.args.number ≤ m) (spot_numbers (drop end spots))) c.deref.ensures.value c.first_from-end.ensures.from.rest)

pub returns-clause-ascend : goal.returns-clause-ascend
returns-clause-ascend c =
    subst (λ (spots : List Spot). Ascends (spot_numbers spots)) (sym c.truncate.ensures.items) (cut_ascends c.args.spots.now.items c.first_from-end.result c.requires.ascend)
