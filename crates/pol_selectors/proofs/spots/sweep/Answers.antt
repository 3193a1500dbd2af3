use Rattle.std.proofs.Common.{List, is_some, ap, sym, subst, ◌∙◌}
use Rattle.pol_model.proofs.Ascents.{filter_ascends}
use Rattle.pol_model.specs.Ascending.{Ascends}
use Rattle.pol_selectors.specs.declared.spots.Spot.{Spot}
use Rattle.pol_selectors.specs.Inside.{live_in, spot_numbers}
use Rattle.pol_selectors.proofs.Placed.{swept}
use Rattle.pol_selectors.proofs.spots.sweep.Goals as goal

pub returns-then-len-live-clause-live : goal.returns-then-len-live-clause-live
returns-then-len-live-clause-live c = ap live_in c.sweep_all.ensures ∙ swept c.args.spots.now.items

pub returns-then-len-live-clause-ascend : goal.returns-then-len-live-clause-ascend
returns-then-len-live-clause-ascend c =
    subst (λ (spots : List Spot). Ascends (spot_numbers spots)) (sym c.sweep_all.ensures)
    (filter_ascends (λ (spot : Spot). spot.number) (λ spot. is_some spot.row) c.args.spots.now.items c.requires.ascend)
