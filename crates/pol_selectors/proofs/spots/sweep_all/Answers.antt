use Rattle.std.proofs.Common.{is_some, rules}
use Rattle.std.proofs.lemmas.Fn.{filter_same}
use Rattle.pol_selectors.specs.declared.spots.Spot.{Spot}
use Rattle.pol_selectors.proofs.spots.sweep_all.Goals as goal

pub returns : goal.returns
returns c = filter_same _ (λ (spot : Spot). is_some spot.row) _ (λ x b f h. search rules) _ _ c.retain.ensures.filtered
