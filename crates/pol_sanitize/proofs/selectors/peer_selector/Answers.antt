use Rattle.std.proofs.Common.{List, not, ap, ◌∙◌}
use Rattle.pol_labels.specs.WellFormed.{all_well_formed}
use Rattle.pol_labels.specs.declared.requirement.Requirement.{Requirement}
use Rattle.pol_sanitize.proofs.Bound.{peer_formed}
use Rattle.pol_sanitize.proofs.Found.{found_after}
use Rattle.pol_sanitize.proofs.selectors.peer_selector.Goals as goal

pub returns-clause-fault : goal.returns-clause-fault
returns-clause-fault c =
    let formed = ap (λ (xs : List Requirement). not (all_well_formed xs)) c.in_ok-bind_peer.ensures in
    let same = formed ∙ ap not (peer_formed c.args.key.now c.args.selector.now) in
    found_after c.args.location _ _ _ _ c.selector_from.result c.in_ok-requirements.ensures.fault same c.selector_from.ensures.fault
