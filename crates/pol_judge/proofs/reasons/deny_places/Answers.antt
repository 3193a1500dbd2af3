use Rattle.pol_judge.proofs.reasons.deny_places.Goals as goal

pub returns : goal.returns
returns c = rw c.deny_section-section.ensures at c.places_in.ensures
