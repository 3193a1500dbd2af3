use Rattle.pol_judge.proofs.reasons.allow_places.Goals as goal

pub returns : goal.returns
returns c = rw c.allow_section-section.ensures at c.places_in.ensures
