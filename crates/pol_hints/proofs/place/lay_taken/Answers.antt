use Rattle.pol_hints.proofs.Steps.{is_bare, lays_taken}
use Rattle.pol_hints.proofs.place.lay_taken.Goals as goal

pub push_as-requires-clause-rule : goal.push_as-requires-clause-rule
push_as-requires-clause-rule g c = (lays_taken _ _ _ _ _ c.requires.part c.requires.has c.requires.legal c.requires.room c.requires.first, is_bare _ _ c.requires.has)
