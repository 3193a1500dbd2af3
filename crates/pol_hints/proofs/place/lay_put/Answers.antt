use Rattle.pol_hints.proofs.Steps.{is_bare, lays_put}
use Rattle.pol_hints.proofs.place.lay_put.Goals as goal

pub push_as-requires-clause-rule : goal.push_as-requires-clause-rule
push_as-requires-clause-rule g c = (lays_put _ _ _ _ c.requires.part c.requires.has c.requires.legal c.requires.room c.requires.more, is_bare _ _ c.requires.has)
