use Rattle.engine_tests.proofs.selectors.worn_uncounted.Given as goal

abbrev pub ghosts-told_when_worn : goal.ghosts-told_when_worn
ghosts-told_when_worn a = record { name = a.blank.name; parts = a.blank.parts }
