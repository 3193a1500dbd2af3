use Rattle.engine_tests.proofs.selectors.told_uncounted.Given as goal

abbrev pub ghosts-told : goal.ghosts-told
ghosts-told a = record { name = a.blank.name; parts = a.blank.parts }
