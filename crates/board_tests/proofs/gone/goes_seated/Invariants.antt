use Rattle.board_tests.proofs.gone.goes_seated.Given as goal

abbrev pub ghosts-goes : goal.ghosts-goes
ghosts-goes g a = record { name = a.blank.name; parts = a.blank.parts }
