use Rattle.board_tests.proofs.looks.looks.Given as goal

abbrev pub ghosts-look_by : goal.ghosts-look_by
ghosts-look_by g a = record { name = a.blank.name; parts = a.blank.parts }
