use Rattle.board_tests.proofs.held.looks_meanwhile.Given as goal

abbrev pub ghosts-look_meanwhile : goal.ghosts-look_meanwhile
ghosts-look_meanwhile g a = record { name = a.blank.name; parts = a.blank.parts }
