use Rattle.board_tests.proofs.looks.changes.Given as goal

abbrev pub ghosts-change : goal.ghosts-change
ghosts-change g a = record { name = a.blank.name; parts = a.blank.parts }
