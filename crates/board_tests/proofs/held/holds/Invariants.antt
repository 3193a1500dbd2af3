use Rattle.board_tests.proofs.held.holds.Given as goal

abbrev pub ghosts-hold_by : goal.ghosts-hold_by
ghosts-hold_by g a = record { name = a.blank.name; parts = a.blank.parts }
