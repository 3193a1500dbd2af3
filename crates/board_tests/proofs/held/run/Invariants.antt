use Rattle.board_tests.proofs.held.run.Given as goal

abbrev pub ghosts-publish : goal.ghosts-publish
ghosts-publish g a = record { name = a.blank.name; parts = a.blank.parts }
