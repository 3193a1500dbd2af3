use Rattle.board_tests.proofs.regenerations.regenerations_named.Given as goal

abbrev pub ghosts-regenerations : goal.ghosts-regenerations
ghosts-regenerations g a = record { name = a.blank.name; parts = a.blank.parts }
