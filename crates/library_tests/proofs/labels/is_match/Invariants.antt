use Rattle.library_tests.proofs.labels.is_match.Given as goal

abbrev pub ghosts-is_match_over : goal.ghosts-is_match_over
ghosts-is_match_over a = record { name = a.blank.name; parts = a.blank.parts }
