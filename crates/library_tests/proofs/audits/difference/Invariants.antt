use Rattle.library_tests.proofs.audits.difference.Given as goal

abbrev pub ghosts-differences_over : goal.ghosts-differences_over
ghosts-differences_over a = record { name = a.blank.name; parts = a.blank.parts }
