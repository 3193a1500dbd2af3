use Rattle.library_tests.proofs.trie.right.Given as goal

abbrev pub ghosts-right_over : goal.ghosts-right_over
ghosts-right_over a = record { name = a.blank.name; parts = a.blank.parts }
