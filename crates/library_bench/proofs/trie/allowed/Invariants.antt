use Rattle.library_bench.proofs.trie.allowed.Given as goal

abbrev pub ghosts-allowed_over : goal.ghosts-allowed_over
ghosts-allowed_over a = record { name = a.blank.name; parts = a.blank.parts }
