use Rattle.board_bench.proofs.filled.filled.Given as goal

abbrev pub ghosts-fill : goal.ghosts-fill
ghosts-fill g a = record { name = a.blank.name; parts = a.blank.parts }
