use Rattle.board_bench.proofs.tries.allowed.Given as goal

abbrev pub ghosts-allowed_by : goal.ghosts-allowed_by
ghosts-allowed_by a = record { name = a.blank.name; parts = a.blank.parts }
