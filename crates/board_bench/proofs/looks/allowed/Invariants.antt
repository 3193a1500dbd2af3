use Rattle.board_bench.proofs.looks.allowed.Given as goal

abbrev pub ghosts-allowed_by : goal.ghosts-allowed_by
ghosts-allowed_by g a = record { name = a.blank.name; parts = a.blank.parts }
