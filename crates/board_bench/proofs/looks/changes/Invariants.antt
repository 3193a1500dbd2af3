use Rattle.board_bench.proofs.looks.changes.Given as goal

abbrev pub ghosts-change_by : goal.ghosts-change_by
ghosts-change_by g a = record { name = a.blank.name; parts = a.blank.parts }
