use Rattle.board_bench.proofs.changes.time_changes.Given as goal

abbrev pub ghosts-time_by : goal.ghosts-time_by
ghosts-time_by g a = record { name = a.blank.name; parts = a.blank.parts }
