use Rattle.engine_bench.proofs.cache.measure.Given as goal

abbrev pub ghosts-time_over : goal.ghosts-time_over
ghosts-time_over a args = record { name = args.blank.name; parts = args.blank.parts }
