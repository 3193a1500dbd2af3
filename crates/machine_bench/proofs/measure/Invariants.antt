use Rattle.machine_bench.proofs.measure.Given as goal

abbrev pub ghosts-measure_over : goal.ghosts-measure_over
ghosts-measure_over a args = record { name = args.blank.name; parts = args.blank.parts }
