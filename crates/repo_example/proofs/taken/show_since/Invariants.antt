use Rattle.repo_example.proofs.taken.show_since.Given as goal

abbrev pub ghosts-taken_over : goal.ghosts-taken_over
ghosts-taken_over g args = record { name = args.blank.name; parts = args.blank.parts }
