use Rattle.repo_example.proofs.shared.show.Given as goal

abbrev pub ghosts-show_over : goal.ghosts-show_over
ghosts-show_over g args = record { name = args.blank.name; parts = args.blank.parts }
