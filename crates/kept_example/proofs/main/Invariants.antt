use Rattle.kept_example.proofs.main.Given as goal

abbrev pub ghosts-show : goal.ghosts-show
ghosts-show a = record { name = a.blank.name; parts = a.blank.parts }
