use Rattle.pol_script_commits.proofs.commits.commit.Given as goal

abbrev pub ghosts-commit_over : goal.ghosts-commit_over
ghosts-commit_over a = record { name = a.blank.name; parts = a.blank.parts }
