use Rattle.policyd_kept.proofs.serve.serve.Given as goal

abbrev pub ghosts-serve_opened : goal.ghosts-serve_opened
ghosts-serve_opened g a = record { name = a.blank.name; parts = a.blank.parts }
