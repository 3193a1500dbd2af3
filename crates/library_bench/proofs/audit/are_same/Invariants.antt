use Rattle.library_bench.proofs.audit.are_same.Given as goal

abbrev pub ghosts-audit_over : goal.ghosts-audit_over
ghosts-audit_over a = record { name = a.blank.name; parts = a.blank.parts }
