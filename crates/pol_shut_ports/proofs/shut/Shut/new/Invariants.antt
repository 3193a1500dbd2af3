use Rattle.pol_shut_ports.proofs.shut.Shut.new.Given as goal

abbrev pub ghosts-differences_over : goal.ghosts-differences_over
ghosts-differences_over a = record { name = a.blank.name; parts = a.blank.parts }
