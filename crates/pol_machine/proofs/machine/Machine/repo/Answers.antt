use Rattle.pol_machine.proofs.machine.Machine.repo.Goals as goal

pub returns-clause-idle : goal.returns-clause-idle
returns-clause-idle c = c.self.invariant.stands.at.idle
