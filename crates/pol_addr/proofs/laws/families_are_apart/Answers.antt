use Rattle.pol_addr.proofs.Containment.{contains-family}
use Rattle.pol_addr.proofs.World.{contains-world}
use Rattle.pol_addr.proofs.laws.families_are_apart.Goals as goal

pub returns-clause-own : goal.returns-clause-own
returns-clause-own c = contains-family

pub returns-clause-world : goal.returns-clause-world
returns-clause-world c = contains-world
