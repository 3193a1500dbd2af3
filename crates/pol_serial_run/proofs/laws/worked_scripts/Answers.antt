use Rattle.std.proofs.Common.{[], refl}
use Rattle.pol_serial_run.proofs.Worked.{accepted_first, accepted_later, first, later}
use Rattle.pol_serial_run.proofs.laws.worked_scripts.Goals as goal

pub returns-clause-first : goal.returns-clause-first
returns-clause-first c = first

pub returns-clause-accepted : goal.returns-clause-accepted
returns-clause-accepted c = accepted_first

pub returns-clause-later : goal.returns-clause-later
returns-clause-later c = later

pub returns-clause-none_accepted : goal.returns-clause-none_accepted
returns-clause-none_accepted c = accepted_later
