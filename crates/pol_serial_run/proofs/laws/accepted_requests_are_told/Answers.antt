use Rattle.pol_machine.specs.Serial.{machine_of}
use Rattle.pol_serial_run.proofs.Going.{commits_after, ok_as_many}
use Rattle.pol_serial_run.proofs.laws.accepted_requests_are_told.Goals as goal

pub returns-clause-as_many : goal.returns-clause-as_many
returns-clause-as_many c options start readings answers is = ok_as_many options (machine_of options start) 1 readings answers is

pub returns-clause-committed : goal.returns-clause-committed
returns-clause-committed c options start readings = commits_after options (machine_of options start) readings
