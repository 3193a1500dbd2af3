use Rattle.pol_serial_run.proofs.OneText.{one_serial}
use Rattle.pol_serial_run.proofs.laws.serial_runs_have_one_text.Goals as goal

pub returns : goal.returns
returns c options start readings answers others is also = one_serial options start readings answers others is also
