use Rattle.pol_model_laws.proofs.FoundRows.{exhausted-exactly}
use Rattle.pol_model_laws.proofs.row_laws.numbers_run_out.Goals as goal

pub returns : goal.returns
returns c = exhausted-exactly
