-- The law is a lemma.
use Rattle.pol_run.proofs.ReadNames.{names_read}
use Rattle.pol_run.proofs.laws.what_is_read_has_names.Goals as goal

pub returns : goal.returns
returns c = names_read
