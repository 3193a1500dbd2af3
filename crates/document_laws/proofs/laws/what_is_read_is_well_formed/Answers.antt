-- The laws are lemmas.
use Rattle.document_laws.proofs.Needed.{read_is_well_formed}
use Rattle.document_laws.proofs.Policies.{policies_again}
use Rattle.document_laws.proofs.laws.what_is_read_is_well_formed.Goals as goal

pub returns : goal.returns
returns c = record { well = read_is_well_formed; again = λ d policy is. policies_again policy (read_is_well_formed d policy is) }
