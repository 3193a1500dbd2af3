-- The laws are lemmas.
use Rattle.document_laws.proofs.Policies.{listed_policies_again, policies_again}
use Rattle.document_laws.proofs.laws.policies_are_read_again.Goals as goal

pub returns : goal.returns
returns c = record { first_in_spec = policies_again; all_in_specs = listed_policies_again }
