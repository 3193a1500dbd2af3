-- The laws are lemmas.
use Rattle.document_laws.proofs.Printing.{listed_printed_policies_again, printed_policies_again}
use Rattle.document_laws.proofs.laws.texts_are_read_again.Goals as goal

pub returns : goal.returns
returns c = record { first_in_spec = printed_policies_again; all_in_specs = listed_printed_policies_again }
