-- The laws are lemmas.
use Rattle.pol_netpol.proofs.ReadKept.{read_key, read_name, read_namespace}
use Rattle.pol_netpol.proofs.laws.keys_of_documents_have_their_forms.Goals as goal

pub returns : goal.returns
returns c = record { key = read_key; name = read_name; namespace = read_namespace }
