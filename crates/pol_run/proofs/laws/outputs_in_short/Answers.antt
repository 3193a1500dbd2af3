-- The laws are lemmas.
use Rattle.pol_run.proofs.OutputsInShort.{output_in_short, output_from_short}
use Rattle.pol_run.proofs.laws.outputs_in_short.Goals as goal

pub returns : goal.returns
returns c = record { said = output_in_short; all = output_from_short }
