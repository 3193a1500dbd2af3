use Rattle.proof_forms.proofs.Greatest.{greatest-append}
use Rattle.proof_forms.proofs.examples.the_greatest_of_two_lists.Goals as goal

pub returns : goal.returns
returns c = greatest-append
