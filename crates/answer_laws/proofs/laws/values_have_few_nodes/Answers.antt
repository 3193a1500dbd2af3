-- The law is a lemma.
use Rattle.answer_laws.proofs.TextNodes.{read_nodes}
use Rattle.answer_laws.proofs.laws.values_have_few_nodes.Goals as goal

pub returns : goal.returns
returns c = read_nodes
