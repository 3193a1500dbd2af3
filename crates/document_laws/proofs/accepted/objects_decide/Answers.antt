use Rattle.document_laws.proofs.NetworkVerdicts as lemma
use Rattle.document_laws.proofs.accepted.objects_decide.Goals as goal

pub returns : goal.returns
returns c = lemma.objects_decide
