use Rattle.pol_history.proofs.LegalEvents.{each_legal, legal_each}
use Rattle.pol_history.proofs.laws.legal_event_by_event.Goals as goal

pub returns : goal.returns
returns c = λ options history. (legal_each options history, each_legal options history)
