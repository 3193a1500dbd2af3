use Rattle.std.proofs.Common.{◌∷◌, []}
use Rattle.pol_history.proofs.LegalEvents.{legal_front, legal_last, legal_more, legal_take}
use Rattle.pol_history.proofs.laws.legal_histories_grow.Goals as goal

pub returns : goal.returns
returns c = record {
  more = λ options history event.
      ((λ legal. (legal_front options history (event ∷ []) legal, legal_last options history event legal)), λ both. legal_more options history event both.0 both.1);
  beginnings = λ options history n. legal_take options n history;
}
