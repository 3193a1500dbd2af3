use Rattle.pol_model_laws.proofs.ComeAndGo.{come_stays, taken_keeps}
use Rattle.pol_model_laws.proofs.KeptFrom.{kept_from}
use Rattle.pol_model_laws.proofs.PartStates.{part_after, part_before}
use Rattle.pol_model_laws.proofs.state_laws.requests_take_first.Goals as goal

pub returns : goal.returns
returns c = record {
  before = part_before;
  after = part_after;
  apart = λ s request number it may. come_stays s request may (kept_from s it) number;
  between = λ s request it may. taken_keeps s request may (kept_from s it);
}
