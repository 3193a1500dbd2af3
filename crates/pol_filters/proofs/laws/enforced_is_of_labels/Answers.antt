use Rattle.pol_model_laws.proofs.StateLaws.{found-init}
use Rattle.pol_filters.proofs.EnforcedBy.{enforced_by_labels}
use Rattle.pol_filters.proofs.laws.enforced_is_of_labels.Goals as goal

pub returns : goal.returns
returns c = record {
  endpoint = enforced_by_labels;
  in_each_state = λ s endpoint dir keeps there. enforced_by_labels s.mode s.policies endpoint dir (found-init s keeps endpoint there);
}
