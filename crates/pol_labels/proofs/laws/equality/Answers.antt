use Rattle.pol_labels.specs.SameLaws.{same_label-Decides, same_labels-Decides, same_requirements-Decides}
use Rattle.pol_labels.proofs.Equality.{operator_eq-Decides, requirement_eq-Decides}
use Rattle.pol_labels.proofs.laws.equality.Goals as goal

pub returns : goal.returns
returns c = record {
  label = same_label-Decides;
  set = same_labels-Decides;
  operator = operator_eq-Decides;
  requirement = requirement_eq-Decides;
  selector = same_requirements-Decides;
}
