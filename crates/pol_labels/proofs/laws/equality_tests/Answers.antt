use Rattle.pol_labels.specs.SameLaws.{same_label-Decides, same_labels-Decides, same_requirement-Decides, same_requirements-Decides}
use Rattle.pol_labels.proofs.laws.equality_tests.Goals as goal

pub returns : goal.returns
returns c = record {
  label = same_label-Decides;
  labels = same_labels-Decides;
  requirement = same_requirement-Decides;
  requirements = same_requirements-Decides;
}
