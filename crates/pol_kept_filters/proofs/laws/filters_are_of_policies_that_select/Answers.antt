use Rattle.pol_kept_filters.proofs.Unselected.{same_with, same_without}
use Rattle.pol_kept_filters.proofs.laws.filters_are_of_policies_that_select.Goals as goal

pub returns : goal.returns
returns c = record {
  comes = λ policies new labels mode localhost none old. same_with policies labels mode localhost new none old;
  goes = λ policies key labels mode localhost differ old. same_without policies labels mode localhost key differ old;
}
