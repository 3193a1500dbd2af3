use Rattle.pol_kept_filters.proofs.Unselected.{left_with, left_without}
use Rattle.pol_kept_filters.proofs.laws.what_is_left_is_kept.Goals as goal

pub returns : goal.returns
returns c = record {
  comes = λ policies new mode rows are. left_with policies mode rows are new;
  goes = λ policies key mode rows differ are. left_without policies mode rows are key differ;
}
