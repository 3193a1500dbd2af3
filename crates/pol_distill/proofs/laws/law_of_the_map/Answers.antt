use Rattle.pol_model_laws.proofs.Positive.{rows_positive}
use Rattle.pol_model.specs.After.{state_of}
use Rattle.pol_distill.proofs.MapLaw.{read_is_verdict}
use Rattle.pol_distill.proofs.laws.law_of_the_map.Goals as goal

pub returns : goal.returns
returns c = record {
  anywhere = read_is_verdict;
  in_each_state = λ options requests endpoint dir number proto port small.
      read_is_verdict options (state_of options requests) endpoint dir number proto port (rows_positive options requests) small;
}
