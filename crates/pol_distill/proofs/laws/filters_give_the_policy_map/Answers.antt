use Rattle.std.proofs.Common.{◌∙◌, ap}
use Rattle.pol_mapkey.specs.Entries.{read_map}
use Rattle.pol_model.specs.After.{state_of}
use Rattle.pol_model_laws.proofs.KeepsAll.{state_keeps}
use Rattle.pol_model_laws.proofs.Positive.{rows_positive}
use Rattle.pol_model_laws.proofs.StateLaws.{found-init}
use Rattle.pol_distill.proofs.FilterLaw.{distilled_is}
use Rattle.pol_distill.proofs.MapLaw.{read_is_verdict}
use Rattle.pol_distill.proofs.laws.filters_give_the_policy_map.Goals as goal

pub returns : goal.returns
returns c = record {
  anywhere = λ options s endpoint rows init agree. distilled_is options s endpoint init rows agree;
  in_each_state = λ options requests endpoint rows good there agree.
      distilled_is options (state_of options requests) endpoint (found-init (state_of options requests) (state_keeps options requests good) endpoint there) rows agree;
  verdict = λ options requests endpoint rows dir number proto port good there agree small.
      ap (λ m. read_map m dir number proto port)
      (distilled_is options (state_of options requests) endpoint (found-init (state_of options requests) (state_keeps options requests good) endpoint there) rows agree)
      ∙ read_is_verdict options (state_of options requests) endpoint dir number proto port (rows_positive options requests) small;
}
