use Rattle.pol_run.proofs.Caps.{cap_is_cut, cut_is_within}
use Rattle.pol_run.proofs.laws.caps_are_the_greatest.Goals as goal

pub returns : goal.returns
returns c = record {
  none_later = λ options spots spot revision run. cap_is_cut spots spot revision run.numbered;
  greatest = λ options spots spot revision run cut. cut_is_within spots spot revision cut;
}
