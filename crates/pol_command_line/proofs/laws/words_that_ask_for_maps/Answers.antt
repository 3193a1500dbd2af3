use Rattle.std.proofs.Common.{refl}
use Rattle.clap.proofs.OnLiterals.{clap_on_literals}
use Rattle.pol_command_line.proofs.laws.words_that_ask_for_maps.Goals as goal

pub returns : goal.returns
unfolding clap_on_literals
returns c = record {
  map = refl;
  no_name = refl;
  empty_name = refl;
  audit = refl;
}
