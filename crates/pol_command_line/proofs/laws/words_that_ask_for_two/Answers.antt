use Rattle.std.proofs.Common.{refl}
use Rattle.clap.proofs.OnLiterals.{clap_on_literals}
use Rattle.pol_command_line.proofs.laws.words_that_ask_for_two.Goals as goal

pub returns : goal.returns
unfolding clap_on_literals
returns c = record {
  map_and_audit = refl;
  generate_and_audit = refl;
  generate_and_map = refl;
  two_maps = refl;
  two_audits = refl;
  value = refl;
  name = refl;
  option = refl;
  dash = refl;
}
