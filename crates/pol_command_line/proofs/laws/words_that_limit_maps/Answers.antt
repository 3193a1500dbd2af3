use Rattle.std.proofs.Common.{refl}
use Rattle.clap.proofs.OnLiterals.{clap_on_literals}
use Rattle.pol_command_line.proofs.laws.words_that_limit_maps.Goals as goal

pub returns : goal.returns
unfolding clap_on_literals
returns c = record {
  least = refl;
  greatest = refl;
  default = refl;
  below = refl;
  above = refl;
  twice = refl;
  value = refl;
  map = refl;
  audit = refl;
  generate = refl;
  generate_default = refl;
}
