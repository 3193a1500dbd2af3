use Rattle.std.proofs.Common.{refl}
use Rattle.clap.proofs.OnLiterals.{clap_on_literals}
use Rattle.pol_command_line.proofs.laws.words_that_ask_for_crashes.Goals as goal

pub returns : goal.returns
unfolding clap_on_literals
returns c = record {
  least = refl;
  greatest = refl;
  below = refl;
  above = refl;
  value = refl;
  twice = refl;
  generate = refl;
  map = refl;
  audit = refl;
}
