use Rattle.std.proofs.Common.{refl}
use Rattle.clap.proofs.OnLiterals.{clap_on_literals}
use Rattle.pol_command_line.proofs.laws.words_that_do_not_fit.Goals as goal

pub returns : goal.returns
unfolding clap_on_literals
returns c = record {
  word = refl;
  help = refl;
  short_help = refl;
  twice = refl;
  workers = refl;
  generate = refl;
  generate_more = refl;
  mode = refl;
  localhost = refl;
  value = refl;
}
