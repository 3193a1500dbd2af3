use Rattle.std.proofs.Common.{refl}
use Rattle.clap.proofs.OnLiterals.{clap_on_literals}
use Rattle.pol_command_line.proofs.laws.words_that_fit.Goals as goal

pub returns : goal.returns
unfolding clap_on_literals
returns c = record { none = refl; all = refl; greatest = refl; end = refl }
