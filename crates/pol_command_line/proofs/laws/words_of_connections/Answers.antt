use Rattle.std.proofs.Common.{refl}
use Rattle.clap.proofs.OnLiterals.{clap_on_literals}
use Rattle.pol_command_line.proofs.laws.words_of_connections.Goals as goal

pub returns : goal.returns
unfolding clap_on_literals
returns c = record { none = refl; all = refl; two_halves = refl; halves_value = refl; twice = refl; value = refl; workers = refl; word = refl }
