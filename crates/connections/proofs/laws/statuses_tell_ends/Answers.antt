-- The law computes.
use Rattle.std.proofs.Common.{refl}
use Rattle.connections.proofs.laws.statuses_tell_ends.Goals as goal

pub returns : goal.returns
returns c = record {
  numbers = refl;
  answered = refl;
  silent = refl;
  read = refl;
  said = refl;
}
