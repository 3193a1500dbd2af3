-- The law computes.
use Rattle.std.proofs.Common.{refl}
use Rattle.policyd_kept.proofs.laws.statuses_tell_ends.Goals as goal

pub returns : goal.returns
returns c = record {
  served = refl;
  answered = refl;
  not_opened = refl;
  held = refl;
}
