-- The law computes.
use Rattle.std.proofs.Common.{refl}
use Rattle.pol_status.proofs.laws.limits_of_scripts.Goals as goal

pub returns : goal.returns
returns c = record {
  too_long = λ script. refl;
  fits = refl;
}
