use Rattle.std.proofs.Common.{refl}
use Rattle.pol_crash_drill.proofs.laws.how_many_are_found.Goals as goal

pub returns : goal.returns
returns c = refl
