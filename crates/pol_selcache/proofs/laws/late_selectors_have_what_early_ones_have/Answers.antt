use Rattle.pol_selcache.proofs.Staying.{late_as_early}
use Rattle.pol_selcache.proofs.laws.late_selectors_have_what_early_ones_have.Goals as goal

pub returns : goal.returns
returns c = late_as_early
