use Rattle.pol_set_changes.proofs.Chained.{stays_unchanged}
use Rattle.pol_set_changes.proofs.laws.a_set_is_unchanged_since_then.Goals as goal

pub returns : goal.returns
returns c = stays_unchanged
