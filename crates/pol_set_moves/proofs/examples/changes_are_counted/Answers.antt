use Rattle.std.proofs.Common.{refl}
use Rattle.pol_set_moves.proofs.Worked.{all_revisions, no_change, none_dropped}
use Rattle.pol_set_moves.proofs.examples.changes_are_counted.Goals as goal

pub returns : goal.returns
returns c = record {
  revisions = all_revisions;
  none = no_change;
  sets = (refl, refl);
  horizon = none_dropped;
  before = (refl, refl, refl);
}
