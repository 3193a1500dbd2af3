use Rattle.pol_selcache.proofs.Retold.{tells_difference, told_now, told_on}
use Rattle.pol_selcache.proofs.laws.changes_tell_what_sets_were.Goals as goal

pub returns : goal.returns
returns c = record {
  starts = told_now;
  stays = told_on;
  tells = tells_difference;
}
