use Rattle.pol_selcache.proofs.Sound.{reference_exact, unreference_exact}
use Rattle.pol_selcache.proofs.Staying.{exact_as_come, exact_as_gone}
use Rattle.pol_selcache.proofs.laws.sets_stay_exact.Goals as goal

pub returns : goal.returns
returns c = record {
  come = exact_as_come;
  gone = exact_as_gone;
  referred = reference_exact;
  dropped = unreference_exact;
}
