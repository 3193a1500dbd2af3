use Rattle.pol_model.proofs.LeastFree.{first-le, least_free-free, least_free-taken}
use Rattle.pol_model.proofs.laws.least_free_number.Goals as goal

pub returns : goal.returns
returns c = record {
  from = first-le;
  free = least_free-free;
  taken = least_free-taken;
}
