use Rattle.pol_taken.proofs.Worked.{one_peer, one_set, own_endpoint}
use Rattle.pol_taken.proofs.laws.what_is_taken_of_a_small_state.Goals as goal

pub returns : goal.returns
returns c = record {
  revision = λ taken is. is.revision;
  endpoint = own_endpoint;
  peers = one_peer;
  sets = one_set;
}
