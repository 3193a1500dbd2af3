use Rattle.pol_model_laws.proofs.Worked.{net_inside, net_part, net_outside, world_denied, own_endpoint, cluster_inside, cluster_outside}
use Rattle.pol_model_laws.proofs.map_laws.words_of_addresses.Goals as goal

pub returns : goal.returns
returns c = record {
  inside = net_inside;
  part = net_part;
  outside = net_outside;
  denied = world_denied;
  endpoint = own_endpoint;
  cluster_inside = cluster_inside;
  cluster_outside = cluster_outside;
}
