use Rattle.pol_model_laws.proofs.Worked.{allowed, denied, allowed_again, all_map, world_map, net_map}
use Rattle.pol_model_laws.proofs.map_laws.maps_written_out.Goals as goal

pub returns : goal.returns
returns c = record {
  let_in = allowed;
  denied = denied;
  let_in_again = allowed_again;
  all = all_map;
  world = world_map;
  net = net_map;
}
