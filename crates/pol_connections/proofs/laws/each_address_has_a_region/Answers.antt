use Rattle.pol_connections.proofs.Regions.{each_region, each_world}
use Rattle.pol_connections.proofs.laws.each_address_has_a_region.Goals as goal

pub returns : goal.returns
returns c = record { worlds = each_world; region = each_region }
