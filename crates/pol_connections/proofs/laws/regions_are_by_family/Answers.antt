use Rattle.std.proofs.Common.{refl}
use Rattle.pol_addr.specs.Cidr.{network}
use Rattle.pol_addr.specs.Prefix.{contains}
use Rattle.pol_connections.specs.Regions.{prefixes_in_order}
use Rattle.pol_connections.proofs.laws.regions_are_by_family.Goals as goal

pub returns : goal.returns
unfolding prefixes_in_order contains network
returns c = record { worlds = refl; order = refl; four = refl; six = refl }
