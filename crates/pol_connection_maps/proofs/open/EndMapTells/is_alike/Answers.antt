use Rattle.pol_connection_maps.proofs.Numbered.{same_kind}
use Rattle.pol_connection_maps.proofs.Shared.{alike_alone}
use Rattle.pol_connection_maps.proofs.open.EndMapTells.is_alike.Goals as goal

pub returns : goal.returns
returns c = λ same maps its others. alike_alone c.args.self.now c.args.other.now (same_kind maps.after c.args.self.now c.args.other.now its others (c.are_of_one_kind.ensures same))
