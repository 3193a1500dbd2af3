use Rattle.pol_mapkey.proofs.Equality.{map_key_eq-Decides, same_key-Decides}
use Rattle.pol_mapkey.proofs.laws.equality.Goals as goal

pub returns : goal.returns
returns c = record { keys = map_key_eq-Decides; test = same_key-Decides }
