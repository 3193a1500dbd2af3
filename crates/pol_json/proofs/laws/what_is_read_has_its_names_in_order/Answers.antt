use Rattle.pol_json.proofs.Names.{read_ascends}
use Rattle.pol_json.proofs.laws.what_is_read_has_its_names_in_order.Goals as goal

pub returns : goal.returns
returns c = read_ascends
