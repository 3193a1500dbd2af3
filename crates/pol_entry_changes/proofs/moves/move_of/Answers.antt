use Rattle.pol_entry_changes.proofs.FirstRow.{first_is}
use Rattle.pol_entry_changes.proofs.moves.move_of.Goals as goal

pub returns : goal.returns
returns c = first_is c.args.selector c.args.moves.now c.first_of.result c.first_of.ensures
