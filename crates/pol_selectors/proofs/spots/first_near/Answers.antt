use Rattle.pol_selectors.proofs.Placed.{first_there}
use Rattle.pol_selectors.proofs.spots.first_near.Goals as goal

pub returns-then-is_at : goal.returns-then-is_at
returns-then-is_at c = record { from = first_there c.args.number c.args.spots.now c.args.near c.requires.ascend (c.is_at.ensures c.if-is_at.true) }
