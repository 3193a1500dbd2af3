use Rattle.pol_selectors.proofs.Placed.{live_there, placed}
use Rattle.pol_selectors.proofs.spots.place_near.Goals as goal

pub returns : goal.returns
returns c =
    let first = placed c.args.number c.args.spots.now c.first_near.result c.requires.ascend c.requires.live c.first_near.ensures.from in
    record { place = live_there c.args.number c.args.spots.now c.first_near.result c.requires.ascend c.requires.live first }
