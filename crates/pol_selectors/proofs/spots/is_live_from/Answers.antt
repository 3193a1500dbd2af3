use Rattle.std.proofs.Common.{length, refl, sym, ◌∙◌}
use Rattle.std.proofs.lemmas.Option.{slice_get_read}
use Rattle.pol_selectors.proofs.Holding.{holds_there, none_holds}
use Rattle.pol_selectors.proofs.spots.is_live_from.Goals as goal

pub returns-in-None : goal.returns-in-None
returns-in-None c =
    sym (none_holds c.args.number c.args.spots.now c.args.place c.requires.ascend c.requires.from (sym c.in-None.ensures.lookup.0))

pub returns-in-Some : goal.returns-in-Some
returns-in-Some c =
    let spots = c.args.spots.now in
    let spot = c.in-Some.spot.now in
    let found = c.in-Some.ensures.lookup in
    let at = slice_get_read spots (length spots) c.args.place spot refl found.3.0 found.1 in
    c.is_live_spot.ensures ∙ holds_there c.args.number spots c.args.place c.requires.ascend c.requires.from spot at
