use Rattle.std.proofs.Common.{◌/◌, ◌%◌, ◌∷◌, [], ◌∙◌, ap}
use Rattle.pol_entry_tally.proofs.Turned.{one_goes}
use Rattle.pol_entry_tally.proofs.group.list_one.Goals as goal

pub returns : goal.returns
returns c = λ before after was is.
    let list = c.args.listing.now in
    let made = c.list_keys.new.listing in
    one_goes c.args.group c.requires.group c.args.old.now c.args.new.now c.requires.old c.args.turns.now c.requires.turns c.requires.times before after was is
    c.from_ref.result.now c.args.turn c.requires.one (c.from_ref.ensures.value ∙ ap (λ n. c.args.turn / 2 % n ∷ []) c.from.ensures) c.requires.allow list.changes.items made.changes.items list.size made.size
    c.in_ok-list_keys.ensures.made c.in_ok-list_keys.ensures.size
