use Rattle.std.proofs.Common.{sym, ◌∙◌, ap, subst}
use Rattle.std.specs.Option.{option_copied}
use Rattle.pol_entry_tally.specs.Counts.{AreTurns, IsTurn, Rises}
use Rattle.pol_entry_tally.proofs.InOrder.{all_front, rises_front}
use Rattle.pol_entry_tally.proofs.Several.{all_made, gathering_first, gathering_more, goes_to_end, group_small, own_of}
use Rattle.pol_entry_tally.proofs.many.gather_each.Goals as goal

pub loop-turn-init : goal.loop-turn-init
loop-turn-init c = gathering_first c.args.tally.now c.args.turns.now c.new-made.result.items c.args.listing.now.changes.items c.args.listing.now.size c.new-made.ensures.items c.requires.rises c.requires.turns

pub gather_one-requires-clause-rises : goal.gather_one-requires-clause-rises
gather_one-requires-clause-rises c =
    rises_front c.below.result.0.now c.below.result.1.now (subst Rises c.below.ensures.parts c.loop-turn.invariant.rises)

pub gather_one-requires-clause-turns : goal.gather_one-requires-clause-turns
gather_one-requires-clause-turns c =
    all_front IsTurn c.below.result.0.now c.below.result.1.now (subst AreTurns c.below.ensures.parts c.loop-turn.invariant.are_turns)

pub gather_one-requires-clause-own : goal.gather_one-requires-clause-own
gather_one-requires-clause-own c =
    own_of c.loop-turn.left.now c.below.result.0.now c.below.result.1.now c.in-Some.turn.now (sym c.first.ensures.value ∙ ap option_copied c.in-Some.is) c.loop-turn.invariant.rises
    c.below.ensures.parts c.below.ensures.low

pub loop-turn-preserved : goal.loop-turn-preserved
loop-turn-preserved c =
    let first = sym c.first.ensures.value ∙ ap option_copied c.in-Some.is in
    let one = c.in_ok-gather_one.ensures.made in
    gathering_more c.args.tally.now c.loop-turn.tally c.gather_one.new.tally c.args.turns.now c.loop-turn.left.now c.below.result.0.now c.below.result.1.now
    c.loop-turn.made.items c.gather_one.new.made.items c.args.listing.now.changes.items c.loop-turn.listing.changes.items c.gather_one.new.listing.changes.items
    c.args.listing.now.size c.loop-turn.listing.size c.gather_one.new.listing.size c.in-Some.turn.now one.0
    c.loop-turn.invariant first c.below.ensures.parts c.below.ensures.low c.below.ensures.high c.gather_one.ensures.same c.gather_one.ensures.stay c.in_ok-gather_one.ensures.open
    one.1 one.2 one.3 one.4 one.5 (group_small c.loop-turn.left.now c.in-Some.turn.now first c.loop-turn.invariant.are_turns)

pub returns-clause-made : goal.returns-clause-made
returns-clause-made c =
    all_made c.args.tally.now c.loop-turn.tally c.args.turns.now c.loop-turn.left.now c.loop-turn.made.items c.args.listing.now.changes.items c.loop-turn.listing.changes.items
    c.args.listing.now.size c.loop-turn.listing.size c.loop-turn.invariant (sym c.first.ensures.value ∙ ap option_copied c.in_default.is)

pub returns-clause-listed : goal.returns-clause-listed
returns-clause-listed c =
    goes_to_end c.args.tally.now c.loop-turn.tally c.args.turns.now c.loop-turn.left.now c.loop-turn.made.items c.args.listing.now.changes.items c.loop-turn.listing.changes.items
    c.args.listing.now.size c.loop-turn.listing.size c.loop-turn.invariant (sym c.first.ensures.value ∙ ap option_copied c.in_default.is)
