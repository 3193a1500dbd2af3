use Rattle.std.proofs.Common.{sym, ◌∙◌, ap, subst}
use Rattle.std.specs.Option.{option_copied}
use Rattle.pol_entry_tally.specs.Counts.{AreTurns, IsTurn, Rises, counts_of}
use Rattle.pol_entry_tally.proofs.InOrder.{all_front, rises_front}
use Rattle.pol_entry_tally.proofs.Several.{filling_first, filling_last, filling_more, own_of}
use Rattle.pol_entry_tally.proofs.change.fill.Goals as goal

pub loop-turn-init : goal.loop-turn-init
loop-turn-init c = filling_first c.args.tally.now c.requires.none c.args.turns.now c.requires.rises c.requires.turns

pub turned_counts-requires-clause-rises : goal.turned_counts-requires-clause-rises
turned_counts-requires-clause-rises c =
    rises_front c.below.result.0.now c.below.result.1.now (subst Rises c.below.ensures.parts c.loop-turn.invariant.rises)

pub turned_counts-requires-clause-turns : goal.turned_counts-requires-clause-turns
turned_counts-requires-clause-turns c =
    all_front IsTurn c.below.result.0.now c.below.result.1.now (subst AreTurns c.below.ensures.parts c.loop-turn.invariant.are_turns)

pub turned_counts-requires-clause-own : goal.turned_counts-requires-clause-own
turned_counts-requires-clause-own c =
    own_of c.loop-turn.left.now c.below.result.0.now c.below.result.1.now c.in-Some.turn.now (sym c.first.ensures.value ∙ ap option_copied c.in-Some.is) c.loop-turn.invariant.rises
    c.below.ensures.parts c.below.ensures.low

pub loop-turn-preserved : goal.loop-turn-preserved
loop-turn-preserved c =
    filling_more c.args.tally.now c.requires.none c.loop-turn.tally c.put.new.self c.args.turns.now c.loop-turn.left.now c.below.result.0.now c.below.result.1.now c.in-Some.turn.now
    (counts_of c.in_ok-counts.counts) c.loop-turn.invariant (sym c.first.ensures.value ∙ ap option_copied c.in-Some.is) c.below.ensures.parts c.below.ensures.low c.below.ensures.high
    c.in_ok-counts.ensures.counts c.in_ok-counts.ensures.times c.in_ok-put.ensures.ok

pub returns-clause-ok : goal.returns-clause-ok
returns-clause-ok c =
    filling_last c.args.tally.now c.requires.none c.loop-turn.tally c.args.turns.now c.loop-turn.left.now c.loop-turn.invariant (sym c.first.ensures.value ∙ ap option_copied c.in_default.is)
