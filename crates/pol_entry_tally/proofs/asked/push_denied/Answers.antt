use Rattle.std.proofs.Common.{sym, ◌∙◌, ap}
use Rattle.std.specs.Option.{option_copied}
use Rattle.pol_entry_tally.proofs.Stretches.{all_asked, asking_first, asking_more}
use Rattle.pol_entry_tally.proofs.asked.push_denied.Goals as goal

pub loop-turn-init : goal.loop-turn-init
loop-turn-init c = asking_first c.args.counts.now c.args.turns.now c.args.asked.now.items c.requires.rises c.requires.own

pub loop-turn-preserved : goal.loop-turn-preserved
loop-turn-preserved c =
    asking_more c.args.counts.now c.args.turns.now c.loop-turn.left.now c.split_at.result.1.now c.args.asked.now.items c.loop-turn.asked.items c.push_under.new.asked.items
    c.loop-turn.done c.in_ok-done.done c.in-Some.turn.now c.loop-turn.invariant (sym c.first.ensures.value ∙ ap option_copied c.in-Some.is) c.split_at.ensures.back
    c.in_ok-done.ensures.all c.in_ok-done.ensures.far c.in_ok-done.ensures.stay c.in_ok-done.ensures.no_more

pub returns-clause-all : goal.returns-clause-all
returns-clause-all c =
    all_asked c.args.counts.now c.args.turns.now c.loop-turn.left.now c.args.asked.now.items c.loop-turn.asked.items c.loop-turn.done c.loop-turn.invariant
    (sym c.first.ensures.value ∙ ap option_copied c.in_default.is)
