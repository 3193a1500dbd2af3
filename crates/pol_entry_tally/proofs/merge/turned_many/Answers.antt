use Rattle.std.proofs.Common.{sym, ◌∙◌, ap, arith}
use Rattle.std.specs.Option.{option_copied}
use Rattle.pol_entry_tally.proofs.Merged.{from_code, merging_more, turn_small}
use Rattle.pol_entry_tally.proofs.merge.turned_many.Goals as goal

pub run_of-run-requires-clause-from : goal.run_of-run-requires-clause-from
run_of-run-requires-clause-from c =
    from_code c.loop-turn.left.now c.in-Some.turn.now (sym c.first.ensures.value ∙ ap option_copied c.in-Some.is) c.loop-turn.invariant.rises

pub run_of-run-requires-clause-small : goal.run_of-run-requires-clause-small
run_of-run-requires-clause-small c =
    omega (arith, turn_small c.loop-turn.left.now c.in-Some.turn.now (sym c.first.ensures.value ∙ ap option_copied c.in-Some.is) c.loop-turn.invariant.turns)

pub loop-turn-preserved : goal.loop-turn-preserved
loop-turn-preserved c =
    merging_more c.args.group c.args.old.now c.args.turns.now c.loop-turn.out.items c.loop-turn.rest.now c.turn_run.new.out.items c.in_ok-rest.rest.now
    c.loop-turn.left.now c.run_of-run.result.others.now c.in-Some.turn.now c.run_of-run.result.ups c.run_of-run.result.downs c.loop-turn.invariant
    (sym c.first.ensures.value ∙ ap option_copied c.in-Some.is) c.run_of-run.ensures c.in_ok-rest.ensures
