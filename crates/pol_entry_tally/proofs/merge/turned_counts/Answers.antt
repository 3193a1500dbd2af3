use Rattle.std.proofs.Common.{◌≡◌, ◌+◌, ◌-◌, length, sym, ◌∙◌, ap, arith}
use Rattle.std.specs.Option.{option_copied}
use Rattle.std.proofs.lemmas.Grind.{common_steps}
use Rattle.pol_entry_tally.specs.Counts.{counts_of}
use Rattle.pol_entry_tally.proofs.Merged.{alone_counts, alone_times, from_code}
use Rattle.pol_entry_tally.proofs.merge.turned_counts.Goals as goal

pub run_of-run-requires-clause-from : goal.run_of-run-requires-clause-from
run_of-run-requires-clause-from c = from_code c.args.turns.now c.in-Some.turn.now (sym c.first.ensures.value ∙ ap option_copied c.in-Some.is) c.requires.rises

pub returns-then-is_empty-clause-counts : goal.returns-then-is_empty-clause-counts
returns-then-is_empty-clause-counts c =
    let none : length c.run_of-run.result.others.now ≡ 0 = grind (arith, common_steps) in
    alone_counts c.args.group c.args.old.now c.args.turns.now c.run_of-run.result.others.now (counts_of c.counted.result) c.in-Some.turn.now c.run_of-run.result.ups c.run_of-run.result.downs c.in_ok-times.times
    c.requires.old c.requires.rises c.requires.turns c.requires.own (sym c.first.ensures.value ∙ ap option_copied c.in-Some.is) c.run_of-run.ensures none
    (c.are_alone.ensures.from c.if-are_alone.true) (c.are_alone.ensures.behind c.if-are_alone.true)
    (c.in_ok-times.ensures ∙ ap (λ n. n + c.run_of-run.result.ups - c.run_of-run.result.downs) c.first_at.ensures) c.counted.ensures

pub returns-then-is_empty-clause-times : goal.returns-then-is_empty-clause-times
returns-then-is_empty-clause-times c =
    let none : length c.run_of-run.result.others.now ≡ 0 = grind (arith, common_steps) in
    alone_times c.args.group c.args.old.now c.args.turns.now c.run_of-run.result.others.now (counts_of c.counted.result) c.in-Some.turn.now c.run_of-run.result.ups c.run_of-run.result.downs c.in_ok-times.times
    c.requires.old c.requires.rises c.requires.turns c.requires.own (sym c.first.ensures.value ∙ ap option_copied c.in-Some.is) c.run_of-run.ensures none
    (c.are_alone.ensures.from c.if-are_alone.true) (c.are_alone.ensures.behind c.if-are_alone.true)
    (c.in_ok-times.ensures ∙ ap (λ n. n + c.run_of-run.result.ups - c.run_of-run.result.downs) c.first_at.ensures) c.counted.ensures
