use Rattle.std.proofs.Common.{◌+◌, ◌-◌, ap, subst, ◌∙◌}
use Rattle.pol_entry_tally.specs.Counts.{Ascend}
use Rattle.pol_entry_tally.proofs.AtPlaces.{back_ascends}
use Rattle.pol_entry_tally.proofs.Merged.{turned_at}
use Rattle.pol_entry_tally.proofs.merge.turn_run.Goals as goal

pub split_at_place-requires : goal.split_at_place-requires
split_at_place-requires c = back_ascends c.args.out.now.items c.args.rest.now c.requires.ascend

pub first_at-requires-clause-ascend : goal.first_at-requires-clause-ascend
first_at-requires-clause-ascend c =
    back_ascends c.split_at_place.result.0.now c.split_at_place.result.1.now (subst Ascend c.split_at_place.ensures.parts (back_ascends c.args.out.now.items c.args.rest.now c.requires.ascend))

pub returns : goal.returns
returns c =
    turned_at c.args.place c.args.ups c.args.downs c.in_ok-times.times c.args.out.now.items c.args.rest.now c.split_at_place.result.0.now c.split_at_place.result.1.now
    c.extend_from_slice.new.self.items c.push_times.new.out.items c.behind.result.now c.requires.ascend c.requires.before c.split_at_place.ensures.parts c.split_at_place.ensures.before
    c.split_at_place.ensures.from c.in_ok-extend_from_slice.ensures.items c.in_ok-push_times.ensures c.behind.ensures
    (c.in_ok-times.ensures ∙ ap (λ n. n + c.args.ups - c.args.downs) c.first_at.ensures)
