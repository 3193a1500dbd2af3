use Rattle.std.proofs.Common.{sym, ◌∙◌, ap, subst}
use Rattle.pol_entry_tally.specs.Counts.{Ascend, times_at}
use Rattle.pol_entry_tally.proofs.AtPlaces.{at_behind, back_ascends}
use Rattle.pol_entry_tally.proofs.counts.times_at.Goals as goal

pub first_at-requires-clause-ascend : goal.first_at-requires-clause-ascend
first_at-requires-clause-ascend c =
    back_ascends c.split_at_place.result.0.now c.split_at_place.result.1.now (subst Ascend c.split_at_place.ensures.parts c.requires)

pub returns : goal.returns
returns c =
    c.first_at.ensures ∙ sym (at_behind c.args.place c.split_at_place.result.0.now c.split_at_place.result.1.now c.split_at_place.ensures.before)
    ∙ sym (ap (λ counts. times_at counts c.args.place) c.split_at_place.ensures.parts)
