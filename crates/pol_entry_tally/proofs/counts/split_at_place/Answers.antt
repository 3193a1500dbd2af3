use Rattle.std.proofs.Common.{sym, ◌∙◌, ap}
use Rattle.std.specs.Option.{option_copied}
use Rattle.pol_entry_tally.proofs.AtPlaces.{all_from}
use Rattle.pol_entry_tally.proofs.counts.split_at_place.Goals as goal

pub returns-then-place-count-clause-from : goal.returns-then-place-count-clause-from
returns-then-place-count-clause-from c =
    all_from c.args.place c.args.counts.now _ c.in-Some.count.now (sym c.first.ensures.value ∙ ap option_copied c.in-Some.is) c.requires c.if-place-count.true c.split_at-then-place-count.ensures.back
