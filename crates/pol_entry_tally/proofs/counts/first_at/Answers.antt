use Rattle.std.proofs.Common.{sym, ◌∙◌, ap}
use Rattle.std.specs.Option.{option_copied}
use Rattle.pol_entry_tally.proofs.AtPlaces.{first_other}
use Rattle.pol_entry_tally.proofs.counts.first_at.Goals as goal

pub returns-else-count-place : goal.returns-else-count-place
returns-else-count-place c =
    first_other c.args.place c.args.counts.now c.in-Some.count.now (sym c.first.ensures.value ∙ ap option_copied c.in-Some.is) c.requires.ascend c.requires.from c.if-count-place.false
