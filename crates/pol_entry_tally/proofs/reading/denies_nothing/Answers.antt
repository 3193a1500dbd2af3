use Rattle.std.proofs.Common.{sym, ◌∙◌, ap}
use Rattle.std.specs.Option.{option_copied}
use Rattle.std.proofs.lemmas.Bool.{leb-true}
use Rattle.pol_entry_tally.proofs.Under.{first_allows}
use Rattle.pol_entry_tally.proofs.reading.denies_nothing.Goals as goal

pub returns-in-Some : goal.returns-in-Some
returns-in-Some c = λ high q.
    first_allows c.args.counts.now c.in-Some.count.now (sym c.first.ensures.value ∙ ap option_copied c.in-Some.is) c.requires (leb-true 8388608 c.in-Some.count.now.place high) q
