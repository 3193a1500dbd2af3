use Rattle.std.proofs.Common.{sym}
use Rattle.pol_entry_tally.specs.Counts.{held}
use Rattle.pol_entry_tally.proofs.Under.{not_under}
use Rattle.pol_entry_tally.proofs.reading.is_under.Goals as goal

pub returns-then-denies_nothing : goal.returns-then-denies_nothing
returns-then-denies_nothing c = sym (not_under (held c.args.counts.now) (c.denies_nothing.ensures c.if-denies_nothing.true) c.args.key.now)
