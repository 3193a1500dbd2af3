use Rattle.std.proofs.Common.{take}
use Rattle.pol_selcache.specs.ByHeading.{AreFiled, AreSmall}
use Rattle.pol_selcache.proofs.by_heading.file_each.Given as goal

abbrev pub invariant-loop-number : goal.invariant-loop-number
invariant-loop-number l = AreFiled l.identities (take l.number-index l.numbers) l.filing × AreSmall l.filing
