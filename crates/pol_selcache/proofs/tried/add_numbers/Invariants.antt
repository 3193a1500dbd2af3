use Rattle.std.proofs.Common.{take}
use Rattle.std.specs.List.{AllByRecursion}
use Rattle.pol_headings.specs.Tried.{AreKept}
use Rattle.pol_selcache.specs.Tried.{HasAllAt}
use Rattle.pol_selcache.proofs.tried.add_numbers.Given as goal

abbrev pub invariant-loop-number : goal.invariant-loop-number
invariant-loop-number l =
    AllByRecursion (HasAllAt l.identities l.headings) (take l.number-index l.numbers) × AreKept l.initial.headings l.headings
