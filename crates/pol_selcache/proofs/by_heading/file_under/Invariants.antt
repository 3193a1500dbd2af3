use Rattle.std.proofs.Common.{◌≡◌, ◌||◌, ◌&&◌, ◌==◌, ℕ, take}
use Rattle.pol_headings.specs.declared.heading.Heading.{Heading}
use Rattle.pol_headings.specs.Filed.{is_filed}
use Rattle.pol_headings.specs.Tried.{is_among}
use Rattle.pol_selcache.proofs.by_heading.file_under.Given as goal

abbrev pub invariant-loop-heading : goal.invariant-loop-heading
invariant-loop-heading l =
    (heading : Heading) (n : ℕ) → is_filed l.filing heading n ≡ (is_filed l.fn.filing heading n || (is_among (take l.heading-index l.headings) heading && (l.number == n)))
