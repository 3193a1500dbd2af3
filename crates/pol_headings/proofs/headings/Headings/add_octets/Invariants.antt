use Rattle.std.proofs.Common.{◌≡◌, ◌||◌}
use Rattle.pol_headings.specs.declared.heading.Heading.{Heading}
use Rattle.pol_headings.specs.Inside.{is_octets}
use Rattle.pol_headings.specs.Tried.{is_among}
use Rattle.pol_headings.proofs.headings.Headings.add_octets.Given as goal

abbrev pub invariant-loop-octets : goal.invariant-loop-octets
invariant-loop-octets l = (other : Heading) → is_among l.self other ≡ (is_among l.initial.self other || is_octets l.prefix l.octets other)
