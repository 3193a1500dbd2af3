-- What holds of the split of each range.
use Rattle.std.proofs.Common.{◌≡◌, ◌^◌, ◌<◌, ◌≤◌, Bool, true, ◌&&◌, false, List, [], ◌++◌, length, refl, ◌↔◌, arith}
use Rattle.std.specs.List.{Contains, AllPairs}
use Rattle.std.proofs.lemmas.List.Sums.{count_by-le-length}
use Rattle.pol_ports.specs.declared.PortRange.{PortRange}
use Rattle.pol_ports.specs.declared.PortPrefix.{PortPrefix}
use Rattle.pol_ports.specs.PortPrefix.{Precedes}
use Rattle.pol_ports.specs.Split.{is_part, parts_within, split_of, CoversExactly}
use Rattle.pol_ports.proofs.Parts.{Parts, parts_of_block, fits}
use Rattle.pol_ports.proofs.PartsCover.{parts_ascend, parts_cover}
use Rattle.pol_ports.proofs.Count.{two_ends}
use Rattle.pol_ports.proofs.Least.{no_shorter, is_within}
use Rattle.pol_ports.proofs.Members.{part_listed, listed_part}

and_true : (x : Bool) → (x && true) ≡ x
and_true true = refl
and_true false = refl

module _ (range : PortRange) where
  the_parts : Parts range 16 0 (parts_within range 16 0)
  the_parts = parts_of_block range 16 0 (omega arith) refl (and_true (fits range 16 0))

  -- its prefixes are apart, and ascend
  pub split_ascends : AllPairs Precedes (split_of range)
  unfolding split_of
  split_ascends = parts_ascend range (omega arith) refl the_parts

  -- they have together the ports of the range
  pub split_covers : CoversExactly range (split_of range)
  unfolding split_of
  split_covers = λ port small. parts_cover range (omega arith) refl the_parts port (omega arith) (omega arith)

  pub split_few : length (split_of range) ≤ 30
  unfolding split_of
  split_few = omega (arith, two_ends range (omega arith) refl the_parts)

  -- no list of prefixes that has exactly those ports is shorter
  pub split_least : (other : List PortPrefix) → CoversExactly range other → length (split_of range) ≤ length other
  unfolding split_of
  split_least other covers =
      omega (arith, no_shorter range other covers (omega arith) refl (omega arith) the_parts, count_by-le-length (is_within 16 0) other)

  -- they are the parts
  pub split_parts : range.last < 2 ^ 16 → (p : PortPrefix) → Contains (split_of range) p ↔ (is_part range p ≡ true)
  unfolding split_of
  split_parts small p = (listed_part range p, part_listed range p small)

  -- they are the parts of all ports
  pub split_is_parts : split_of range ≡ parts_within range 16 0
  unfolding split_of
  split_is_parts = refl

  -- a list that was empty, after the split came to it
  pub split_from : (start ends : List PortPrefix) → start ≡ [] → ends ≡ start ++ split_of range → ends ≡ split_of range
  split_from start ends none came = cc
