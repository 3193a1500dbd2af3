-- A range of one port has one prefix.
use Rattle.std.proofs.Common.{◌≡◌, ◌^◌, ◌-◌, ◌<◌, ◌≤◌, ◌+◌, not, ◌||◌, ◌==◌, true, nat_le, List, [], ◌∷◌, refl, sym, ◌∙◌, ap, subst, ⊎_elim, arith}
use Rattle.std.specs.List.{AllPairs, Contains}
use Rattle.std.proofs.lemmas.Bool.{and_from, and_parts, both_ways, cases_lt, le-leb, leb-true}
use Rattle.std.proofs.lemmas.Nat.{pow_below}
use Rattle.pol_data.proofs.Members.{Contains-here, Contains-later}
use Rattle.pol_ports.specs.declared.PortPrefix.{PortPrefix}
use Rattle.pol_ports.specs.declared.PortRange.{PortRange}
use Rattle.pol_ports.specs.PortPrefix.{Precedes, end_of, parent_of}
use Rattle.pol_ports.specs.PortRange.{holds}
use Rattle.pol_ports.specs.Split.{any_holds, lies_in, split_of}
use Rattle.pol_ports.proofs.Blocks.{prefix_same}
use Rattle.pol_ports.proofs.SplitLaws.{split_ascends, split_covers, split_parts}

module _ (range : PortRange) (one : range.first ≡ range.last) (small : range.last < 2 ^ 16) (part : PortPrefix) (bits : part.bits ≡ range.first) (len : part.len ≡ 16) where
  -- each part is that prefix
  is_it : (p : PortPrefix) → Contains (split_of range) p → p ≡ part
  is_it p there =
      let lies = (and_parts (lies_in range p) ((p.len == 0) || not (lies_in range (parent_of p))) ((split_parts range small p).0 there)).0 in
      let ends = and_parts (nat_le range.first p.bits) (nat_le (end_of p) (range.last + 1)) lies in
      let low = leb-true range.first p.bits ends.0 in
      let high = leb-true (end_of p) (range.last + 1) ends.1 in
      let long : 16 ≤ p.len =
      ⊎_elim (λ (short : p.len < 16). absurd (omega (arith, one, low, high, pow_below 0 (16 - p.len) (omega (arith, short)))))
      (λ (long : 16 ≤ p.len). long) (cases_lt p.len 16) in
      let same_len : p.len ≡ part.len = omega (arith, long, p.short, len) in
      let count : 2 ^ (16 - p.len) ≡ 1 = let none : 16 - p.len ≡ 0 = omega (arith, long) in ap (λ n. 2 ^ n) none in
      prefix_same p part (omega (arith, one, low, high, bits, count)) same_len

  held : holds range range.first ≡ true
  held = and_from (nat_le range.first range.first) (nat_le range.first range.last) (le-leb range.first range.first (omega arith)) (le-leb range.first range.last (omega (arith, one)))

  pub one_part : split_of range ≡ part ∷ []
  one_part = by (split_of range) refl
    where
      by : (parts : List PortPrefix) → split_of range ≡ parts → parts ≡ part ∷ []
      by [] e =
          absurd (let port : range.first < 2 ^ 16 = omega (arith, one, small) in
          both_ways (any_holds [] range.first) refl (ap (λ ps. any_holds ps range.first) (sym e) ∙ split_covers range range.first port ∙ held))
      by (p ∷ []) e = ap (λ q. q ∷ []) (is_it p (subst (λ ps. Contains ps p) (sym e) (Contains-here p [])))
      by (p ∷ q ∷ parts) e =
          let first = is_it p (subst (λ ps. Contains ps p) (sym e) (Contains-here p (q ∷ parts))) in
          let second = is_it q (subst (λ ps. Contains ps q) (sym e) (Contains-later p (q ∷ parts) q (Contains-here q parts))) in
          let apart : end_of p ≤ q.bits = subst (AllPairs Precedes) e (split_ascends range) 0 1 part (omega arith) (omega arith) in
          let ends : end_of p ≡ part.bits + 2 ^ (16 - part.len) = ap end_of first in
          let count : 2 ^ (16 - part.len) ≡ 1 = let none : 16 - part.len ≡ 0 = omega (arith, len) in ap (λ n. 2 ^ n) none in
          let same : q.bits ≡ part.bits = ap (λ (x : PortPrefix). x.bits) second in
          absurd (omega (arith, apart, ends, count, same))
