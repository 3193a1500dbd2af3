-- Each prefix that is a part of a range's split is an element of it.
use Rattle.std.proofs.Common.{◌≡◌, ℕ, suc, zero, ◌+◌, ◌-◌, ◌%◌, ◌^◌, ◌<◌, ◌≤◌, true, nat_le, [], ◌∷◌, ◌++◌, refl, ◌∙◌, ap, subst, inl, inr, ⊎_elim, arith}
use Rattle.std.specs.List.{Contains, filter}
use Rattle.std.proofs.lemmas.Bool.{cases_lt, and_parts, leb-true}
use Rattle.std.proofs.lemmas.List.Elements.{Contains-append_left, Contains-append_right, All-contains, filter_passes}
use Rattle.std.proofs.lemmas.Nat.{pow_pos, pow_below}
use Rattle.std.proofs.Math.Nat.{two-pow-succ}
use Rattle.pol_data.proofs.Members.{Contains-here, Contains-later, Contains-filter}
use Rattle.pol_ports.specs.declared.PortRange.{PortRange}
use Rattle.pol_ports.specs.declared.PortPrefix.{PortPrefix}
use Rattle.pol_ports.specs.PortPrefix.{end_of}
use Rattle.pol_ports.specs.Split.{lies_in, is_part, prefixes_within, parts_within}
use Rattle.pol_ports.proofs.Blocks.{block_at, block_at-bits, block_at-count, prefix_same, lower_half, upper_half, shorter_contains}

-- a prefix that has no more ports than a block has a length that says so
len_from_count : (p : PortPrefix) (height : ℕ) → height ≤ 16 → 2 ^ (16 - p.len) ≤ 2 ^ height → 16 - height ≤ p.len
len_from_count p height le count =
    ⊎_elim (λ (l : p.len < 16 - height). absurd (omega (arith, pow_below height (16 - p.len) (omega arith))))
    (λ (g : 16 - height ≤ p.len). g)
    (cases_lt p.len (16 - height))

-- a prefix with no port outside a block and as long as the block's own is that prefix
whole_block : (p : PortPrefix) (height first : ℕ) → height ≤ 16 → first % 2 ^ height ≡ 0 → first ≤ p.bits → end_of p ≤ first + 2 ^ height
    → p.len ≡ 16 - height → block_at height first ≡ p
whole_block p height first le h low high len =
    let e : 16 - p.len ≡ height = omega arith in
    let count : 2 ^ (16 - p.len) ≡ 2 ^ height = ap {B = ℕ} (λ k. 2 ^ k) e in
    prefix_same (block_at height first) p (block_at-bits height first le h ∙ omega arith) (omega (arith, p.short))

-- each prefix with no port outside a block is listed for it
pub within_listed : (height first : ℕ) (p : PortPrefix) → height ≤ 16 → first % 2 ^ height ≡ 0 → first ≤ p.bits → end_of p ≤ first + 2 ^ height
    → Contains (prefixes_within height first) p
unfolding prefixes_within
within_listed zero first p le h low high =
    let len = len_from_count p 0 le (omega arith) in
    let same = whole_block p 0 first le h low high (omega (arith, p.short)) in
    let P : PortPrefix → Type 0 = λ q. Contains (block_at 0 first ∷ []) q in
    subst P same (Contains-here (block_at 0 first) [])
within_listed (suc height) first p le h low high =
    let own = block_at (suc height) first in
    let lows = prefixes_within height first in
    let middle = first + 2 ^ height in
    let highs = prefixes_within height middle in
    let double = two-pow-succ height in
    elim (cases_lt (16 - suc height) p.len) [
      | inl narrow ↦
          (let half = block_at height first in
          let half_bits = block_at-bits height first (omega arith) (lower_half height first h) in
          let half_count = block_at-count height first (omega arith) in
          let pos = pow_pos (16 - p.len) in
          elim (cases_lt p.bits middle) [
            | inl left ↦
                (let inside = shorter_contains half p (omega arith) (omega arith) (omega arith) in
                Contains-later own (lows ++ highs) p
                (Contains-append_left lows highs p
                (within_listed height first p (omega arith) (lower_half height first h) low (omega arith))))
            | inr right ↦
                Contains-later own (lows ++ highs) p
                (Contains-append_right lows highs p
                (within_listed height middle p (omega arith) (upper_half height first h) right (omega arith)))
          ])
      | inr wide ↦
          (let len = len_from_count p (suc height) le (omega arith) in
          let same = whole_block p (suc height) first le h low high (omega arith) in
          let P : PortPrefix → Type 0 = λ q. Contains (own ∷ (lows ++ highs)) q in
          subst P same (Contains-here own (lows ++ highs)))
    ]

-- the parts of a range are what its split lists
pub part_listed : (range : PortRange) (p : PortPrefix) → range.last < 2 ^ 16 → is_part range p ≡ true → Contains (parts_within range 16 0) p
unfolding parts_within
part_listed range p small part =
    let lies = (and_parts (lies_in range p) _ part).0 in
    let high = leb-true (end_of p) (range.last + 1) (and_parts (nat_le range.first p.bits) _ lies).1 in
    Contains-filter (is_part range) (prefixes_within 16 0) p part (within_listed 16 0 p (omega arith) refl (omega arith) (omega arith))

pub listed_part : (range : PortRange) (p : PortPrefix) → Contains (parts_within range 16 0) p → is_part range p ≡ true
unfolding parts_within
listed_part range p has =
    let Passes : PortPrefix → Type 0 = λ q. is_part range q ≡ true in
    All-contains Passes (filter (is_part range) (prefixes_within 16 0)) p (filter_passes (is_part range) (prefixes_within 16 0)) has
