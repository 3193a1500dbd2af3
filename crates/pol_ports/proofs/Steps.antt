-- One step of the recursion over blocks, in terms of the block's prefix.
use Rattle.std.proofs.Common.{◌≡◌, ℕ, suc, ◌+◌, ◌-◌, ◌%◌, ◌^◌, ◌<◌, ◌≤◌, true, false, nat_le, nat_lt, List, [], ◌∷◌, ◌++◌, refl, ap, subst, inl, inr, ◌⊎◌, ⊎_elim, arith}
use Rattle.std.proofs.lemmas.Bool.{cases_lt, le-leb, leb-true, leb-false, ltb-true, ltb-false, and_from, and_parts, or_cases, or_parts}
use Rattle.std.proofs.lemmas.Nat.{pow_pos}
use Rattle.std.proofs.Math.Nat.{two-pow-succ}
use Rattle.pol_ports.specs.declared.PortRange.{PortRange}
use Rattle.pol_ports.specs.declared.PortPrefix.{PortPrefix}
use Rattle.pol_ports.specs.PortPrefix.{end_of}
use Rattle.pol_ports.specs.Split.{lies_in, is_apart, is_part, parts_within}
use Rattle.pol_ports.proofs.Blocks.{block_at, block_at-bits, prefix_same, smaller_multiple, sum_multiple}
use Rattle.pol_ports.proofs.Parts.{fits, Parts, whole, outside, halves, and_open, parts_of_block, parts_within-suc, half_is_part}
use Rattle.pol_ports.proofs.PartsCover.{none_apart}
use Rattle.pol_ports.proofs.Least.{end_small}

-- a prefix is that of its own block
pub block_of : (p : PortPrefix) → block_at (16 - p.len) p.bits ≡ p
block_of p = prefix_same (block_at (16 - p.len) p.bits) p (block_at-bits (16 - p.len) p.bits (omega arith) p.clear) (omega (arith, p.short))

-- the prefixes of a block's halves
pub lower_clear : (p : PortPrefix) → p.bits % 2 ^ (16 - (p.len + 1)) ≡ 0
lower_clear p = smaller_multiple p.bits (16 - p.len) (16 - (p.len + 1)) (omega arith) p.clear

pub upper_clear : (p : PortPrefix) → (p.bits + 2 ^ (15 - p.len)) % 2 ^ (16 - (p.len + 1)) ≡ 0
upper_clear p = sum_multiple p.bits (15 - p.len) (16 - (p.len + 1)) (omega arith) (lower_clear p)

count_halves : (p : PortPrefix) → p.len < 16 → 2 ^ (16 - p.len) ≡ 2 ^ (15 - p.len) + 2 ^ (15 - p.len)
count_halves p long = let e : 16 - p.len ≡ suc (15 - p.len) = omega arith in rw e (two-pow-succ (15 - p.len))

pub upper_fits : (p : PortPrefix) → p.bits < 2 ^ 16 → p.len < 16 → p.bits + 2 ^ (15 - p.len) < 2 ^ 16
upper_fits p small long = omega (arith, count_halves p long, end_small p small, pow_pos (15 - p.len))

-- a single port lies in the range or has no port of it
pub has_halves : (range : PortRange) (p : PortPrefix) → range.first < end_of p → p.bits ≤ range.last
    → (range.first ≤ p.bits → end_of p ≤ range.last + 1 → ⊥) → p.len < 16
has_halves range p above below open' =
    ⊎_elim (λ (l : p.len < 16). l)
    (λ (g : 16 ≤ p.len).
    let e : 16 - p.len ≡ 0 = omega arith in
    let one : 2 ^ (16 - p.len) ≡ 1 = ap {B = ℕ} (λ k. 2 ^ k) e in
    absurd (open' (omega arith) (omega arith)))
    (cases_lt p.len 16)

-- a block that lies in the range has its own prefix alone
itself : {range : PortRange} {height first : ℕ} {xs : List PortPrefix} → Parts range height first xs → fits range height first ≡ true
    → xs ≡ block_at height first ∷ []
itself (whole part) f = refl
itself {range} {first = first} (outside o) f =
    let both = and_parts (nat_le range.first first) (nat_le (first + 2 ^ 0) (range.last + 1)) f in
    let low = leb-true range.first first both.0 in
    let high = leb-true (first + 2 ^ 0) (range.last + 1) both.1 in
    absurd (⊎_elim (λ (l : first < range.first). omega arith) (λ (l : range.last < first). omega arith) o)
itself (halves g ps qs) f = absurd (cc (f, g))

module _ (range : PortRange) (p : PortPrefix) (own : is_part range p ≡ lies_in range p) where
  the_parts : Parts range (16 - p.len) p.bits (parts_within range (16 - p.len) p.bits)
  the_parts = parts_of_block range (16 - p.len) p.bits (omega arith) p.clear (cc (block_of p, own))

  -- what a block gives that has no port of the range
  pub parts_apart : is_apart range p ≡ true → parts_within range (16 - p.len) p.bits ≡ []
  parts_apart apart =
      none_apart range (omega arith) p.clear the_parts
      (elim (or_cases (nat_le (end_of p) range.first) (nat_lt range.last p.bits) apart) [
        | inl below ↦ inl (leb-true (end_of p) range.first below)
        | inr above ↦ inr (ltb-true range.last p.bits above)
      ])

  -- what a block gives that lies in the range
  pub parts_inside : lies_in range p ≡ true → parts_within range (16 - p.len) p.bits ≡ p ∷ []
  parts_inside inside = cc (itself the_parts inside, block_of p)

  module _ (apart : is_apart range p ≡ false) (inside : lies_in range p ≡ false) where
    -- any other block has two halves
    pub two_halves : p.len < 16
    two_halves =
        let out = or_parts (nat_le (end_of p) range.first) (nat_lt range.last p.bits) apart in
        has_halves range p (leb-false (end_of p) range.first out.0) (ltb-false range.last p.bits out.1)
        (λ low high. let yes : lies_in range p ≡ true = and_from (nat_le range.first p.bits) (nat_le (end_of p) (range.last + 1))
        (le-leb range.first p.bits low) (le-leb (end_of p) (range.last + 1) high) in cc (inside, yes))

    height_is : 16 - p.len ≡ suc (15 - p.len)
    height_is = let l = two_halves in omega arith

    wide : (fits range (suc (15 - p.len)) p.bits ≡ false) × (p.bits % 2 ^ suc (15 - p.len) ≡ 0)
    wide =
        let P : ℕ → Type 0 = λ k. (fits range k p.bits ≡ false) × (p.bits % 2 ^ k ≡ 0) in
        subst P height_is (inside, p.clear)

    module _ (half : PortPrefix) (len : half.len ≡ p.len + 1) where
      half_height : 16 - half.len ≡ 15 - p.len
      half_height = let l = two_halves in omega arith

      half_is : (block_at (15 - p.len) half.bits ≡ half) × (half.bits % 2 ^ (15 - p.len) ≡ 0) × (fits range (15 - p.len) half.bits ≡ lies_in range half)
      half_is =
          let P : ℕ → Type 0 = λ k. (block_at k half.bits ≡ half) × (half.bits % 2 ^ k ≡ 0) × (fits range k half.bits ≡ lies_in range half) in
          subst P half_height (block_of half, half.clear, refl)

      -- the prefix of a half is a part where it lies in the range
      pub half_own : (half.bits ≡ p.bits) ⊎ (half.bits ≡ p.bits + 2 ^ (15 - p.len)) → is_part range half ≡ lies_in range half
      half_own at =
          let l = two_halves in
          let pos = pow_pos (15 - p.len) in
          let double = two-pow-succ (15 - p.len) in
          let low : p.bits ≤ half.bits = ⊎_elim (λ (e : half.bits ≡ p.bits). omega arith) (λ (e : half.bits ≡ p.bits + 2 ^ (15 - p.len)). omega arith) at in
          let high : half.bits < p.bits + 2 ^ suc (15 - p.len) = ⊎_elim (λ (e : half.bits ≡ p.bits). omega arith) (λ (e : half.bits ≡ p.bits + 2 ^ (15 - p.len)). omega arith) at in
          let is = half_is_part range (15 - p.len) half.bits p.bits (omega arith) half_is.1 wide.1 low high in
          cc (half_is.0, half_is.2, is, and_open (fits range (15 - p.len) half.bits) wide.0)

    -- what such a block gives is what its halves give
    pub parts_halved : (low high : PortPrefix) → low.len ≡ p.len + 1 → high.len ≡ p.len + 1 → low.bits ≡ p.bits → high.bits ≡ p.bits + 2 ^ (15 - p.len)
        → parts_within range (16 - p.len) p.bits ≡ parts_within range (16 - low.len) low.bits ++ parts_within range (16 - high.len) high.bits
    parts_halved low high low_len high_len low_at high_at =
        let block : block_at (suc (15 - p.len)) p.bits ≡ p = let P : ℕ → Type 0 = λ k. block_at k p.bits ≡ p in subst P height_is (block_of p) in
        cc (height_is, half_height low low_len, half_height high high_len, parts_within-suc range (15 - p.len) p.bits, block, own, inside, low_at, high_at)
