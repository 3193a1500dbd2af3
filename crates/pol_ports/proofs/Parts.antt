-- The parts of a range's split in a block: a recursion over the blocks' halves gives them.
use Rattle.std.proofs.Common.{◌≡◌, ℕ, suc, zero, ◌+◌, ◌%◌, ◌^◌, ◌<◌, ◌≤◌, Bool, true, false, not, cond, ◌&&◌, ◌==◌, nat_le, List, [], ◌∷◌, ◌++◌, refl, sym, ◌∙◌, ap, subst, inl, inr, ◌⊎◌, ⊎_elim, arith}
use Rattle.std.proofs.lemmas.Bool.{cases_Bool, and_cases, leb-false, ne_eqb}
use Rattle.std.proofs.lemmas.List.Elements.{filter-append}
use Rattle.std.proofs.lemmas.Bool.Decides.{nat_tests}
use Rattle.std.proofs.lemmas.Nat.{pow_pos}
use Rattle.std.proofs.Math.Nat.{two-pow-succ}
use Rattle.pol_ports.specs.declared.PortRange.{PortRange}
use Rattle.pol_ports.specs.declared.PortPrefix.{PortPrefix}
use Rattle.pol_ports.specs.PortPrefix.{parent_of}
use Rattle.pol_ports.specs.Split.{lies_in, is_part, prefixes_within, parts_within}
use Rattle.pol_ports.proofs.Blocks.{block_at, block_at-bits, block_at-count, lower_half, upper_half, parent_of-bits, parent_of-count}

-- whether the block of 2 ^ height ports at `first` lies in the range
abbrev pub fits : PortRange → ℕ → ℕ → Bool
fits range height first = nat_le range.first first && nat_le (first + 2 ^ height) (range.last + 1)

pub and_open : (x : Bool) {y : Bool} → y ≡ false → (x && not y) ≡ x
and_open true e = cc
and_open false e = refl

-- what the parts in a block are
pub data Parts (range : PortRange) : ℕ → ℕ → List PortPrefix → Type 0 where
  -- the block's own prefix, where it is a part
  whole : {height first : ℕ} → is_part range (block_at height first) ≡ true → Parts range height first (block_at height first ∷ [])
  -- nothing, where the block is a single port outside the range
  outside : {first : ℕ} → (first < range.first) ⊎ (range.last < first) → Parts range 0 first []
  -- those of its halves, where it doesn't lie in the range
  halves : {height first : ℕ} {xs ys : List PortPrefix} → fits range (suc height) first ≡ false → Parts range height first xs
      → Parts range height (first + 2 ^ height) ys → Parts range (suc height) first (xs ++ ys)

module _ (range : PortRange) where
  pub lies_in-block : (height first : ℕ) → height ≤ 16 → first % 2 ^ height ≡ 0 → lies_in range (block_at height first) ≡ fits range height first
  lies_in-block height first le h = cc (block_at-bits height first le h, block_at-count height first le)

  lies_in-parent : (height first around : ℕ) → suc height ≤ 16 → first % 2 ^ height ≡ 0 → around % 2 ^ suc height ≡ 0
      → around ≤ first → first < around + 2 ^ suc height → lies_in range (parent_of (block_at height first)) ≡ fits range (suc height) around
  lies_in-parent height first around le h h' low high =
      cc (parent_of-bits height first around le h h' low high, parent_of-count height first le)

  parts_within-zero : (first : ℕ) → parts_within range 0 first ≡ cond (is_part range (block_at 0 first)) (block_at 0 first ∷ []) []
  unfolding parts_within prefixes_within
  parts_within-zero first = refl

  pub parts_within-suc : (height first : ℕ) → parts_within range (suc height) first
      ≡ cond (is_part range (block_at (suc height) first))
      (block_at (suc height) first ∷ (parts_within range height first ++ parts_within range height (first + 2 ^ height)))
      (parts_within range height first ++ parts_within range height (first + 2 ^ height))
  unfolding parts_within prefixes_within
  parts_within-suc height first =
      rw (filter-append (is_part range) (prefixes_within height first) (prefixes_within height (first + 2 ^ height)))

  -- the prefix of a half of a block is a part where it lies in the range and the block doesn't
  pub half_is_part : (height first around : ℕ) → suc height ≤ 16 → first % 2 ^ height ≡ 0 → around % 2 ^ suc height ≡ 0
      → around ≤ first → first < around + 2 ^ suc height
      → is_part range (block_at height first) ≡ (fits range height first && not (fits range (suc height) around))
  half_is_part height first around le h h' low high =
      let long : ((block_at height first).len == 0) ≡ false = ne_eqb _ _ (λ (e : (block_at height first).len ≡ 0). omega arith) in
      cc (lies_in-block height first (omega arith) h, lies_in-parent height first around le h h' low high, long)

  half_fits : (height first : ℕ) → fits range (suc height) first ≡ true → (fits range height first ≡ true) × (fits range height (first + 2 ^ height) ≡ true)
  half_fits height first f = (grind (arith, nat_tests, two-pow-succ height), grind (arith, nat_tests, two-pow-succ height))

  -- in a block that lies in the range, and whose prefix is no part, there are no parts
  shut : (height first : ℕ) → height ≤ 16 → first % 2 ^ height ≡ 0 → is_part range (block_at height first) ≡ false
      → fits range height first ≡ true → parts_within range height first ≡ []
  shut zero first le h closed f = parts_within-zero first ∙ ap (λ b. cond b (block_at 0 first ∷ []) []) closed
  shut (suc height) first le h closed f =
      let fs = half_fits height first f in
      let up : first < first + 2 ^ suc height = omega (arith, pow_pos (suc height)) in
      let up' : first + 2 ^ height < first + 2 ^ suc height = omega (arith, two-pow-succ height, pow_pos height) in
      let low : is_part range (block_at height first) ≡ false =
      half_is_part height first first le (lower_half height first h) h (omega arith) up ∙ cc f in
      let high : is_part range (block_at height (first + 2 ^ height)) ≡ false =
      half_is_part height (first + 2 ^ height) first le (upper_half height first h) h (omega arith) up' ∙ cc f in
      let none_low = shut height first (omega arith) (lower_half height first h) low fs.0 in
      let none_high = shut height (first + 2 ^ height) (omega arith) (upper_half height first h) high fs.1 in
      parts_within-suc height first ∙ cc (closed, none_low, none_high)

  out_of_range : (first : ℕ) → fits range 0 first ≡ false → (first < range.first) ⊎ (range.last < first)
  out_of_range first f =
      ⊎_elim (λ (e : nat_le range.first first ≡ false). inl (leb-false range.first first e))
      (λ (e : nat_le (first + 2 ^ 0) (range.last + 1) ≡ false).
      inr (omega (arith, leb-false (first + 2 ^ 0) (range.last + 1) e)))
      (and_cases (nat_le range.first first) (nat_le (first + 2 ^ 0) (range.last + 1)) f)

  -- the parts of a block whose prefix is a part where it lies in the range at all
  pub parts_of_block : (height first : ℕ) → height ≤ 16 → first % 2 ^ height ≡ 0
      → is_part range (block_at height first) ≡ fits range height first → Parts range height first (parts_within range height first)
  parts_of_block zero first le h own =
      let P : List PortPrefix → Type 0 = λ xs. Parts range 0 first xs in
      let is = parts_within-zero first in
      ⊎_elim
      (λ (f : fits range 0 first ≡ true).
      let part : is_part range (block_at 0 first) ≡ true = own ∙ f in
      let e : parts_within range 0 first ≡ block_at 0 first ∷ [] = cc (is, part) in
      subst P (sym e) (whole part))
      (λ (f : fits range 0 first ≡ false).
      let e : parts_within range 0 first ≡ [] = cc (is, own, f) in
      subst P (sym e) (outside (out_of_range first f)))
      (cases_Bool (fits range 0 first))
  parts_of_block (suc height) first le h own =
      let P : List PortPrefix → Type 0 = λ xs. Parts range (suc height) first xs in
      let is = parts_within-suc height first in
      let up : first < first + 2 ^ suc height = omega (arith, pow_pos (suc height)) in
      let up' : first + 2 ^ height < first + 2 ^ suc height = omega (arith, two-pow-succ height, pow_pos height) in
      let aligned = lower_half height first h in
      let aligned' = upper_half height first h in
      let low = half_is_part height first first le aligned h (omega arith) up in
      let high = half_is_part height (first + 2 ^ height) first le aligned' h (omega arith) up' in
      ⊎_elim
      (λ (f : fits range (suc height) first ≡ true).
      let fs = half_fits height first f in
      let part : is_part range (block_at (suc height) first) ≡ true = own ∙ f in
      let none_low = shut height first (omega arith) aligned (low ∙ cc f) fs.0 in
      let none_high = shut height (first + 2 ^ height) (omega arith) aligned' (high ∙ cc f) fs.1 in
      let e : parts_within range (suc height) first ≡ block_at (suc height) first ∷ [] = cc (is, part, none_low, none_high) in
      subst P (sym e) (whole part))
      (λ (f : fits range (suc height) first ≡ false).
      let e : parts_within range (suc height) first ≡ parts_within range height first ++ parts_within range height (first + 2 ^ height) = cc (is, own, f) in
      subst P (sym e)
      (halves f (parts_of_block height first (omega arith) aligned (low ∙ and_open (fits range height first) f))
      (parts_of_block height (first + 2 ^ height) (omega arith) aligned' (high ∙ and_open (fits range height (first + 2 ^ height)) f))))
      (cases_Bool (fits range (suc height) first))
