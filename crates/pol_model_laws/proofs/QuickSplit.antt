-- The split of a range by halving blocks, which computes in few steps.
use Rattle.std.proofs.Common.{◌≡◌, ℕ, suc, zero, ◌+◌, ◌%◌, ◌^◌, ◌<◌, ◌≤◌, Bool, true, false, cond, ◌&&◌, ◌||◌, nat_le, nat_lt, List, [], ◌∷◌, ◌++◌, refl, sym, ◌∙◌, inl, inr, ◌⊎◌, arith}
use Rattle.std.proofs.lemmas.Bool.{and_parts, cases_Bool, or_cases, leb-true, ltb-true, cond-true, cond-false}
use Rattle.pol_ports.specs.PortPrefix.{prefix_at}
use Rattle.pol_ports.specs.PortRange.{range_from}
use Rattle.pol_ports.specs.Split.{split_of}
use Rattle.pol_ports.specs.declared.PortPrefix.{PortPrefix}
use Rattle.pol_ports.specs.declared.PortRange.{PortRange}
use Rattle.pol_ports.proofs.Blocks.{block_at, lower_half, upper_half}
use Rattle.pol_ports.proofs.Parts.{fits, Parts, whole, outside, halves, parts_of_block}
use Rattle.pol_ports.proofs.PartsCover.{fits_of_part, none_apart}

-- whether the block has no port of the range
abbrev misses : PortRange → ℕ → ℕ → Bool
misses range height first = nat_le (first + 2 ^ height) range.first || nat_lt range.last first

-- the parts in a block: its own prefix, or nothing, or those of its halves
abbrev pub quick_parts : PortRange → ℕ → ℕ → List PortPrefix
quick_parts range zero first = cond (fits range 0 first) (block_at 0 first ∷ []) []
quick_parts range (suc height) first =
    let halves = quick_parts range height first ++ quick_parts range height (first + 2 ^ height) in
    cond (fits range (suc height) first) (block_at (suc height) first ∷ []) (cond (misses range (suc height) first) [] halves)

and_true : (x : Bool) → (x && true) ≡ x
and_true true = refl
and_true false = refl

module _ (range : PortRange) where
  missed : (height first : ℕ) → misses range height first ≡ true → (first + 2 ^ height ≤ range.first) ⊎ (range.last < first)
  missed height first m =
      elim (or_cases (nat_le (first + 2 ^ height) range.first) (nat_lt range.last first) m) [
        | inl below ↦ inl (leb-true (first + 2 ^ height) range.first below)
        | inr above ↦ inr (ltb-true range.last first above)
      ]

  out_of_range : (first : ℕ) → (first < range.first) ⊎ (range.last < first) → fits range 0 first ≡ false
  out_of_range first o =
      elim (cases_Bool (fits range 0 first)) [
        | inl f ↦
            (let both = and_parts (nat_le range.first first) (nat_le (first + 2 ^ 0) (range.last + 1)) f in
            let low = leb-true range.first first both.0 in
            let high = leb-true (first + 2 ^ 0) (range.last + 1) both.1 in
            elim o [ inl below ↦ absurd (omega arith) | inr above ↦ absurd (omega arith) ])
        | inr f ↦ f
      ]

  quick_fits : (height first : ℕ) → fits range height first ≡ true → quick_parts range height first ≡ block_at height first ∷ []
  quick_fits zero first f = cond-true (fits range 0 first) (block_at 0 first ∷ []) [] f
  quick_fits (suc height) first f = cond-true (fits range (suc height) first) (block_at (suc height) first ∷ []) _ f

  quick_misses : (height first : ℕ) → fits range (suc height) first ≡ false → misses range (suc height) first ≡ true
      → quick_parts range (suc height) first ≡ []
  quick_misses height first f m =
      cond-false (fits range (suc height) first) (block_at (suc height) first ∷ []) _ f ∙ cond-true (misses range (suc height) first) [] _ m

  quick_halves : (height first : ℕ) → fits range (suc height) first ≡ false → misses range (suc height) first ≡ false
      → quick_parts range (suc height) first ≡ quick_parts range height first ++ quick_parts range height (first + 2 ^ height)
  quick_halves height first f m =
      cond-false (fits range (suc height) first) (block_at (suc height) first ∷ []) _ f ∙ cond-false (misses range (suc height) first) [] _ m

  quick_is : {height first : ℕ} {xs : List PortPrefix} → height ≤ 16 → first % 2 ^ height ≡ 0 → Parts range height first xs
      → quick_parts range height first ≡ xs
  quick_is {height} {first} le h (whole part) = quick_fits height first (fits_of_part range height first le h part)
  quick_is {first = first} le h (outside o) = cond-false (fits range 0 first) (block_at 0 first ∷ []) [] (out_of_range first o)
  quick_is {first = first} le h (halves {height = height} {xs = xs} {ys = ys} f ps qs) =
      elim (cases_Bool (misses range (suc height) first)) [
        | inl m ↦ quick_misses height first f m ∙ sym (none_apart range le h (halves f ps qs) (missed (suc height) first m))
        | inr m ↦
            (let low = quick_is (omega arith) (lower_half height first h) ps in
            let high = quick_is (omega arith) (upper_half height first h) qs in
            quick_halves height first f m ∙ (λ i. low i ++ high i))
      ]

  quick_split : split_of range ≡ quick_parts range 16 0
  unfolding split_of
  quick_split = sym (quick_is (omega arith) refl (parts_of_block range 16 0 (omega arith) refl (and_true (fits range 16 0))))

pub split_80 : split_of (range_from 80 80) ≡ prefix_at 80 16 ∷ []
split_80 = quick_split (range_from 80 80)

pub split_wide : split_of (range_from 1 65534)
    ≡ prefix_at 1 16 ∷ prefix_at 2 15 ∷ prefix_at 4 14 ∷ prefix_at 8 13 ∷ prefix_at 16 12 ∷ prefix_at 32 11 ∷ prefix_at 64 10 ∷ prefix_at 128 9
    ∷ prefix_at 256 8 ∷ prefix_at 512 7 ∷ prefix_at 1024 6 ∷ prefix_at 2048 5 ∷ prefix_at 4096 4 ∷ prefix_at 8192 3 ∷ prefix_at 16384 2
    ∷ prefix_at 32768 2 ∷ prefix_at 49152 3 ∷ prefix_at 57344 4 ∷ prefix_at 61440 5 ∷ prefix_at 63488 6 ∷ prefix_at 64512 7 ∷ prefix_at 65024 8
    ∷ prefix_at 65280 9 ∷ prefix_at 65408 10 ∷ prefix_at 65472 11 ∷ prefix_at 65504 12 ∷ prefix_at 65520 13 ∷ prefix_at 65528 14
    ∷ prefix_at 65532 15 ∷ prefix_at 65534 16 ∷ []
split_wide = quick_split (range_from 1 65534)
