-- No list of prefixes that covers a range exactly is shorter than the range's split.
use Rattle.std.proofs.Common.{◌≡◌, ℕ, suc, ◌+◌, ◌-◌, ◌%◌, ◌^◌, ◌<◌, ◌≤◌, min, Bool, true, false, not, cond, ◌&&◌, ◌==◌, nat_le, nat_lt, List, [], ◌∷◌, length, get_or, refl, sym, ◌∙◌, inl, inr, arith, length-append}
use Rattle.std.specs.List.{count_by}
use Rattle.std.proofs.lemmas.Bool.{cases_lt, and_parts, or_cases, leb-true, le-leb, ltb-true, lt-ltb, and_from, eqb-true, not-true}
use Rattle.std.proofs.lemmas.List.Folds.{Any-from_list_any, list_any-from_Any}
use Rattle.std.proofs.lemmas.List.Sums.{sum_by-cons}
use Rattle.std.proofs.lemmas.Nat.{pow_pos}
use Rattle.std.proofs.Math.Nat.{two-pow-succ, div-mul-le_self, lt-div-mul-add}
use Rattle.pol_data.proofs.Counts.{count_by-some}
use Rattle.pol_ports.specs.declared.PortRange.{PortRange}
use Rattle.pol_ports.specs.declared.PortPrefix.{PortPrefix}
use Rattle.pol_ports.specs.PortRange.{holds}
use Rattle.pol_ports.specs.PortPrefix.{end_of, prefix_at, parent_of, prefix_holds}
use Rattle.pol_ports.specs.Split.{lies_in, is_part, CoversExactly}
use Rattle.pol_ports.proofs.Blocks.{block_at, block_at-bits, block_at-count, lower_half, upper_half, shorter_contains, multiples_apart, smaller_multiple}
use Rattle.pol_ports.proofs.Parts.{Parts, whole, outside, halves}
use Rattle.pol_ports.proofs.PartsCover.{fits_of_part}

-- whether the prefix has only ports of the block
abbrev pub is_within : ℕ → ℕ → PortPrefix → Bool
is_within height first q = nat_le first q.bits && nat_le (end_of q) (first + 2 ^ height)

-- the prefix of a port and a length has the port
pub prefix_at-holds : (port len : ℕ) → ((prefix_at port len).bits ≤ port) × (port < end_of (prefix_at port len))
prefix_at-holds port len =
    (div-mul-le_self port (2 ^ (16 - min len 16)), lt-div-mul-add (pow_pos (16 - min len 16)))

-- the prefixes are of 16-bit ports
pub end_small : (q : PortPrefix) → q.bits < 2 ^ 16 → end_of q ≤ 2 ^ 16
end_small q small =
    let all : (2 ^ 16) % 2 ^ (16 - q.len) ≡ 0 = smaller_multiple (2 ^ 16) 16 (16 - q.len) (omega arith) refl in
    multiples_apart (2 ^ (16 - q.len)) q.bits (2 ^ 16) q.clear all small

two_bits : (p q r : Bool) → (p ≡ true → q ≡ true → ⊥) → (p ≡ true → r ≡ true) → (q ≡ true → r ≡ true)
    → cond p 1 0 + cond q 1 0 ≤ cond r 1 0
two_bits true true r apart ps qs = absurd (apart refl refl)
two_bits true false r apart ps qs = rw (ps refl) (omega arith)
two_bits false true r apart ps qs = rw (qs refl) (omega arith)
two_bits false false r apart ps qs = omega arith

-- elements that pass one of two tests that exclude each other
count_two : {X : Type 0} (p q r : X → Bool) → ((x : X) → p x ≡ true → q x ≡ true → ⊥) → ((x : X) → p x ≡ true → r x ≡ true)
    → ((x : X) → q x ≡ true → r x ≡ true) → (xs : List X) → count_by p xs + count_by q xs ≤ count_by r xs
count_two p q r apart ps qs [] = omega arith
count_two {X} p q r apart ps qs (x ∷ xs) =
    omega (
      arith,
      count_two p q r apart ps qs xs,
      two_bits (p x) (q x) (r x) (apart x) (ps x) (qs x),
      sum_by-cons (λ (y : X). cond (p y) 1 0) x xs,
      sum_by-cons (λ (y : X). cond (q y) 1 0) x xs,
      sum_by-cons (λ (y : X). cond (r y) 1 0) x xs,
    )

within_is : (height first : ℕ) (q : PortPrefix) → is_within height first q ≡ true → (first ≤ q.bits) × (end_of q ≤ first + 2 ^ height)
within_is height first q t =
    let both = and_parts (nat_le first q.bits) (nat_le (end_of q) (first + 2 ^ height)) t in
    (leb-true first q.bits both.0, leb-true (end_of q) (first + 2 ^ height) both.1)

within_from : (height first : ℕ) (q : PortPrefix) → first ≤ q.bits → end_of q ≤ first + 2 ^ height → is_within height first q ≡ true
within_from height first q low high =
    and_from (nat_le first q.bits) (nat_le (end_of q) (first + 2 ^ height)) (le-leb first q.bits low) (le-leb (end_of q) (first + 2 ^ height) high)

halves_apart : (height first : ℕ) (q : PortPrefix) → is_within height first q ≡ true → is_within height (first + 2 ^ height) q ≡ true → ⊥
halves_apart height first q a b =
    let pos = pow_pos (16 - q.len) in
    omega (arith, within_is height first q a, within_is height (first + 2 ^ height) q b)

within_low : (height first : ℕ) (q : PortPrefix) → is_within height first q ≡ true → is_within (suc height) first q ≡ true
within_low height first q a =
    let at = within_is height first q a in
    let double = two-pow-succ height in
    within_from (suc height) first q at.0 (omega arith)

within_high : (height first : ℕ) (q : PortPrefix) → is_within height (first + 2 ^ height) q ≡ true → is_within (suc height) first q ≡ true
within_high height first q a =
    let at = within_is height (first + 2 ^ height) q a in
    let double = two-pow-succ height in
    within_from (suc height) first q (omega arith) (omega arith)

module _ (range : PortRange) (other : List PortPrefix) (covers : CoversExactly range other) where
  -- a prefix of the other list lies in the range
  other_in_range : (k : ℕ) (q : PortPrefix) → k < length other → get_or other k q ≡ q → q.bits < 2 ^ 16
      → (range.first ≤ q.bits) × (end_of q ≤ range.last + 1)
  other_in_range k q below at small =
      let pos = pow_pos (16 - q.len) in
      let held : (port : ℕ) → q.bits ≤ port → port < end_of q → holds range port ≡ true = λ port low high.
      let hit : prefix_holds q port ≡ true =
      and_from (nat_le q.bits port) (nat_lt port (end_of q)) (le-leb q.bits port low) (lt-ltb port (end_of q) high) in
      let tiny : port < 2 ^ 16 = omega (arith, end_small q small) in
      sym (covers port tiny) ∙ list_any-from_Any (λ p. prefix_holds p port) other (k, q, below, at, hit) in
      let first = and_parts (nat_le range.first q.bits) (nat_le q.bits range.last) (held q.bits (omega arith) (omega arith)) in
      let last = and_parts (nat_le range.first (end_of q - 1)) (nat_le (end_of q - 1) range.last) (held (end_of q - 1) (omega arith) (omega arith)) in
      (leb-true range.first q.bits first.0, omega (arith, leb-true (end_of q - 1) range.last last.1))

  -- a prefix of the other list that has the first port of a part lies in the part's block
  other_within : (height first k : ℕ) (q : PortPrefix) → height ≤ 16 → first % 2 ^ height ≡ 0 → first < 2 ^ 16
      → is_part range (block_at height first) ≡ true → k < length other → get_or other k q ≡ q → q.bits ≤ first → first < end_of q
      → is_within height first q ≡ true
  other_within height first k q le h small part below at low high =
      let b = block_at height first in
      let b_bits = block_at-bits height first le h in
      let b_count = block_at-count height first le in
      let pos = pow_pos height in
      let inside : (b.bits ≤ q.bits) × (end_of q ≤ end_of b) = elim (cases_lt q.len b.len) [
        | inl wider ↦
            let up = prefix_at-holds b.bits (b.len - 1) in
            let around = shorter_contains q (parent_of b) (omega arith) (omega arith) (omega arith) in
            let fits = other_in_range k q below at (omega arith) in
            let lies : lies_in range (parent_of b) ≡ true =
            and_from (nat_le range.first (parent_of b).bits) (nat_le (end_of (parent_of b)) (range.last + 1))
            (le-leb range.first (parent_of b).bits (omega arith)) (le-leb (end_of (parent_of b)) (range.last + 1) (omega arith)) in
            absurd (elim (or_cases (b.len == 0) (not (lies_in range (parent_of b))) (and_parts (lies_in range b) _ part).1) [
              | inl none ↦ omega (arith, eqb-true b.len 0 none)
              | inr open' ↦ (let closed = not-true (lies_in range (parent_of b)) open' in cc)
            ])
        | inr narrower ↦ shorter_contains b q narrower (omega arith) (omega arith)
      ] in
      and_from (nat_le first q.bits) (nat_le (end_of q) (first + 2 ^ height)) (le-leb first q.bits (omega arith))
      (le-leb (end_of q) (first + 2 ^ height) (omega arith))

  -- some prefix of the other list lies in the block of a part
  one_within : (height first : ℕ) → height ≤ 16 → first % 2 ^ height ≡ 0 → first < 2 ^ 16 → is_part range (block_at height first) ≡ true
      → 1 ≤ count_by (is_within height first) other
  one_within height first le h small part =
      let pos = pow_pos height in
      let f = and_parts (nat_le range.first first) (nat_le (first + 2 ^ height) (range.last + 1)) (fits_of_part range height first le h part) in
      let from = leb-true range.first first f.0 in
      let to = leb-true (first + 2 ^ height) (range.last + 1) f.1 in
      let in_range : holds range first ≡ true =
      and_from (nat_le range.first first) (nat_le first range.last) f.0 (le-leb first range.last (omega arith)) in
      let found = Any-from_list_any (λ p. prefix_holds p first) other (covers first small ∙ in_range) in
      let q = found.1 in
      let has = and_parts (nat_le q.bits first) (nat_lt first (end_of q)) found.4 in
      let within = other_within height first found.0 q le h small part found.2 found.3 (leb-true q.bits first has.0) (ltb-true first (end_of q) has.1) in
      count_by-some (is_within height first) other (list_any-from_Any (is_within height first) other (found.0, q, found.2, found.3, within))

  pub no_shorter : {height first : ℕ} {xs : List PortPrefix} → height ≤ 16 → first % 2 ^ height ≡ 0 → first + 2 ^ height ≤ 2 ^ 16
      → Parts range height first xs → length xs ≤ count_by (is_within height first) other
  no_shorter {height} {first} le h small (whole part) = one_within height first le h (omega (arith, pow_pos height)) part
  no_shorter le h small (outside o) = omega arith
  no_shorter {first = first} le h small (halves {height = height} {xs = xs} {ys = ys} g ps qs) =
      let double = two-pow-succ height in
      let middle = first + 2 ^ height in
      let low = no_shorter (omega arith) (lower_half height first h) (omega arith) ps in
      let high = no_shorter (omega arith) (upper_half height first h) (omega arith) qs in
      omega (
        arith,
        length-append xs ys,
        low,
        high,
        count_two (is_within height first) (is_within height middle) (is_within (suc height) first)
            (λ q a b. halves_apart height first q a b) (λ q a. within_low height first q a) (λ q a. within_high height first q a) other,
      )
