-- What the parts of a range's split have together: they are apart, ascend, and cover the range.
use Rattle.std.proofs.Common.{◌≡◌, ℕ, suc, ◌+◌, ◌-◌, ◌%◌, ◌^◌, ◌<◌, ◌≤◌, Bool, true, false, ◌||◌, nat_le, nat_lt, List, [], ◌++◌, length, refl, sym, ◌∙◌, inl, inr, ◌⊎◌, ⊎_elim, arith, length-append}
use Rattle.std.specs.List.{All, AllPairs}
use Rattle.std.proofs.lemmas.Bool.{cases_lt, and_parts, leb-true, le-leb, lt-leb, lt-ltb, and_from, and_left, and_right}
use Rattle.std.proofs.lemmas.Bool.Decides.{nat_tests}
use Rattle.std.proofs.lemmas.List.Elements.{All-append, All-cons, All-nil, All-weaker}
use Rattle.std.proofs.lemmas.List.Folds.{list_any-append, list_any_none}
use Rattle.std.proofs.lemmas.List.{get_or_append_left}
use Rattle.std.proofs.Math.Seq.{get_or-append_right}
use Rattle.std.proofs.lemmas.Nat.{pow_pos}
use Rattle.std.proofs.Math.Nat.{two-pow-succ}
use Rattle.pol_ports.specs.declared.PortRange.{PortRange}
use Rattle.pol_ports.specs.declared.PortPrefix.{PortPrefix}
use Rattle.pol_ports.specs.PortRange.{holds}
use Rattle.pol_ports.specs.PortPrefix.{end_of, prefix_holds, Precedes}
use Rattle.pol_ports.specs.Split.{lies_in, is_part, any_holds}
use Rattle.pol_ports.proofs.Blocks.{block_at, block_at-bits, block_at-count, lower_half, upper_half}
use Rattle.pol_ports.proofs.Parts.{fits, Parts, whole, outside, halves, lies_in-block}

-- the prefix has only ports from `low` on and below `high`
abbrev pub IsBetween : ℕ → ℕ → PortPrefix → Type 0
IsBetween low high p = (low ≤ p.bits) × (end_of p ≤ high)

-- where a relation holds of two elements of the first list, of two of the second, and across
pub AllPairs-append : {X : Type 0} (R : X → X → Type 0) (P Q : X → Type 0) (xs ys : List X) → AllPairs R xs → AllPairs R ys
    → All P xs → All Q ys → ((x y : X) → P x → Q y → R x y) → AllPairs R (xs ++ ys)
AllPairs-append R P Q xs ys in_xs in_ys ps qs across i j d below small =
    let n = length xs in
    let total = length-append xs ys in
    ⊎_elim
    (λ (l : j < n).
    rw (get_or_append_left xs ys d i (omega arith), get_or_append_left xs ys d j l) (in_xs i j d below l))
    (λ (g : n ≤ j).
    ⊎_elim
    (λ (l : i < n).
    rw (get_or_append_left xs ys d i l, get_or-append_right xs ys j d g)
    (across _ _ (ps i d l) (qs (j - n) d (omega arith))))
    (λ (g' : n ≤ i).
    rw (get_or-append_right xs ys i d g', get_or-append_right xs ys j d g)
    (in_ys (i - n) (j - n) d (omega arith) (omega arith)))
    (cases_lt i n))
    (cases_lt j n)

or_right_false : {x y : Bool} → y ≡ false → (x || y) ≡ x
or_right_false {x = true} e = refl
or_right_false {x = false} e = e

or_left_false : {x y : Bool} → x ≡ false → (x || y) ≡ y
or_left_false e = cc

-- prefixes that are all between two ports have none below or above
not_held : (low high port : ℕ) (ps : List PortPrefix) → All (IsBetween low high) ps → (port < low) ⊎ (high ≤ port) → any_holds ps port ≡ false
not_held low high port ps between out =
    list_any_none (λ p. prefix_holds p port) ps
    (λ k d l. let b = between k d l in ⊎_elim (λ (o : port < low). grind (arith, nat_tests, b)) (λ (o : high ≤ port). grind (arith, nat_tests, b)) out)

module _ (range : PortRange) where
  -- the block of a part lies in the range
  pub fits_of_part : (height first : ℕ) → height ≤ 16 → first % 2 ^ height ≡ 0 → is_part range (block_at height first) ≡ true → fits range height first ≡ true
  fits_of_part height first le h part =
      sym (lies_in-block range height first le h) ∙ (and_parts (lies_in range (block_at height first)) _ part).0

  pub parts_between : {height first : ℕ} {xs : List PortPrefix} → height ≤ 16 → first % 2 ^ height ≡ 0 → Parts range height first xs
      → All (IsBetween first (first + 2 ^ height)) xs
  parts_between {height} {first} le h (whole part) =
      let b = block_at-bits height first le h in
      let n = block_at-count height first le in
      All-cons (IsBetween first (first + 2 ^ height)) (block_at height first) [] (omega arith, omega arith) (All-nil (IsBetween first (first + 2 ^ height)))
  parts_between {first = first} le h (outside o) = All-nil (IsBetween first (first + 2 ^ 0))
  parts_between {first = first} le h (halves {height = height} {xs = xs} {ys = ys} f ps qs) =
      let B = IsBetween first (first + 2 ^ suc height) in
      let double = two-pow-succ height in
      let low : All B xs =
      All-weaker (IsBetween first (first + 2 ^ height)) B (λ p b. (b.0, omega arith)) xs
      (parts_between (omega arith) (lower_half height first h) ps) in
      let high : All B ys =
      All-weaker (IsBetween (first + 2 ^ height) (first + 2 ^ height + 2 ^ height)) B (λ p b. (omega arith, omega arith)) ys
      (parts_between (omega arith) (upper_half height first h) qs) in
      All-append B xs ys low high

  -- in a block without a port of the range there are no parts
  pub none_apart : {height first : ℕ} {xs : List PortPrefix} → height ≤ 16 → first % 2 ^ height ≡ 0 → Parts range height first xs
      → (first + 2 ^ height ≤ range.first) ⊎ (range.last < first) → xs ≡ []
  none_apart {height} {first} le h (whole part) out =
      let f = and_parts (nat_le range.first first) (nat_le (first + 2 ^ height) (range.last + 1)) (fits_of_part height first le h part) in
      let low = leb-true range.first first f.0 in
      let high = leb-true (first + 2 ^ height) (range.last + 1) f.1 in
      let pos = pow_pos height in
      absurd (⊎_elim (λ (o : first + 2 ^ height ≤ range.first). omega arith) (λ (o : range.last < first). omega arith) out)
  none_apart le h (outside o) out = refl
  none_apart {first = first} le h (halves {height = height} {xs = xs} {ys = ys} f ps qs) out =
      let double = two-pow-succ height in
      let low : (first + 2 ^ height ≤ range.first) ⊎ (range.last < first) =
      ⊎_elim (λ (o : first + 2 ^ suc height ≤ range.first). inl (omega arith)) (λ (o : range.last < first). inr o) out in
      let high : (first + 2 ^ height + 2 ^ height ≤ range.first) ⊎ (range.last < first + 2 ^ height) =
      ⊎_elim (λ (o : first + 2 ^ suc height ≤ range.first). inl (omega arith)) (λ (o : range.last < first). inr (omega arith)) out in
      cc (none_apart (omega arith) (lower_half height first h) ps low, none_apart (omega arith) (upper_half height first h) qs high)

  -- each part ends before the next begins
  pub parts_ascend : {height first : ℕ} {xs : List PortPrefix} → height ≤ 16 → first % 2 ^ height ≡ 0 → Parts range height first xs
      → AllPairs Precedes xs
  parts_ascend {height} {first} le h (whole part) = λ i j d below small. absurd (omega arith)
  parts_ascend le h (outside o) = λ i j d below small. absurd (omega arith)
  parts_ascend {first = first} le h (halves {height = height} {xs = xs} {ys = ys} f ps qs) =
      let middle = first + 2 ^ height in
      AllPairs-append Precedes (IsBetween first middle) (IsBetween middle (middle + 2 ^ height)) xs ys
      (parts_ascend (omega arith) (lower_half height first h) ps) (parts_ascend (omega arith) (upper_half height first h) qs)
      (parts_between (omega arith) (lower_half height first h) ps) (parts_between (omega arith) (upper_half height first h) qs)
      (λ p q a b. omega arith)

  -- a port of the block is in a part exactly where it is in the range
  pub parts_cover : {height first : ℕ} {xs : List PortPrefix} → height ≤ 16 → first % 2 ^ height ≡ 0 → Parts range height first xs
      → (port : ℕ) → first ≤ port → port < first + 2 ^ height → any_holds xs port ≡ holds range port
  parts_cover {height} {first} le h (whole part) port low high =
      let b = block_at-bits height first le h in
      let n = block_at-count height first le in
      let f = and_parts (nat_le range.first first) (nat_le (first + 2 ^ height) (range.last + 1)) (fits_of_part height first le h part) in
      let from = leb-true range.first first f.0 in
      let to = leb-true (first + 2 ^ height) (range.last + 1) f.1 in
      let held : prefix_holds (block_at height first) port ≡ true =
      and_from (nat_le (block_at height first).bits port) (nat_lt port (end_of (block_at height first)))
      (le-leb (block_at height first).bits port (omega arith)) (lt-ltb port (end_of (block_at height first)) (omega arith)) in
      let inside : holds range port ≡ true =
      and_from (nat_le range.first port) (nat_le port range.last) (le-leb range.first port (omega arith)) (le-leb port range.last (omega arith)) in
      cc (held, inside)
  parts_cover {first = first} le h (outside o) port low high =
      ⊎_elim (λ (out : first < range.first). sym (and_left (nat_le range.first port) (nat_le port range.last) (lt-leb range.first port (omega arith))))
      (λ (out : range.last < first). sym (and_right (nat_le range.first port) (nat_le port range.last) (lt-leb port range.last (omega arith)))) o
  parts_cover {first = first} le h (halves {height = height} {xs = xs} {ys = ys} f ps qs) port low high =
      let middle = first + 2 ^ height in
      let double = two-pow-succ height in
      let low_between = parts_between (omega arith) (lower_half height first h) ps in
      let high_between = parts_between (omega arith) (upper_half height first h) qs in
      let split = list_any-append (λ p. prefix_holds p port) xs ys in
      ⊎_elim
      (λ (l : port < middle).
      let here = parts_cover (omega arith) (lower_half height first h) ps port low l in
      let there = not_held middle (middle + 2 ^ height) port ys high_between (inl l) in
      split ∙ or_right_false there ∙ here)
      (λ (g : middle ≤ port).
      let here = parts_cover (omega arith) (upper_half height first h) qs port g (omega arith) in
      let there = not_held first middle port xs low_between (inr g) in
      split ∙ or_left_false there ∙ here)
      (cases_lt port middle)
