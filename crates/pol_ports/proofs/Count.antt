-- How many parts the split of a range has: at most 30.
use Rattle.std.proofs.Common.{◌≡◌, ℕ, suc, ◌+◌, ◌-◌, ◌*◌, ◌%◌, ◌^◌, ◌<◌, ◌≤◌, max, true, false, nat_le, List, length, ap, inl, inr, ◌⊎◌, ⊎_elim, arith, length-append}
use Rattle.std.proofs.lemmas.Bool.{cases_lt, cases_Bool, and_parts, and_cases, leb-true, leb-false, le-leb, and_from}
use Rattle.std.proofs.Math.Nat.{two-pow-succ}
use Rattle.pol_ports.specs.declared.PortRange.{PortRange}
use Rattle.pol_ports.specs.declared.PortPrefix.{PortPrefix}
use Rattle.pol_ports.proofs.Blocks.{lower_half, upper_half}
use Rattle.pol_ports.proofs.Parts.{fits, Parts, whole, outside, halves}
use Rattle.pol_ports.proofs.PartsCover.{fits_of_part, none_apart}

module _ (range : PortRange) where
  fits_from : (height first : ℕ) → range.first ≤ first → first + 2 ^ height ≤ range.last + 1 → fits range height first ≡ true
  fits_from height first low high =
      and_from (nat_le range.first first) (nat_le (first + 2 ^ height) (range.last + 1)) (le-leb range.first first low)
      (le-leb (first + 2 ^ height) (range.last + 1) high)

  fits_not : (height first : ℕ) → fits range height first ≡ false → (first < range.first) ⊎ (range.last + 1 < first + 2 ^ height)
  fits_not height first f =
      ⊎_elim (λ (e : nat_le range.first first ≡ false). inl (leb-false range.first first e))
      (λ (e : nat_le (first + 2 ^ height) (range.last + 1) ≡ false). inr (leb-false (first + 2 ^ height) (range.last + 1) e))
      (and_cases (nat_le range.first first) (nat_le (first + 2 ^ height) (range.last + 1)) f)

  fits_is : (height first : ℕ) → fits range height first ≡ true → (range.first ≤ first) × (first + 2 ^ height ≤ range.last + 1)
  fits_is height first f =
      let both = and_parts (nat_le range.first first) (nat_le (first + 2 ^ height) (range.last + 1)) f in
      (leb-true range.first first both.0, leb-true (first + 2 ^ height) (range.last + 1) both.1)

  -- a block that lies in the range has one part at most
  one_where_fits : {height first : ℕ} {xs : List PortPrefix} → Parts range height first xs → fits range height first ≡ true → length xs ≤ 1
  one_where_fits (whole part) f = omega arith
  one_where_fits (outside o) f = omega arith
  one_where_fits (halves g ps qs) f = absurd (cc (f, g))

  -- a block that the range fills from one end on, and not wholly, has one part a height at most
  one_end : {height first : ℕ} {xs : List PortPrefix} → height ≤ 16 → first % 2 ^ height ≡ 0 → Parts range height first xs
      → (range.first ≤ first) ⊎ (first + 2 ^ height ≤ range.last + 1) → fits range height first ≡ false → length xs ≤ height
  one_end {height} {first} le h (whole part) end f = absurd (cc (fits_of_part range height first le h part, f))
  one_end le h (outside o) end f = omega arith
  one_end {first = first} le h (halves {height = height} {xs = xs} {ys = ys} g ps qs) end f =
      let double = two-pow-succ height in
      let middle = first + 2 ^ height in
      let total = length-append xs ys in
      let low = lower_half height first h in
      let high = upper_half height first h in
      let out = fits_not (suc height) first f in
      ⊎_elim
      (λ (l : range.first ≤ first).
      ⊎_elim
      (λ (fl : fits range height first ≡ true).
      let fh : fits range height middle ≡ false =
      elim (cases_Bool (fits range height middle)) [
        | inl t ↦ absurd (let b = fits_is height middle t in ⊎_elim (λ (o : first < range.first). omega arith) (λ (o : range.last + 1 < first + 2 ^ suc height). omega arith) out)
        | inr e ↦ e
      ] in
      omega (arith, one_where_fits ps fl, one_end (omega arith) high qs (inl (omega arith)) fh))
      (λ (fl : fits range height first ≡ false).
      let below : range.last < middle = ⊎_elim (λ (o : first < range.first). omega arith) (λ (o : range.last + 1 < first + 2 ^ height). omega arith) (fits_not height first fl) in
      omega (arith, ap length (none_apart range (omega arith) high qs (inr below)), one_end (omega arith) low ps (inl l) fl))
      (cases_Bool (fits range height first)))
      (λ (r : first + 2 ^ suc height ≤ range.last + 1).
      ⊎_elim
      (λ (fh : fits range height middle ≡ true).
      let fl : fits range height first ≡ false =
      elim (cases_Bool (fits range height first)) [
        | inl t ↦ absurd (let b = fits_is height first t in ⊎_elim (λ (o : first < range.first). omega arith) (λ (o : range.last + 1 < first + 2 ^ suc height). omega arith) out)
        | inr e ↦ e
      ] in
      omega (arith, one_where_fits qs fh, one_end (omega arith) low ps (inr (omega arith)) fl))
      (λ (fh : fits range height middle ≡ false).
      let above : middle ≤ range.first = ⊎_elim (λ (o : middle < range.first). omega arith) (λ (o : range.last + 1 < middle + 2 ^ height). omega arith) (fits_not height middle fh) in
      omega (arith, ap length (none_apart range (omega arith) low ps (inl above)), one_end (omega arith) high qs (inr (omega arith)) fh))
      (cases_Bool (fits range height middle)))
      end

  -- any block has two parts at most for each height below its own, or one
  pub two_ends : {height first : ℕ} {xs : List PortPrefix} → height ≤ 16 → first % 2 ^ height ≡ 0 → Parts range height first xs
      → length xs ≤ max (2 * (height - 1)) 1
  two_ends le h (whole part) = omega arith
  two_ends le h (outside o) = omega arith
  two_ends {first = first} le h (halves {height = height} {xs = xs} {ys = ys} g ps qs) =
      let double = two-pow-succ height in
      let middle = first + 2 ^ height in
      let total = length-append xs ys in
      let low = lower_half height first h in
      let high = upper_half height first h in
      ⊎_elim
      (λ (l : range.last < middle).
      omega (arith, ap length (none_apart range (omega arith) high qs (inr l)), two_ends (omega arith) low ps))
      (λ (l : middle ≤ range.last).
      ⊎_elim
      (λ (r : range.first < middle).
      let xs_one : (fits range height first ≡ true) → length xs ≤ 1 = one_where_fits ps in
      let xs_end : (fits range height first ≡ false) → length xs ≤ height = one_end (omega arith) low ps (inr (omega arith)) in
      let ys_one : (fits range height middle ≡ true) → length ys ≤ 1 = one_where_fits qs in
      let ys_end : (fits range height middle ≡ false) → length ys ≤ height = one_end (omega arith) high qs (inl (omega arith)) in
      elim (cases_Bool (fits range height first)) [
        | inl fl ↦ elim (cases_Bool (fits range height middle)) [
          | inl fh ↦ absurd (let a = fits_is height first fl in let b = fits_is height middle fh in
              cc (g, fits_from (suc height) first a.0 (omega arith)))
          | inr fh ↦ omega (arith, xs_one fl, ys_end fh)
        ]
        | inr fl ↦ elim (cases_Bool (fits range height middle)) [
          | inl fh ↦ omega (arith, xs_end fl, ys_one fh)
          | inr fh ↦ omega (arith, xs_end fl, ys_end fh)
        ]
      ])
      (λ (r : middle ≤ range.first).
      omega (arith, ap length (none_apart range (omega arith) low ps (inl r)), two_ends (omega arith) high qs))
      (cases_lt range.first middle))
      (cases_lt range.last middle)
