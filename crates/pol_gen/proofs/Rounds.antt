-- Draws one after another, and one part more.
use Rattle.std.proofs.Common.{◌≡◌, ◌≢◌, ℕ, zero, suc, ◌+◌, ◌%◌, ◌++◌, List, [], ◌∷◌, refl, ap, sym, ◌∙◌, arith, append_assoc, append-nil}
use Rattle.std.proofs.Math.Nat.{div-add-mod, mod-lt}
use Rattle.std.proofs.lemmas.List.Concat.{flat_map-cons}
use Rattle.std.specs.List.{flat_map, range_with_len}
use Rattle.pol_gen.specs.Draws.{after, next}
use Rattle.std.proofs.lemmas.Bool.{eq-eqb, ne_eqb}
use Rattle.pol_gen.specs.Generated.{check, check_behind, draws_before, last_check}

-- so many draws, and then so many more
pub after-more : (first more x : ℕ) → after more (after first x) ≡ after (first + more) x
unfolding after
after-more first zero x = ap (λ (n : ℕ). after n x) (let e : first ≡ first + 0 = omega arith in e)
after-more first (suc more) x =
    ap next (after-more first more x)
    ∙ ap (λ (n : ℕ). after n x) (let e : suc (first + more) ≡ first + suc more = omega arith in e)

pub after-none : (x : ℕ) → after 0 x ≡ x
unfolding after
after-none x = refl

-- the numbers of two steps, one after another
pub after_both : (first more count n start end : ℕ) → start ≡ after first n → end ≡ after more start → first + more ≡ count
    → end ≡ after count n
after_both first more count n start end begun went counted =
    went ∙ ap (λ (x : ℕ). after more x) begun ∙ after-more first more n ∙ ap (λ (k : ℕ). after k n) counted

-- the draws before the next round
pub draws_with_check : (round : ℕ) → (round + 1) % 10 ≡ 0 → draws_before round + 6 + 64 ≡ draws_before (round + 1)
draws_with_check round tenth =
    omega (arith, tenth, div-add-mod round 10, mod-lt round {m = 10} (omega arith), div-add-mod (round + 1) 10)

pub draws_without_check : (round : ℕ) → (round + 1) % 10 ≢ 0 → draws_before round + 6 ≡ draws_before (round + 1)
draws_without_check round other =
    omega (arith, other, div-add-mod round 10, mod-lt round {m = 10} (omega arith), div-add-mod (round + 1) 10, mod-lt (round + 1) {m = 10} (omega arith))

-- ---- checks

pub check_at_tenth : (n round : ℕ) → (round + 1) % 10 ≡ 0 → check_behind n round ≡ check (after (draws_before round + 6) n)
check_at_tenth n round tenth = rw (eq-eqb _ _ tenth) refl

pub no_check : (n round : ℕ) → (round + 1) % 10 ≢ 0 → check_behind n round ≡ []
no_check n round other = rw (ne_eqb _ _ other) refl

pub last_at_tenth : (n : ℕ) → n % 10 ≡ 0 → last_check n ≡ []
last_at_tenth n tenth = rw (eq-eqb _ _ tenth) refl

pub last_behind : (n : ℕ) → n % 10 ≢ 0 → last_check n ≡ check (after (draws_before n) n)
last_behind n other = rw (ne_eqb _ _ other) refl

-- ---- parts

module _ {A : Type 0} (f : ℕ → List A) where
  parts-from : (a n : ℕ) → flat_map f (range_with_len a (n + 1)) ≡ flat_map f (range_with_len a n) ++ f (a + n)
  parts-from a zero = append-nil (f a) ∙ ap f (let e : a ≡ a + 0 = omega arith in e)
  parts-from a (suc n) =
      let one_more : suc n + 1 ≡ suc (n + 1) = omega arith in
      let last : a + 1 + n ≡ a + suc n = omega arith in
      ap (λ (k : ℕ). flat_map f (range_with_len a k)) one_more
      ∙ flat_map-cons f a (range_with_len (a + 1) (n + 1))
      ∙ ap (λ (rest : List A). f a ++ rest) (parts-from (a + 1) n)
      ∙ sym (append_assoc (f a) (flat_map f (range_with_len (a + 1) n)) (f (a + 1 + n)))
      ∙ ap (λ (begun : List A). begun ++ f (a + 1 + n)) (sym (flat_map-cons f a (range_with_len (a + 1) n)))
      ∙ ap (λ (k : ℕ). flat_map f (a ∷ range_with_len (a + 1) n) ++ f k) last

  -- the parts from 0 on, and one part more
  parts-more : (n : ℕ) → flat_map f (range_with_len 0 (n + 1)) ≡ flat_map f (range_with_len 0 n) ++ f n
  parts-more n = parts-from 0 n ∙ ap (λ (k : ℕ). flat_map f (range_with_len 0 n) ++ f k) (let e : 0 + n ≡ n = omega arith in e)

  pub one_more_part : (n : ℕ) (old begun out part : List A) → begun ≡ old ++ flat_map f (range_with_len 0 n) → out ≡ begun ++ part → part ≡ f n
      → out ≡ old ++ flat_map f (range_with_len 0 (n + 1))
  one_more_part n old begun out part first last is =
      last ∙ ap (λ (xs : List A). xs ++ part) first ∙ append_assoc old (flat_map f (range_with_len 0 n)) part
      ∙ ap (λ (x : List A). old ++ (flat_map f (range_with_len 0 n) ++ x)) is
      ∙ ap (λ (xs : List A). old ++ xs) (sym (parts-more n))

  pub no_part : (old : List A) → old ≡ old ++ flat_map f (range_with_len 0 0)
  no_part old = sym (append-nil old)
