-- Texts that lack a byte.
use Rattle.std.proofs.Common.{◌≡◌, ◌≢◌, ℕ, zero, suc, ◌<◌, ◌==◌, Bool, true, false, List, [], ◌∷◌, ◌++◌, length, get_or, refl, sym, inl, inr, arith, eq-eqb, eqb-true}
use Rattle.std.proofs.lemmas.Bool.{both_ways, false≢true, false_from_ne_true, or_cases, or_left, or_parts, or_right, true_from_ne_false}
use Rattle.std.specs.Prelude.{MatchBool}
use Rattle.std.specs.List.{list_any}
use Rattle.std.specs.Str.Pattern.{FindsChar}
use Rattle.std.proofs.lemmas.Str.Pattern.{contains_char}
use Rattle.std.specs.Prelude.{Some, None, ◌≤◌}

-- whether the text has this byte
abbrev pub has : ℕ → List ℕ → Bool
has byte text = list_any (λ b. b == byte) text

pub has_back : (byte : ℕ) (xs ys : List ℕ) → has byte ys ≡ true → has byte (xs ++ ys) ≡ true
has_back byte [] ys there = there
has_back byte (x ∷ xs) ys there = or_right (x == byte) (has byte (xs ++ ys)) (has_back byte xs ys there)

pub has_front : (byte : ℕ) (xs ys : List ℕ) → has byte xs ≡ true → has byte (xs ++ ys) ≡ true
has_front byte [] ys there = absurd (false≢true there)
has_front byte (x ∷ xs) ys there =
    elim (or_cases (x == byte) (has byte xs) there) [
      | inl first ↦ or_left (x == byte) (has byte (xs ++ ys)) first
      | inr more ↦ or_right (x == byte) (has byte (xs ++ ys)) (has_front byte xs ys more)
    ]

pub lacks_back : (byte : ℕ) (xs ys : List ℕ) → has byte (xs ++ ys) ≡ false → has byte ys ≡ false
lacks_back byte xs ys none = false_from_ne_true (has byte ys) (λ there. both_ways (has byte (xs ++ ys)) none (has_back byte xs ys there))

pub lacks_front : (byte : ℕ) (xs ys : List ℕ) → has byte (xs ++ ys) ≡ false → has byte xs ≡ false
lacks_front byte xs ys none = false_from_ne_true (has byte xs) (λ there. both_ways (has byte (xs ++ ys)) none (has_front byte xs ys there))

pub lacks_both : (byte : ℕ) (xs ys : List ℕ) → has byte xs ≡ false → has byte ys ≡ false → has byte (xs ++ ys) ≡ false
lacks_both byte [] ys none none' = none'
lacks_both byte (x ∷ xs) ys none none' =
    let parts = or_parts (x == byte) (has byte xs) none in
    rw (parts.0, lacks_both byte xs ys parts.1 none') refl

-- the same by places
pub none_at : (byte : ℕ) (xs : List ℕ) → has byte xs ≡ false → (i : ℕ) → i < length xs → get_or xs i 0 ≢ byte
none_at byte [] none i within = absurd (omega arith)
none_at byte (x ∷ xs) none zero within = λ same. both_ways (x == byte) (or_parts (x == byte) (has byte xs) none).0 (eq-eqb x byte same)
none_at byte (x ∷ xs) none (suc i) within = none_at byte xs (or_parts (x == byte) (has byte xs) none).1 i (omega arith)

pub some_at : (byte : ℕ) (xs : List ℕ) → has byte xs ≡ true → (i : ℕ) × (i < length xs) × (get_or xs i 0 ≡ byte)
some_at byte [] there = absurd (false≢true there)
some_at byte (x ∷ xs) there =
    elim (or_cases (x == byte) (has byte xs) there) [
      | inl first ↦ (0, omega arith, eqb-true x byte first)
      | inr more ↦ let (i, within, is) = some_at byte xs more in (suc i, omega (arith, within), is)
    ]

pub lacks_from : (byte : ℕ) (xs : List ℕ) → ((i : ℕ) → i < length xs → get_or xs i 0 ≢ byte) → has byte xs ≡ false
lacks_from byte xs none = false_from_ne_true (has byte xs) (λ there. let (i, within, is) = some_at byte xs there in none i within is)

-- what `contains` answers of an ASCII character is whether its byte is there
pub contains-has : (byte : ℕ) (text : List ℕ) (r : Bool) → MatchBool r ((i : ℕ) × (j : ℕ) × FindsChar byte text (Some (i, j)) × (i ≤ j) × (j ≤ length text)) (FindsChar byte text None) → byte < 128 → r ≡ has byte text
contains-has byte text true found ascii =
    let (i, within, is) = (contains_char byte text true found ascii).0 refl in
    sym (true_from_ne_false (has byte text) (λ none. none_at byte text none i within is))
contains-has byte text false found ascii =
    sym (false_from_ne_true (has byte text) (λ there.
    let (i, within, is) = some_at byte text there in
    false≢true ((contains_char byte text false found ascii).1 i within is)))
