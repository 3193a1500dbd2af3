-- The text of a small number: a few digits, which stand as they are in a text, a name, a label and a port.
use Rattle.std.proofs.Common.{◌≡◌, ℕ, zero, suc, ◌+◌, ◌-◌, ◌^◌, ◌<◌, ◌≤◌, Bool, true, false, not, ◌&&◌, ◌||◌, nat_lt, inl, inr, List, [], ◌∷◌, ◌++◌, length, refl, ap, ap₂, subst, ◌∙◌, arith}
use Rattle.std.specs.Char.{is_ascii_digit, is_ascii_graphic}
use Rattle.std.specs.Cmp.Derive.{both_true}
use Rattle.std.specs.Fmt.{decimal}
use Rattle.std.specs.List.{list_all, list_any}
use Rattle.std.specs.Str.Parse.{AllDigits}
use Rattle.std.proofs.lemmas.Bool.{cases_eq}
use Rattle.std.proofs.lemmas.Fmt.{decimal_is_IsNumeral, decimal_nonempty, length-decimal-le}
use Rattle.std.proofs.lemmas.List.Folds.{list_all-append}
use Rattle.std.proofs.lemmas.Str.Parse.{digit_from_value}
use Rattle.json.specs.Print.{escape}
use Rattle.json.proofs.Printed.Strings.{escape_byte_plain}
use Rattle.json.proofs.Printed.Utf8.{are_ascii}
use Rattle.pol_json.specs.Texts.{is_letter, is_dns_byte, is_name_byte}
use Rattle.pol_script.specs.Lines.{is_newline, is_one_line}
use Rattle.pol_script.proofs.ScriptLaws.{both_parts}

-- digits, at least one and five at most
pub record IsDigits (text : List ℕ) : Type 0 where
  pub digits : AllDigits 10 text
  pub some : 1 ≤ length text
  pub few : length text ≤ 5

pub digits_of : (n : ℕ) → n < 100000 → IsDigits (decimal n)
digits_of n small =
    let fits : n < 2 ^ 64 = omega (arith, small) in
    record {
      digits = (decimal_is_IsNumeral n fits).0.1;
      some = decimal_nonempty n fits;
      few = length-decimal-le 5 n (omega arith) (omega (arith, small)) fits;
    }

-- ---- a test that each digit passes

abbrev passes : (ℕ → Bool) → ℕ → Bool
passes test zero = true
passes test (suc k) = test (48 + k) && passes test k

passes_each : (test : ℕ → Bool) (n : ℕ) → passes test n ≡ true → (k : ℕ) → k < n → test (48 + k) ≡ true
passes_each test zero all k below = absurd (omega (arith, below))
passes_each test (suc n) all k below =
    let parts = both_parts (test (48 + n)) (passes test n) all in
    elim (cases_eq k n) [
      | inl same ↦ ap (λ j. test (48 + j)) same ∙ parts.0
      | inr other ↦ passes_each test n parts.1 k (omega (arith, below, other))
    ]

digit_passes : (test : ℕ → Bool) → passes test 10 ≡ true → (c : ℕ) → 48 ≤ c → c ≤ 57 → test c ≡ true
digit_passes test all c low high =
    let same : 48 + (c - 48) ≡ c = omega (arith, low) in
    subst (λ d. test d ≡ true) same (passes_each test 10 all (c - 48) (omega (arith, low, high)))

pub all_pass : (test : ℕ → Bool) → passes test 10 ≡ true → (text : List ℕ) → AllDigits 10 text → list_all test text ≡ true
all_pass test all [] digits = refl
all_pass test all (c ∷ text) digits =
    both_true (digit_passes test all c (omega (arith, digit_from_value c digits.0)) (omega (arith, digit_from_value c digits.0)))
    (all_pass test all text digits.1)

-- ---- what stands for the tests of the readers

pub named : (text : List ℕ) → IsDigits text → list_all is_name_byte text ≡ true
named text is = all_pass is_name_byte refl text is.digits

pub dns_named : (text : List ℕ) → IsDigits text → list_all is_dns_byte text ≡ true
dns_named text is = all_pass is_dns_byte refl text is.digits

pub graphic : (text : List ℕ) → IsDigits text → list_all is_ascii_graphic text ≡ true
graphic text is = all_pass is_ascii_graphic refl text is.digits

pub decimal_digits : (text : List ℕ) → IsDigits text → list_all is_ascii_digit text ≡ true
decimal_digits text is = all_pass is_ascii_digit refl text is.digits

pub one_line : (text : List ℕ) → IsDigits text → is_one_line text ≡ true
one_line text is = all_pass (λ byte. not (is_newline byte)) refl text is.digits

none_is : (test : ℕ → Bool) (text : List ℕ) → list_all (λ c. not (test c)) text ≡ true → list_any test text ≡ false
none_is test [] all = refl
none_is test (c ∷ text) all =
    let parts = both_parts (not (test c)) (list_all (λ d. not (test d)) text) all in
    ap₂ (λ (a b : Bool). a || b) (not_true (test c) parts.0) (none_is test text parts.1)
  where
    not_true : (b : Bool) → not b ≡ true → b ≡ false
    not_true true e = absurd cc
    not_true false e = refl

pub no_letter : (text : List ℕ) → IsDigits text → list_any is_letter text ≡ false
no_letter text is = none_is is_letter text (all_pass (λ c. not (is_letter c)) refl text is.digits)

ascii_all : (text : List ℕ) → list_all (λ c. nat_lt c 128) text ≡ true → are_ascii text ≡ true
ascii_all [] all = refl
ascii_all (c ∷ text) all =
    let parts = both_parts (nat_lt c 128) (list_all (λ d. nat_lt d 128) text) all in
    both_true parts.0 (ascii_all text parts.1)

pub ascii : (text : List ℕ) → IsDigits text → are_ascii text ≡ true
ascii text is = ascii_all text (all_pass (λ c. nat_lt c 128) refl text is.digits)

-- no digit is escaped in a text
escaped_all : (text : List ℕ) → AllDigits 10 text → escape text ≡ text
escaped_all [] digits = refl
escaped_all (c ∷ text) digits =
    let low : 48 ≤ c = omega (arith, digit_from_value c digits.0) in
    let high : c ≤ 57 = omega (arith, digit_from_value c digits.0) in
    ap₂ (λ (a b : List ℕ). a ++ b)
    (escape_byte_plain c (λ e. omega (arith, low, high, e)) (λ e. omega (arith, low, high, e)) (omega (arith, low)))
    (escaped_all text digits.1)

pub escaped : (text : List ℕ) → IsDigits text → escape text ≡ text
escaped text is = escaped_all text is.digits

-- ---- joined with other text

pub line_joined : (front rest : List ℕ) → is_one_line front ≡ true → is_one_line rest ≡ true → is_one_line (front ++ rest) ≡ true
line_joined front rest one two = list_all-append (λ byte. not (is_newline byte)) front rest ∙ both_true one two

pub ascii_joined : (front rest : List ℕ) → are_ascii front ≡ true → are_ascii rest ≡ true → are_ascii (front ++ rest) ≡ true
ascii_joined [] rest one two = two
ascii_joined (c ∷ front) rest one two =
    let parts = both_parts (nat_lt c 128) (are_ascii front) one in
    both_true parts.0 (ascii_joined front rest parts.1 two)
