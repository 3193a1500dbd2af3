-- What `parse` reads of a text of digits.
use Rattle.std.proofs.Common.{◌≡◌, ℕ, ◌<◌, ◌^◌, true, cond, List, length, None, Result, Ok, Err, refl, sym, ap, ◌∙◌, inl, inr, arith, rules, le-leb, ltb-true}
use Rattle.std.proofs.lemmas.Bool.{cases_lt, lt-leb}
use Rattle.std.proofs.lemmas.Str.Parse.{IsNumeralModel, numerals_by_value, parse_digits}
use Rattle.std.specs.Char.{is_ascii_digit}
use Rattle.std.specs.Cmp.{first_so, second_so}
use Rattle.std.specs.List.{list_all}
use Rattle.std.specs.Result.{OkIff, result_ok}
use Rattle.std.specs.Str.Parse.{ParsesUnsigned, digits_value}
use Rattle.pol_sanitize.specs.Ports.{is_number_text, number_to, port_of}

digits_model : IsNumeralModel (λ ds. list_all is_ascii_digit ds ≡ true) (digits_value 10)
digits_model = numerals_by_value _ (search rules)

read-number_to : {E : Type 0} (l n : ℕ) (r : Result ℕ E) → 0 < l → OkIff r ((0 < l) × (n < 2 ^ 16)) n → result_ok r ≡ number_to 65535 n
read-number_to l n (Ok x) some (fits, is) = rw (le-leb n 65535 (omega (arith, fits)), is) refl
read-number_to l n (Err e) some large =
    elim (cases_lt 65535 n) [
      | inl above ↦ rw (lt-leb n 65535 above) refl
      | inr within ↦ absurd (large (some, omega arith))
    ]

pub port_of-parse : {E : Type 0} (text : List ℕ) (r : Result ℕ E) → is_number_text text ≡ true → ParsesUnsigned 16 10 text r → result_ok r ≡ port_of text
port_of-parse {E = E} text r number parsed =
    let digits = second_so _ (list_all is_ascii_digit text) number in
    let some = ltb-true 0 (length text) (first_so _ _ (first_so _ _ number)) in
    read-number_to (length text) (digits_value 10 text) r some (parse_digits digits_model {E = E} 16 text r parsed digits)
    ∙ sym (ap (λ b. cond b (number_to 65535 (digits_value 10 text)) None) number)
