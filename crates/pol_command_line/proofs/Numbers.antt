-- A number that a text writes.
use Rattle.std.proofs.Common.{◌≡◌, ◌≤◌, ◌<◌, ◌^◌, ℕ, Bool, true, false, List, None, Some, refl, sym, ap, ◌∙◌, subst}
use Rattle.std.specs.Prelude.{if◌then◌else◌}
use Rattle.std.proofs.lemmas.Bool.{false_from_ne_true}
use Rattle.std.specs.Str.Parse.{IsNumeral, digits_value, without_leading_plus}
use Rattle.clap.specs.ValueTests.{is_unsigned_in}
use Rattle.clap.specs.declared.builder.value_parser.ValueParser.TheVariants as parser
use Rattle.clap.proofs.ValueTestLemmas.{accepts-Accepts, Accepts-accepts}
use Rattle.pol_command_line.specs.Given.{number_in}

-- the text is a number of 64 bits
abbrev pub IsWide : List ℕ → Type 0
IsWide text = IsNumeral 10 (without_leading_plus text) × (digits_value 10 (without_leading_plus text) < 2 ^ 64)

module _ (least greatest : ℕ) (text : List ℕ) where
  given_where : (b : Bool) → is_unsigned_in least greatest text ≡ b
      → number_in least greatest text ≡ (if b then Some (digits_value 10 (without_leading_plus text)) else None)
  given_where b is = rw is refl

  -- the number that was read, within the range
  pub number_within : (n : ℕ) → IsWide text → n ≡ digits_value 10 (without_leading_plus text) → least ≤ n → n ≤ greatest
      → Some n ≡ number_in least greatest text
  number_within n wide is low high =
      let fits : is_unsigned_in least greatest text ≡ true = Accepts-accepts false (parser.Unsigned least greatest) text
      (wide.0, wide.1, subst (λ (v : ℕ). least ≤ v) is low, subst (λ (v : ℕ). v ≤ greatest) is high) in
      ap (λ (v : ℕ). Some v) is ∙ sym (given_where true fits)

  -- no number
  pub no_number : (IsWide text → ⊥) → None ≡ number_in least greatest text
  no_number unread =
      let not_in : is_unsigned_in least greatest text ≡ false = false_from_ne_true _ (λ in_range.
      let accepted = accepts-Accepts false (parser.Unsigned least greatest) text in_range in
      unread (accepted.0, accepted.1)) in
      sym (given_where false not_in)
