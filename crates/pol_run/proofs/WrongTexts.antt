-- Texts of answers: each has a byte, and its first one tells whether the answer makes the status 1.
use Rattle.std.proofs.Common.{◌≡◌, ℕ, ◌≤◌, ◌==◌, ◌⊎◌, inl, inr, Bool, true, false, ◌||◌, List, [], ◌∷◌, ◌++◌, length, get_or, refl, ap, ◌∙◌, arith, length-append}
use Rattle.std.proofs.lemmas.Bool.{both_ways}
use Rattle.pol_mapkey.specs.declared.Word.TheVariants.{Allowed, DeniedByRule, DeniedByDefault}
use Rattle.pol_answer.specs.Text.{answer_words, text_of, texts_of}
use Rattle.pol_script.specs.Lines.{newline}
use Rattle.pol_answer.specs.declared.answer.Answer.{Answer}
use Rattle.pol_answer.specs.declared.answer.Answer.TheVariants as answer
use Rattle.pol_run.specs.Run.{is_marked, status_of}

-- as many bytes as answers, at least
pub texts_length : (answers : List Answer) → length answers ≤ length (texts_of answers)
texts_length [] = omega arith
texts_length (a ∷ answers) =
    omega (
      arith,
      length-append (text_of a) (texts_of answers),
      length-append (answer_words a) (newline ∷ []),
      texts_length answers,
    )

pub texts_of_none : (answers : List Answer) → length answers ≡ 0 → length (texts_of answers) ≡ 0
texts_of_none [] none = refl
texts_of_none (a ∷ answers) none = absurd (omega arith)

pub status_of_none : (answers : List Answer) → length answers ≡ 0 → status_of answers ≡ 0
status_of_none [] none = refl
status_of_none (a ∷ answers) none = absurd (omega arith)

-- the byte is `n` or `r`
abbrev pub is_n_or_r : ℕ → Bool
is_n_or_r byte = (byte == 110) || (byte == 114)

first_byte : (a : Answer) (more : List ℕ) → (is_marked a ≡ true) ⊎ (is_n_or_r (get_or (text_of a ++ more) 0 0) ≡ false)
first_byte (answer.Committed revision identity) more = inr refl
first_byte (answer.Synced revision full) more = inr refl
first_byte (answer.Phase number) more = inr refl
first_byte (answer.Verdict revision Allowed) more = inr refl
first_byte (answer.Verdict revision DeniedByRule) more = inr refl
first_byte (answer.Verdict revision DeniedByDefault) more = inr refl
first_byte (answer.NoEndpoint revision) more = inl refl
first_byte (answer.NotYet revision) more = inl refl
first_byte (answer.Traced revision trace) more = inr refl
first_byte (answer.BadLine fault) more = inl refl
first_byte (answer.Refused refused) more = inl refl

-- a text that begins so has the status 1
pub marked_text : (answers : List Answer) (byte : ℕ) (bytes : List ℕ) → byte ∷ bytes ≡ texts_of answers → is_n_or_r byte ≡ true
    → status_of answers ≡ 1
marked_text [] byte bytes text begins = absurd (let long = ap length text in omega arith)
marked_text (a ∷ answers) byte bytes text begins =
    elim (first_byte a (texts_of answers)) [
      | inl marked ↦ simp marked refl
      | inr other ↦ absurd (both_ways (is_n_or_r byte) (ap (λ (xs : List ℕ). is_n_or_r (get_or xs 0 0)) text ∙ other) begins)
    ]
