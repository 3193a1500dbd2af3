-- A text with digits in it, piece by piece: each piece is what stands in front, and digits that a quote ends.
use Rattle.std.proofs.Common.{◌≡◌, ℕ, true, ◌&&◌, Bool, List, [], ◌∷◌, ◌++◌, refl, ap, ap₂, ◌∙◌, append_assoc}
use Rattle.std.specs.Prelude.{⊤}
use Rattle.json.specs.Print.{escape}
use Rattle.json.proofs.Printed.Utf8.{are_ascii}
use Rattle.pol_script.specs.Lines.{is_one_line}
use Rattle.pol_script.proofs.ScriptLaws.{both_parts}
use Rattle.pol_generated.proofs.Digits.{IsDigits, ascii, escaped, one_line, ascii_joined, line_joined}

abbrev pub Piece : Type 0
Piece = List ℕ × List ℕ

-- the text, which goes on with this
abbrev pub text_of : List Piece → List ℕ → List ℕ
text_of [] end = end
text_of (piece ∷ pieces) end = piece.0 ++ (piece.1 ++ 34 ∷ text_of pieces end)

-- the same, as it is printed
abbrev pub printed_of : List Piece → List ℕ → List ℕ
printed_of [] end = end
printed_of (piece ∷ pieces) end = piece.0 ++ ((escape piece.1 ++ 34 ∷ []) ++ printed_of pieces end)

abbrev pub AllDigits : List Piece → Type 0
AllDigits [] = ⊤
AllDigits (piece ∷ pieces) = IsDigits piece.1 × AllDigits pieces

abbrev pub fronts_pass : (List ℕ → Bool) → List Piece → Bool
fronts_pass test [] = true
fronts_pass test (piece ∷ pieces) = test piece.0 && fronts_pass test pieces

pub printed_is : (pieces : List Piece) (end : List ℕ) → AllDigits pieces → printed_of pieces end ≡ text_of pieces end
printed_is [] end digits = refl
printed_is (piece ∷ pieces) end digits =
    ap (λ s. piece.0 ++ s)
    (append_assoc (escape piece.1) (34 ∷ []) (printed_of pieces end)
    ∙ ap₂ (λ (s t : List ℕ). s ++ 34 ∷ t) (escaped piece.1 digits.0) (printed_is pieces end digits.1))

pub all_ascii : (pieces : List Piece) (end : List ℕ) → AllDigits pieces → fronts_pass are_ascii pieces ≡ true → are_ascii end ≡ true → are_ascii (text_of pieces end) ≡ true
all_ascii [] end digits fronts last = last
all_ascii (piece ∷ pieces) end digits fronts last =
    let parts = both_parts (are_ascii piece.0) (fronts_pass are_ascii pieces) fronts in
    ascii_joined piece.0 (piece.1 ++ 34 ∷ text_of pieces end) parts.0
    (ascii_joined piece.1 (34 ∷ text_of pieces end) (ascii piece.1 digits.0) (all_ascii pieces end digits.1 parts.1 last))

pub all_one_line : (pieces : List Piece) (end : List ℕ) → AllDigits pieces → fronts_pass is_one_line pieces ≡ true → is_one_line end ≡ true → is_one_line (text_of pieces end) ≡ true
all_one_line [] end digits fronts last = last
all_one_line (piece ∷ pieces) end digits fronts last =
    let parts = both_parts (is_one_line piece.0) (fronts_pass is_one_line pieces) fronts in
    line_joined piece.0 (piece.1 ++ 34 ∷ text_of pieces end) parts.0
    (line_joined piece.1 (34 ∷ text_of pieces end) (one_line piece.1 digits.0) (all_one_line pieces end digits.1 parts.1 last))

-- what stands behind the text stands behind its end
pub text_then : (pieces : List Piece) (end more : List ℕ) → text_of pieces end ++ more ≡ text_of pieces (end ++ more)
text_then [] end more = refl
text_then (piece ∷ pieces) end more =
    append_assoc piece.0 (piece.1 ++ 34 ∷ text_of pieces end) more
    ∙ ap (λ s. piece.0 ++ s) (append_assoc piece.1 (34 ∷ text_of pieces end) more ∙ ap (λ s. piece.1 ++ 34 ∷ s) (text_then pieces end more))

-- ---- texts of definitions, which are joined from the left

pub three_fields : (a i b j c k e : List ℕ) → a ++ i ++ b ++ j ++ c ++ k ++ e ≡ a ++ (i ++ (b ++ (j ++ (c ++ (k ++ e)))))
three_fields a i b j c k e = simp append_assoc

pub five_fields : (a i b j s c k d l f m e : List ℕ)
    → (a ++ i ++ b ++ j ++ s) ++ (c ++ k ++ d ++ l ++ f ++ m ++ e) ≡ a ++ (i ++ (b ++ (j ++ (s ++ (c ++ (k ++ (d ++ (l ++ (f ++ (m ++ e))))))))))
five_fields a i b j s c k d l f m e = simp append_assoc
