-- A map and what is found of two tables, as they are written.
use Rattle.std.proofs.Common.{◌≡◌, ℕ, ◌+◌, ◌==◌, ◌≤◌, Bool, true, false, not, ◌||◌, nat_lt, cond, List, [], ◌∷◌, ◌++◌, count_by, length, Option, IsTrue, refl, ap, sym, ◌∙◌, subst, arith, ltb-false}
use Rattle.std.specs.Prelude.{if◌then◌else◌}
use Rattle.std.specs.Io.KnownBytes.{Appends}
use Rattle.pol_streams.specs.Bytes.{AppendsPart}
use Rattle.pol_data.proofs.Counts.{count_by-cons}
use Rattle.pol_compare.specs.Finding.{is_same}
use Rattle.pol_compare.specs.Parts.{IsFew}
use Rattle.pol_map_dump.specs.AtEnd.{is_live, map_text}
use Rattle.pol_model.specs.declared.options.Options.{Options}
use Rattle.pol_script.specs.Lines.{lines_from, lines_of}
use Rattle.policyd.specs.Headline.{TellsFinding, WritesFinding, WritesMap, WritesPartOfFinding}
use Rattle.pol_status.specs.Limits.{fits_limits, input_max, lines_max}

-- ---- a text within the limits has few newline bytes
either : (t : Bool) (bytes begun : List ℕ) (ended more : List (List ℕ)) → count_by (λ byte. byte == 10) bytes ≤ length ended
    → count_by (λ byte. byte == 10) bytes ≤ length more → cond t 1 0 + count_by (λ byte. byte == 10) bytes ≤ length (if t then begun ∷ ended else more)
either true bytes begun ended more one other = omega arith
either false bytes begun ended more one other = omega arith

newlines_begun : (begun bytes : List ℕ) → count_by (λ byte. byte == 10) bytes ≤ length (lines_from begun bytes)
newlines_begun begun [] = omega arith
newlines_begun begun (byte ∷ bytes) =
    subst (λ (n : ℕ). n ≤ length (lines_from begun (byte ∷ bytes))) (sym (count_by-cons (λ (b : ℕ). b == 10) byte bytes))
    (either (byte == 10) bytes begun (lines_from [] bytes) (lines_from (begun ++ byte ∷ []) bytes) (newlines_begun [] bytes) (newlines_begun (begun ++ byte ∷ []) bytes))

bounded : (long many : Bool) (bytes lines : ℕ) → nat_lt input_max bytes ≡ long → nat_lt lines_max lines ≡ many → not (long || many) ≡ true
    → (bytes ≤ input_max) × (lines ≤ lines_max)
bounded false false bytes lines is is' within = (ltb-false input_max bytes is, ltb-false lines_max lines is')
bounded false true bytes lines is is' within = absurd cc
bounded true many bytes lines is is' within = absurd cc

pub fits_few : (text : List ℕ) → IsTrue (fits_limits text) → IsFew text
fits_few text within =
    let both = bounded (nat_lt input_max (length text)) (nat_lt lines_max (length (lines_of text))) (length text) (length (lines_of text)) refl refl within in
    let bytes : length text ≤ 67108864 = both.0 in
    let lines : length (lines_of text) ≤ 1000000 = both.1 in
    let newlines = newlines_begun [] text in
    record { short = omega arith; few = omega arith }

-- ---- a map
pub writes_map : (options : Options) (name : List ℕ) (old new : Option (List ℕ)) (script text written : List ℕ) (live : Bool) (status : ℕ)
    → text ≡ map_text options name script → live ≡ is_live options name script → written ≡ text → Appends old new written
    → status ≡ (if not live then 1 else 0) → WritesMap options name old new script status
writes_map options name old new script text written live status is alive all appended ended = record {
  written = subst (λ (xs : List ℕ). Appends old new xs) (all ∙ is) appended;
  marked = ended ∙ turned live ∙ ap (λ (b : Bool). if b then 0 else 1) alive;
}
  where
    turned : (b : Bool) → ◌≡◌ {A = ℕ} (if not b then 1 else 0) (if b then 0 else 1)
    turned true = refl
    turned false = refl

pub writes_part_of_map : (old new : Option (List ℕ)) (text written whole : List ℕ) → text ≡ whole → written ≡ text → AppendsPart old new written
    → AppendsPart old new whole
writes_part_of_map old new text written whole is all appended = subst (λ (xs : List ℕ). AppendsPart old new xs) (all ∙ is) appended

-- ---- what is found of two tables
module _ (text line written : List ℕ) (marked : Bool) (tells : TellsFinding text line marked) (old new : Option (List ℕ)) (all : written ≡ line) where
  pub writes_finding : (status : ℕ) → Appends old new written → status ≡ (if marked then 1 else 0) → WritesFinding old new text status
  writes_finding status appended ended = record {
    finding = tells.finding;
    is_finding = tells.is_finding;
    written = subst (λ (xs : List ℕ). Appends old new xs) (all ∙ tells.told) appended;
    marked = ended ∙ ap (λ (b : Bool). if b then 1 else 0) tells.mark ∙ turned (is_same tells.finding);
  }
    where
      turned : (b : Bool) → ◌≡◌ {A = ℕ} (if not b then 1 else 0) (if b then 0 else 1)
      turned true = refl
      turned false = refl

  pub writes_part_of_finding : AppendsPart old new written → WritesPartOfFinding old new text
  writes_part_of_finding appended = record {
    finding = tells.finding;
    is_finding = tells.is_finding;
    written = subst (λ (xs : List ℕ). AppendsPart old new xs) (all ∙ tells.told) appended;
  }
