-- Bytes without a newline, and lines that end at one.
use Rattle.std.proofs.Common.{◌≡◌, ℕ, zero, suc, ◌<◌, Bool, true, false, ◌==◌, not, List, [], ◌∷◌, ◌++◌, length, slice_index, take, drop, refl, sym, ap, ◌∙◌, arith, append_assoc}
use Rattle.std.specs.Cmp.Derive.{both_true}
use Rattle.std.proofs.lemmas.Bool.{eqb-true}
use Rattle.std.proofs.lemmas.List.{append-nil}
use Rattle.std.proofs.lemmas.List.Folds.{list_all-append}
use Rattle.pol_script.specs.Lines.{newline, last_line, lines_from, lines_of, is_newline, is_one_line}
use Rattle.pol_script.proofs.ScriptLaws.{both_parts}

not_true : (b : Bool) → not b ≡ true → b ≡ false
not_true true e = absurd cc
not_true false e = refl

is_not : (b : Bool) → (b ≡ true → ⊥) → not b ≡ true
is_not true other = absurd (other refl)
is_not false other = refl

pub one_line_both : (front back : List ℕ) → is_one_line front ≡ true → is_one_line back ≡ true → is_one_line (front ++ back) ≡ true
one_line_both front back one other = list_all-append (λ b. not (is_newline b)) front back ∙ both_true one other

-- ---- lines

ended_from : (line behind begun : List ℕ) → is_one_line line ≡ true → lines_from begun (line ++ newline ∷ behind) ≡ (begun ++ line) ∷ lines_from [] behind
ended_from [] behind begun one = ap (λ line. line ∷ lines_from [] behind) (sym (append-nil begun))
ended_from (byte ∷ line) behind begun one =
    let parts = both_parts (not (is_newline byte)) (is_one_line line) one in
    let other = not_true (is_newline byte) parts.0 in
    rw other (ended_from line behind (begun ++ byte ∷ []) parts.1) ∙ ap (λ front. front ∷ lines_from [] behind) (append_assoc begun (byte ∷ []) line)

-- bytes without a newline, and a newline, are a line
pub ended_line : (line behind : List ℕ) → is_one_line line ≡ true → lines_of (line ++ newline ∷ behind) ≡ line ∷ lines_of behind
ended_line line behind one = ended_from line behind [] one

last_from : (line begun : List ℕ) → is_one_line line ≡ true → lines_from begun line ≡ last_line (begun ++ line)
last_from [] begun one = ap last_line (sym (append-nil begun))
last_from (byte ∷ line) begun one =
    let parts = both_parts (not (is_newline byte)) (is_one_line line) one in
    let other = not_true (is_newline byte) parts.0 in
    rw other (last_from line (begun ++ byte ∷ []) parts.1) ∙ ap last_line (append_assoc begun (byte ∷ []) line)

last_some : (line : List ℕ) → (length line == 0) ≡ false → last_line line ≡ line ∷ []
last_some [] some = absurd cc
last_some (byte ∷ line) some = refl

-- and so are some at the end
pub open_line : (line : List ℕ) → (length line == 0) ≡ false → is_one_line line ≡ true → lines_of line ≡ line ∷ []
open_line line some one = last_from line [] one ∙ last_some line some

-- ---- the first newline

pub parts_at : (bytes : List ℕ) (i : ℕ) → i < length bytes → (slice_index bytes i == newline) ≡ true → bytes ≡ take i bytes ++ newline ∷ drop (suc i) bytes
parts_at [] i within is = absurd (omega arith)
parts_at (byte ∷ bytes) zero within is = ap (λ b. b ∷ bytes) (eqb-true byte newline is)
parts_at (byte ∷ bytes) (suc i) within is = ap (λ rest. byte ∷ rest) (parts_at bytes i (omega arith) is)

pub front_one : (bytes : List ℕ) (i : ℕ) → i < length bytes → ((k : ℕ) → k < i → (slice_index bytes k == newline) ≡ true → ⊥) → is_one_line (take i bytes) ≡ true
front_one [] i within none = absurd (omega arith)
front_one (byte ∷ bytes) zero within none = refl
front_one (byte ∷ bytes) (suc i) within none =
    both_true (is_not (byte == newline) (none 0 (omega arith))) (front_one bytes i (omega arith) (λ k below at. none (suc k) (omega arith) at))

pub all_one : (bytes : List ℕ) → ((k : ℕ) → k < length bytes → (slice_index bytes k == newline) ≡ true → ⊥) → is_one_line bytes ≡ true
all_one [] none = refl
all_one (byte ∷ bytes) none =
    both_true (is_not (byte == newline) (none 0 (omega arith))) (all_one bytes (λ k below at. none (suc k) (omega arith) at))

pub no_bytes : (bytes : List ℕ) → (length bytes == 0) ≡ true → bytes ≡ []
no_bytes [] is = refl
no_bytes (byte ∷ bytes) is = absurd (let none = eqb-true (length (byte ∷ bytes)) 0 is in omega (arith, none))
