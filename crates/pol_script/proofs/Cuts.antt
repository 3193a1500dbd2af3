-- Where a script is cut: at its first newline, or nowhere.
use Rattle.std.proofs.Common.{◌≡◌, ℕ, zero, suc, ◌<◌, Bool, true, false, ◌==◌, List, [], ◌∷◌, ◌++◌, length, slice_index, take, drop, refl, sym, ap, ◌∙◌, append_assoc, arith}
use Rattle.std.proofs.lemmas.List.{append-nil}
use Rattle.pol_script.specs.Lines.{newline, last_line, lines_from, lines_of}

-- a byte other than a newline goes on with the line
goes_on : (begun : List ℕ) (byte : ℕ) (bytes : List ℕ) (b : Bool) → (byte == newline) ≡ b → ((byte == newline) ≡ true → ⊥)
    → lines_from begun (byte ∷ bytes) ≡ lines_from (begun ++ byte ∷ []) bytes
goes_on begun byte bytes true e other = absurd (other e)
goes_on begun byte bytes false e other = rw e refl

cut_from : (bytes begun : List ℕ) (i : ℕ) → i < length bytes → (slice_index bytes i == newline) ≡ true
    → ((k : ℕ) → k < i → (slice_index bytes k == newline) ≡ true → ⊥)
    → lines_from begun bytes ≡ (begun ++ take i bytes) ∷ lines_from [] (drop (suc i) bytes)
cut_from [] begun i within is none = absurd (omega arith)
cut_from (byte ∷ bytes) begun zero within is none = rw (is, append-nil begun) refl
cut_from (byte ∷ bytes) begun (suc i) within is none =
    goes_on begun byte bytes (byte == newline) refl (none 0 (omega arith))
    ∙ cut_from bytes (begun ++ byte ∷ []) i (omega arith) is (λ k below at. none (suc k) (omega arith) at)
    ∙ ap (λ line. line ∷ lines_from [] (drop (suc i) bytes)) (append_assoc begun (byte ∷ []) (take i bytes))

-- the first line ends at the first newline
pub cut_at : (bytes : List ℕ) (i : ℕ) → i < length bytes → (slice_index bytes i == newline) ≡ true
    → ((k : ℕ) → k < i → (slice_index bytes k == newline) ≡ true → ⊥)
    → lines_of bytes ≡ take i bytes ∷ lines_of (drop (suc i) bytes)
cut_at bytes i within is none = cut_from bytes [] i within is none

uncut_from : (bytes begun : List ℕ) → ((k : ℕ) → k < length bytes → (slice_index bytes k == newline) ≡ true → ⊥)
    → lines_from begun bytes ≡ last_line (begun ++ bytes)
uncut_from [] begun none = ap last_line (sym (append-nil begun))
uncut_from (byte ∷ bytes) begun none =
    goes_on begun byte bytes (byte == newline) refl (none 0 (omega arith))
    ∙ uncut_from bytes (begun ++ byte ∷ []) (λ k below at. none (suc k) (omega arith) at)
    ∙ ap last_line (append_assoc begun (byte ∷ []) bytes)

last_whole : (bytes : List ℕ) → (length bytes == 0) ≡ false → last_line bytes ≡ bytes ∷ []
last_whole [] some = absurd cc
last_whole (byte ∷ bytes) some = refl

-- bytes without a newline are one line, where there are any
pub uncut : (bytes : List ℕ) → (length bytes == 0) ≡ false → ((k : ℕ) → k < length bytes → (slice_index bytes k == newline) ≡ true → ⊥)
    → lines_of bytes ≡ bytes ∷ []
uncut bytes some none = uncut_from bytes [] none ∙ last_whole bytes some
