-- Lines that are cut behind a newline.
use Rattle.std.proofs.Common.{◌≡◌, ◌==◌, ◌<◌, ◌+◌, ◌-◌, ◌++◌, ℕ, zero, suc, Bool, true, false, if◌then◌else◌, List, [], ◌∷◌, length, slice_index, take, drop, refl, sym, ap, ◌∙◌, subst, arith, add-one, length-drop}
use Rattle.std.proofs.lemmas.List.{take_rest}
use Rattle.pol_script.specs.Lines.{lines_from, lines_of, newline}

behind_from : (bytes begun : List ℕ) (i : ℕ) → i < length bytes → (slice_index bytes i == newline) ≡ true
    → lines_from begun bytes ≡ lines_from begun (take (suc i) bytes) ++ lines_of (drop (suc i) bytes)
behind_from [] begun i within is = absurd (omega arith)
behind_from (byte ∷ bytes) begun zero within is = rw is refl
behind_from (byte ∷ bytes) begun (suc i) within is =
    elim (byte == newline) as (λ (ends : Bool).
    (if ends then begun ∷ lines_from [] bytes else lines_from (begun ++ byte ∷ []) bytes)
    ≡ (if ends then begun ∷ lines_from [] (take (suc i) bytes) else lines_from (begun ++ byte ∷ []) (take (suc i) bytes)) ++ lines_of (drop (suc i) bytes)) [
      | true ↦ ap (λ (lines : List (List ℕ)). begun ∷ lines) (behind_from bytes [] i (omega arith) is)
      | false ↦ behind_from bytes (begun ++ byte ∷ []) i (omega arith) is
    ]

index_behind : (half : ℕ) (bytes : List ℕ) (i : ℕ) → i < length (drop half bytes) → slice_index (drop half bytes) i ≡ slice_index bytes (half + i)
index_behind zero bytes i within = ap (λ (n : ℕ). slice_index bytes n) (let same : i ≡ 0 + i = omega arith in same)
index_behind (suc half) [] i within = absurd (omega arith)
index_behind (suc half) (byte ∷ bytes) i within =
    index_behind half bytes i within ∙ ap (λ (n : ℕ). slice_index (byte ∷ bytes) n) (let same : suc (half + i) ≡ suc half + i = omega arith in same)

-- a newline that is found in the second half
pub cut_behind : (bytes : List ℕ) (half end : ℕ) → end < length (take (length bytes - half) (drop half bytes)) → (slice_index (take (length bytes - half) (drop half bytes)) end == newline) ≡ true
    → lines_of bytes ≡ lines_of (take (half + end + 1) bytes) ++ lines_of (drop (half + end + 1) bytes)
cut_behind bytes half end within is =
    let rest = take_rest bytes half in
    let below : end < length (drop half bytes) = subst (λ (xs : List ℕ). end < length xs) rest within in
    let there : (slice_index bytes (half + end) == newline) ≡ true =
    ap (λ (byte : ℕ). byte == newline) (sym (index_behind half bytes end below)) ∙ ap (λ (xs : List ℕ). slice_index xs end == newline) (sym rest) ∙ is in
    subst (λ (n : ℕ). lines_of bytes ≡ lines_of (take n bytes) ++ lines_of (drop n bytes)) (sym (add-one (half + end)))
    (behind_from bytes [] (half + end) (omega (arith, below, length-drop half bytes)) there)
