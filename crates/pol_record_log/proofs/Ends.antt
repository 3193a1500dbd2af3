-- Where a log ends.
use Rattle.std.proofs.Common.{◌≡◌, ◌≢◌, ne_eqb, ℕ, zero, suc, ◌+◌, ◌≤◌, ◌<◌, ◌==◌, Bool, if◌then◌else◌, List, [], ◌∷◌, ◌++◌, length, refl, ◌∙◌, ap, arith, length-append, length-drop}
use Rattle.std.proofs.lemmas.List.{append_assoc}
use Rattle.pol_record_log.specs.Log.{AreRecords, Meaning, gate_from, last_gate}
use Rattle.pol_record_log.specs.Records.{next_in, size}
use Rattle.pol_record_log.proofs.Logs.{next_is, size_is}

-- more turns than there are bytes change nothing
same_turns : (m n at : ℕ) (bytes : List ℕ) → length bytes ≤ m → length bytes ≤ n → gate_from m at bytes ≡ gate_from n at bytes
same_turns zero zero at [] few enough = refl
same_turns zero (suc n) at [] few enough = refl
same_turns (suc m) zero at [] few enough = refl
same_turns (suc m) (suc n) at [] few enough = refl
same_turns zero n at (gate ∷ behind) few enough = absurd (omega arith)
same_turns (suc m) zero at (gate ∷ behind) few enough = absurd (omega arith)
same_turns (suc m) (suc n) at (gate ∷ behind) few enough =
    let shorter = length-drop (4 + size behind) behind in
    ap (λ (later : ℕ). if gate == 0 then at else later)
    (same_turns m n (at + 5 + size behind) (next_in behind) (omega (arith, shorter)) (omega (arith, shorter)))

-- the closed gate from this one on
abbrev ends_from : ℕ → List ℕ → ℕ
ends_from at bytes = gate_from (length bytes) at bytes

open_gate : (at gate : ℕ) (behind : List ℕ) → gate ≢ 0 → ends_from at (gate ∷ behind) ≡ ends_from (at + 5 + size behind) (next_in behind)
open_gate at gate behind is_open =
    let shorter = length-drop (4 + size behind) behind in
    ap (λ (b : Bool). if b then at else gate_from (length behind) (at + 5 + size behind) (next_in behind)) (ne_eqb gate 0 is_open)
    ∙ same_turns (length behind) (length (next_in behind)) (at + 5 + size behind) (next_in behind) (omega (arith, shorter)) (omega arith)

module _ {S R : Type 0} (k : Meaning S R) where
  behind_records : (requests : List R) (s : S) (at : ℕ) (front tail : List ℕ) → AreRecords k s requests front → 0 < length tail
      → ends_from at (front ++ tail) ≡ ends_from (at + length front) tail
  behind_records [] s at front tail none more =
      let empty : length front ≡ 0 = ap length none in
      (λ i. ends_from at (none i ++ tail)) ∙ ap (λ (n : ℕ). ends_from n tail) (omega arith)
  behind_records (request ∷ requests) s at front tail (gate, four, line, rest, is, front_is, others) more =
      let long : length front ≡ 5 + length line + length rest =
      ap length front_is ∙ omega (arith, length-append (four ++ line) rest, length-append four line, is.four_bytes) in
      let later : 0 < length (rest ++ tail) = omega (arith, length-append rest tail) in
      (λ i. ends_from at (front_is i ++ tail))
      ∙ ap (λ (b : List ℕ). ends_from at (gate ∷ b)) (append_assoc (four ++ line) rest tail)
      ∙ open_gate at gate ((four ++ line) ++ (rest ++ tail)) is.is_open
      ∙ (λ i. ends_from (at + 5 + size_is k s request gate four line (rest ++ tail) is later i) (next_is k s request gate four line (rest ++ tail) is later i))
      ∙ behind_records requests (k.after s request) (at + 5 + length line) rest tail others more
      ∙ ap (λ (n : ℕ). ends_from n tail) (omega (arith, long))

  -- records with a closed gate behind them, whatever follows it
  pub ends_behind : (requests : List R) (s : S) (front rest : List ℕ) → AreRecords k s requests front → last_gate (front ++ 0 ∷ rest) ≡ length front
  ends_behind requests s front rest are =
      let same : 0 + length front ≡ length front = omega arith in
      behind_records requests s 0 front (0 ∷ rest) are (omega arith) ∙ same
