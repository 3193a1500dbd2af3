-- What logs stand for, record by record.
use Rattle.std.proofs.Common.{◌≡◌, ◌≢◌, ◌⊎◌, inl, inr, ◌^◌, ne_eqb, ℕ, zero, suc, ◌+◌, ◌≤◌, ◌<◌, ◌==◌, nat_le, nat_lt, Bool, true, false, if◌then◌else◌, List, [], ◌∷◌, ◌++◌, length, take, drop, Some, Result, Ok, Err, refl, sym, ◌∙◌, ap, arith, length-append, length-drop}
use Rattle.std.proofs.lemmas.List.{append_assoc, append-nil, take_at, drop_at}
use Rattle.std.proofs.lemmas.Bool.{cases_Bool, cases_eq}
use Rattle.std.proofs.lemmas.Bool.Decides.{nat_tests}
use Rattle.std.specs.Int.{from_be_bytes, to_be_bytes, w32}
use Rattle.pol_record_log.specs.Log.{AreRecords, IsRecord, Meaning, accepted, after_all, and_then, log_of, onto, request_at, requests_in}
use Rattle.pol_record_log.specs.Records.{is_whole, line_in, next_in, record_of, size}
use Rattle.pol_record_log.specs.Steps.{IsAppended}
use Rattle.std.proofs.lemmas.Nat.{from_be_bytes-to_be_bytes_4}

module _ {S R : Type 0} (k : Meaning S R) where
  -- more turns than there are bytes change nothing
  pub same_turns : (m n : ℕ) (s : S) (at : ℕ) (bytes : List ℕ) → length bytes ≤ m → length bytes ≤ n → requests_in k m s at bytes ≡ requests_in k n s at bytes
  same_turns zero zero s at [] few enough = refl
  same_turns zero (suc n) s at [] few enough = refl
  same_turns (suc m) zero s at [] few enough = refl
  same_turns (suc m) (suc n) s at [] few enough = refl
  same_turns zero n s at (gate ∷ behind) few enough = absurd (omega arith)
  same_turns (suc m) zero s at (gate ∷ behind) few enough = absurd (omega arith)
  same_turns (suc m) (suc n) s at (gate ∷ behind) few enough =
      let shorter = length-drop (4 + size behind) behind in
      ap (λ (later : R → Result (List R) ℕ). if gate == 0 then Ok [] else and_then (request_at k s at behind) later)
      (λ i request. same_turns m n (k.after s request) (at + 5 + size behind) (next_in behind) (omega (arith, shorter)) (omega (arith, shorter)) i)

  -- the requests from a gate on
  abbrev pub requests_at : S → ℕ → List ℕ → Result (List R) ℕ
  requests_at s at bytes = requests_in k (length bytes) s at bytes

  pub from_gate : (s : S) (at gate : ℕ) (behind : List ℕ)
      → requests_at s at (gate ∷ behind) ≡ (if gate == 0 then Ok [] else and_then (request_at k s at behind) (λ request. requests_at (k.after s request) (at + 5 + size behind) (next_in behind)))
  from_gate s at gate behind =
      let shorter = length-drop (4 + size behind) behind in
      ap (λ (later : R → Result (List R) ℕ). if gate == 0 then Ok [] else and_then (request_at k s at behind) later)
      (λ i request. same_turns (length behind) (length (next_in behind)) (k.after s request) (at + 5 + size behind) (next_in behind) (omega (arith, shorter)) (omega arith) i)

  pub closed_gate : (s : S) (at : ℕ) (behind : List ℕ) → requests_at s at (0 ∷ behind) ≡ Ok []
  closed_gate s at behind = from_gate s at 0 behind

  pub open_gate : (s : S) (at gate : ℕ) (behind : List ℕ) → gate ≢ 0
      → requests_at s at (gate ∷ behind) ≡ and_then (request_at k s at behind) (λ request. requests_at (k.after s request) (at + 5 + size behind) (next_in behind))
  open_gate s at gate behind is_open =
      from_gate s at gate behind
      ∙ ap (λ (b : Bool). if b then Ok [] else and_then (request_at k s at behind) (λ request. requests_at (k.after s request) (at + 5 + size behind) (next_in behind))) (ne_eqb gate 0 is_open)

  -- ---- a record, and what stands behind it

  module _ (s : S) (request : R) (gate : ℕ) (four line tail : List ℕ) (is : IsRecord k s request gate four line) (more : 0 < length tail) where
    abbrev behind : List ℕ
    behind = (four ++ line) ++ tail

    split : behind ≡ four ++ (line ++ tail)
    split = append_assoc four line tail

    pub size_is : size behind ≡ length line
    size_is = ap (λ (b : List ℕ). from_be_bytes w32 (take 4 b)) split ∙ ap (from_be_bytes w32) (take_at four (line ++ tail) 4 is.four_bytes) ∙ is.sized

    line_is : line_in behind ≡ line
    line_is =
        ap (λ (n : ℕ). take n (drop 4 behind)) size_is
        ∙ ap (take (length line)) (ap (drop 4) split ∙ drop_at four (line ++ tail) 4 is.four_bytes)
        ∙ take_at line tail (length line) refl

    pub next_is : next_in behind ≡ tail
    next_is = drop_at (four ++ line) tail (4 + size behind) (length-append four line ∙ omega (arith, is.four_bytes, size_is))

    whole : is_whole behind ≡ true
    whole =
        let long : length behind ≡ 4 + length line + length tail = length-append (four ++ line) tail ∙ omega (arith, length-append four line, is.four_bytes) in
        let less : 4 + size behind < length behind = omega (arith, long, size_is) in
        lt_test (4 + size behind) (length behind) less
      where
        lt_test : (m n : ℕ) → m < n → nat_lt m n ≡ true
        lt_test m n less = grind (arith, nat_tests)

    accepts : (at : ℕ) → request_at k s at behind ≡ Ok request
    accepts at =
        ap (λ (b : Bool). if b then accepted k s at (k.asked_in (line_in behind)) else Err at) whole
        ∙ ap (accepted k s at) (ap k.asked_in line_is ∙ is.asked)
        ∙ ap (λ (b : Bool). if b then Err at else Ok request) is.no_fault

    pub one_record : (at : ℕ) → requests_at s at (gate ∷ behind) ≡ onto request (requests_at (k.after s request) (at + 5 + length line) tail)
    one_record at =
        open_gate s at gate behind is.is_open
        ∙ ap (λ (r : Result R ℕ). and_then r (λ request. requests_at (k.after s request) (at + 5 + size behind) (next_in behind))) (accepts at)
        ∙ (λ i. onto request (requests_at (k.after s request) (at + 5 + size_is i) (next_is i)))

  -- ---- records

  abbrev pub onto_all : List R → Result (List R) ℕ → Result (List R) ℕ
  onto_all [] later = later
  onto_all (request ∷ requests) later = onto request (onto_all requests later)

  onto_all-Ok : (requests : List R) → onto_all requests (Ok []) ≡ Ok requests
  onto_all-Ok [] = refl
  onto_all-Ok (request ∷ requests) = ap (onto request) (onto_all-Ok requests)

  onto_all-Err : (requests : List R) (at : ℕ) → onto_all requests (Err at) ≡ Err at
  onto_all-Err [] at = refl
  onto_all-Err (request ∷ requests) at = ap (onto request) (onto_all-Err requests at)

  pub records_then : (requests : List R) (s : S) (at : ℕ) (front tail : List ℕ) → AreRecords k s requests front → 0 < length tail
      → requests_at s at (front ++ tail) ≡ onto_all requests (requests_at (after_all k s requests) (at + length front) tail)
  records_then [] s at front tail none more =
      let empty : length front ≡ 0 = ap length none in
      (λ i. requests_at s at (none i ++ tail)) ∙ ap (λ (n : ℕ). requests_at s n tail) (omega arith)
  records_then (request ∷ requests) s at front tail (gate, four, line, rest, is, front_is, others) more =
      let long : length front ≡ 5 + length line + length rest =
      ap length front_is ∙ omega (arith, length-append (four ++ line) rest, length-append four line, is.four_bytes) in
      let later : 0 < length (rest ++ tail) = omega (arith, length-append rest tail) in
      (λ i. requests_at s at (front_is i ++ tail))
      ∙ ap (λ (b : List ℕ). requests_at s at (gate ∷ b)) (append_assoc (four ++ line) rest tail)
      ∙ one_record s request gate four line (rest ++ tail) is later at
      ∙ ap (onto request) (records_then requests (k.after s request) (at + 5 + length line) rest tail others more
      ∙ ap (λ (n : ℕ). onto_all requests (requests_at (after_all k (k.after s request) requests) n tail)) (omega (arith, long)))

  none_in_nothing : (requests : List R) (s : S) (front : List ℕ) → AreRecords k s requests front → length front ≡ 0 → requests ≡ []
  none_in_nothing [] s front none empty = refl
  none_in_nothing (request ∷ requests) s front (gate, four, line, rest, is, front_is, others) empty =
      let long : length front ≡ suc (length ((four ++ line) ++ rest)) = ap length front_is in
      absurd (omega arith)

  -- records with a closed gate behind them, whatever follows it
  pub log_closed : (requests : List R) (s : S) (front rest : List ℕ) → AreRecords k s requests front → log_of k s (front ++ 0 ∷ rest) ≡ Ok requests
  log_closed requests s front rest are = elim (cases_Bool (nat_le (length (front ++ 0 ∷ rest)) 1)) [
    | inl short ↦
        let few : length (front ++ 0 ∷ rest) ≤ 1 = le_from (length (front ++ 0 ∷ rest)) 1 short in
        let none = none_in_nothing requests s front are (omega (arith, length-append front (0 ∷ rest))) in
        ap (λ (b : Bool). if b then Ok [] else requests_at s 0 (front ++ 0 ∷ rest)) short ∙ ap (λ (l : List R). Ok l) (sym none)
    | inr long ↦
        ap (λ (b : Bool). if b then Ok [] else requests_at s 0 (front ++ 0 ∷ rest)) long
        ∙ records_then requests s 0 front (0 ∷ rest) are (omega arith)
        ∙ ap (onto_all requests) (closed_gate (after_all k s requests) (0 + length front) rest)
        ∙ onto_all-Ok requests
  ]
    where
      le_from : (m n : ℕ) → nat_le m n ≡ true → m ≤ n
      le_from m n told = grind (arith, nat_tests)

  -- records, and then what is damaged
  pub log_damaged : (requests : List R) (s : S) (front tail : List ℕ) (at : ℕ) → AreRecords k s requests front → 0 < length tail → 1 < length (front ++ tail)
      → requests_at (after_all k s requests) (length front) tail ≡ Err at → log_of k s (front ++ tail) ≡ Err at
  log_damaged requests s front tail at are more long damaged =
      ap (λ (b : Bool). if b then Ok [] else requests_at s 0 (front ++ tail)) (not_le (length (front ++ tail)) 1 long)
      ∙ records_then requests s 0 front tail are more
      ∙ ap (λ (n : ℕ). onto_all requests (requests_at (after_all k s requests) n tail)) (omega arith)
      ∙ ap (onto_all requests) damaged
      ∙ onto_all-Err requests at
    where
      not_le : (m n : ℕ) → n < m → nat_le m n ≡ false
      not_le m n less = grind (arith, nat_tests)

  pub after_all-push : (requests : List R) (s : S) (request : R) → after_all k s (requests ++ request ∷ []) ≡ k.after (after_all k s requests) request
  after_all-push [] s request = refl
  after_all-push (first ∷ requests) s request = after_all-push requests (k.after s first) request

  -- one record more
  pub records_push : (requests : List R) (s : S) (front : List ℕ) (request : R) (gate : ℕ) (four line : List ℕ)
      → AreRecords k s requests front → IsRecord k (after_all k s requests) request gate four line → AreRecords k s (requests ++ request ∷ []) (front ++ gate ∷ (four ++ line))
  records_push [] s front request gate four line none is =
      (gate, four, line, [], is, (λ i. none i ++ gate ∷ (four ++ line)) ∙ ap (λ (l : List ℕ). gate ∷ l) (sym (append-nil (four ++ line))), refl)
  records_push (first ∷ requests) s front request gate four line (g, f, l, rest, it, front_is, others) is = (
    g,
    f,
    l,
    rest ++ gate ∷ (four ++ line),
    it,
    (λ i. front_is i ++ gate ∷ (four ++ line)) ∙ ap (λ (b : List ℕ). g ∷ b) (append_assoc (f ++ l) rest (gate ∷ (four ++ line))),
    records_push requests (k.after s first) rest request gate four line others is,
  )

  -- ---- a record that is appended

  -- a line that asks what has no fault in the state, as short as its four bytes can say
  pub record MayFollow (s : S) (request : R) (line : List ℕ) : Type 0 where
    pub short : length line < 2 ^ 32
    pub asked : k.asked_in line ≡ Some request
    pub no_fault : k.has_fault s request ≡ false

  as_record : (s : S) (request : R) (gate : ℕ) (line : List ℕ) → gate ≢ 0 → MayFollow s request line → IsRecord k s request gate (to_be_bytes w32 (length line)) line
  as_record s request gate line is_open may = record {
    is_open = is_open;
    four_bytes = refl;
    sized = from_be_bytes-to_be_bytes_4 (length line) may.short;
    asked = may.asked;
    no_fault = may.no_fault;
  }

  -- the bytes with one record more
  pub with_record : (front line : List ℕ) (gate : ℕ) → front ++ gate ∷ (record_of line ++ 0 ∷ []) ≡ (front ++ gate ∷ record_of line) ++ 0 ∷ []
  with_record front line gate = sym (append_assoc front (gate ∷ record_of line) (0 ∷ []))

  module _ (requests : List R) (s : S) (front : List ℕ) (request : R) (line : List ℕ) (are : AreRecords k s requests front) (may : MayFollow (after_all k s requests) request line) where
    pub pushed : (gate : ℕ) → gate ≢ 0 → AreRecords k s (requests ++ request ∷ []) (front ++ gate ∷ record_of line)
    pushed gate is_open = records_push requests s front request gate (to_be_bytes w32 (length line)) line are (as_record (after_all k s requests) request gate line is_open may)

    -- the log is as before, or has one request more
    pub appended_log : (c : List ℕ) → IsAppended front (record_of line ++ 0 ∷ []) c → (log_of k s c ≡ Ok requests) ⊎ (log_of k s c ≡ Ok (requests ++ request ∷ []))
    appended_log c (inl (rest, is)) = inl (ap (log_of k s) is ∙ log_closed requests s front rest are)
    appended_log c (inr (gate, is)) = elim (cases_eq gate 0) [
      | inl shut ↦ inl (ap (log_of k s) (is ∙ ap (λ (g : ℕ). front ++ g ∷ (record_of line ++ 0 ∷ [])) shut) ∙ log_closed requests s front (record_of line ++ 0 ∷ []) are)
      | inr is_open ↦ inr (ap (log_of k s) (is ∙ with_record front line gate) ∙ log_closed (requests ++ request ∷ []) s (front ++ gate ∷ record_of line) [] (pushed gate is_open))
    ]
