-- How a log is read record by record, and where it is damaged.
use Rattle.std.proofs.Common.{length-append, ◌≡◌, ◌≢◌, ℕ, ◌+◌, ◌-◌, ◌<◌, nat_lt, Bool, true, false, if◌then◌else◌, List, [], ◌∷◌, ◌++◌, length, take, drop, None, Some, Result, Ok, Err, sym, ◌∙◌, ap, arith, length-drop}
use Rattle.std.proofs.lemmas.List.{append_assoc, drop-drop, length-take-le, take-append-drop}
use Rattle.std.proofs.lemmas.Bool.Decides.{nat_tests}
use Rattle.std.specs.Int.{from_be_bytes, w32}
use Rattle.pol_record_log.specs.Log.{AreRecords, Meaning, accepted, after_all, and_then, log_of, request_at}
use Rattle.pol_record_log.specs.Records.{is_whole, line_in, next_in, size}
use Rattle.pol_record_log.proofs.Logs.{log_damaged, open_gate, requests_at, records_push}

-- what stands behind an open gate, where it is whole
pub record Whole (behind : List ℕ) : Type 0 where
  pub split : behind ≡ (take 4 behind ++ line_in behind) ++ next_in behind
  pub four_bytes : length (take 4 behind) ≡ 4
  pub sized : from_be_bytes w32 (take 4 behind) ≡ length (line_in behind)
  pub more : 0 < length (next_in behind)

pub whole_parts : (behind : List ℕ) → is_whole behind ≡ true → Whole behind
whole_parts behind whole =
    let less : 4 + size behind < length behind = from_test (4 + size behind) (length behind) whole in
    let left : length (drop 4 behind) ≡ length behind - 4 = length-drop 4 behind in
    let long : length (line_in behind) ≡ size behind = length-take-le (size behind) (drop 4 behind) (omega (arith, left)) in
    record {
      split = sym (ap (λ (l : List ℕ). (take 4 behind ++ line_in behind) ++ l) (sym (drop-drop (size behind) 4 behind))
          ∙ rejoin (take 4 behind) (size behind) (drop 4 behind)
          ∙ take-append-drop 4 behind);
      four_bytes = length-take-le 4 behind (omega arith);
      sized = sym long;
      more = omega (arith, length-drop (4 + size behind) behind);
    }
  where
    from_test : (m n : ℕ) → nat_lt m n ≡ true → m < n
    from_test m n told = grind (arith, nat_tests)

    rejoin : (xs : List ℕ) (n : ℕ) (ys : List ℕ) → (xs ++ take n ys) ++ drop n ys ≡ xs ++ ys
    rejoin xs n ys = append_assoc xs (take n ys) (drop n ys) ∙ ap (λ (l : List ℕ). xs ++ l) (take-append-drop n ys)

module _ {S R : Type 0} (k : Meaning S R) where
  -- ---- damage

  pub not_whole : (s : S) (at : ℕ) (behind : List ℕ) → is_whole behind ≡ false → request_at k s at behind ≡ Err at
  not_whole s at behind short = ap (λ (b : Bool). if b then accepted k s at (k.asked_in (line_in behind)) else Err at) short

  pub asks_nothing : (s : S) (at : ℕ) (behind : List ℕ) → is_whole behind ≡ true → k.asked_in (line_in behind) ≡ None → request_at k s at behind ≡ Err at
  asks_nothing s at behind whole none =
      ap (λ (b : Bool). if b then accepted k s at (k.asked_in (line_in behind)) else Err at) whole ∙ ap (accepted k s at) none

  pub asks_a_fault : (s : S) (at : ℕ) (behind : List ℕ) (request : R) → is_whole behind ≡ true → k.asked_in (line_in behind) ≡ Some request → k.has_fault s request ≡ true
      → request_at k s at behind ≡ Err at
  asks_a_fault s at behind request whole asked fault =
      ap (λ (b : Bool). if b then accepted k s at (k.asked_in (line_in behind)) else Err at) whole
      ∙ ap (accepted k s at) asked
      ∙ ap (λ (b : Bool). if b then Err at else Ok request) fault

  -- the log is damaged at the gate behind these records
  pub damaged_at : (requests : List R) (s : S) (front behind : List ℕ) (gate : ℕ) → AreRecords k s requests front → gate ≢ 0 → 1 < length (front ++ gate ∷ behind)
      → request_at k (after_all k s requests) (length front) behind ≡ Err (length front) → log_of k s (front ++ gate ∷ behind) ≡ Err (length front)
  damaged_at requests s front behind gate are is_open long damaged =
      log_damaged k requests s front (gate ∷ behind) (length front) are (omega arith) long
      (open_gate k (after_all k s requests) (length front) gate behind is_open
      ∙ ap (λ (r : Result R ℕ). and_then r (λ request. requests_at k (k.after (after_all k s requests) request) (length front + 5 + size behind) (next_in behind))) damaged)

  -- ---- one record more was read

  pub record Read (requests : List R) (s : S) (front behind : List ℕ) (gate : ℕ) (request : R) : Type 0 where
    pub front_now : List ℕ
    pub records : AreRecords k s (requests ++ request ∷ []) front_now
    pub split : front ++ gate ∷ behind ≡ front_now ++ next_in behind
    pub size_now : length front_now ≡ length front + 5 + length (line_in behind)
    pub more : 0 < length (next_in behind)

  pub read_on : (requests : List R) (s : S) (front behind : List ℕ) (gate : ℕ) (request : R) → AreRecords k s requests front → gate ≢ 0 → is_whole behind ≡ true
      → k.asked_in (line_in behind) ≡ Some request → k.has_fault (after_all k s requests) request ≡ false → Read requests s front behind gate request
  read_on requests s front behind gate request are is_open whole asked no_fault =
      let parts = whole_parts behind whole in
      let four = take 4 behind in
      let line = line_in behind in
      record {
        front_now = front ++ gate ∷ (four ++ line);
        records = records_push k requests s front request gate four line are (record { is_open = is_open; four_bytes = parts.four_bytes; sized = parts.sized; asked = asked; no_fault = no_fault });
        split = ap (λ (l : List ℕ). front ++ gate ∷ l) parts.split ∙ sym (append_assoc front (gate ∷ (four ++ line)) (next_in behind));
        size_now = length-append front (gate ∷ (four ++ line)) ∙ omega (arith, length-append four line, parts.four_bytes);
        more = parts.more;
      }
