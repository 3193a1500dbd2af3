-- What the bytes of a log stand for. What a line asks, and what is accepted, is told by who keeps the log.
use Rattle.std.specs.Prelude.{◌≡◌, ◌≢◌, ℕ, zero, suc, ◌+◌, ◌==◌, nat_le, Bool, false, if◌then◌else◌, List, [], ◌∷◌, ◌++◌, length, Option, None, Some, Result, Ok, Err}
use Rattle.std.specs.Int.{from_be_bytes, w32}
use Rattle.pol_record_log.specs.Records.{is_whole, line_in, next_in, size}

-- what a line asks, whether that has a fault in a state, and the state after it
pub record Meaning (S R : Type 0) : Type 0 where
  pub asked_in : List ℕ → Option R
  pub has_fault : S → R → Bool
  pub after : S → R → S

-- the place of the first closed gate, or of the gate behind so many records, the first gate of which stands at this place
abbrev pub gate_from : ℕ → ℕ → List ℕ → ℕ
gate_from records at [] = at
gate_from zero at (gate ∷ behind) = at
gate_from (suc records) at (gate ∷ behind) = if gate == 0 then at else gate_from records (at + 5 + size behind) (next_in behind)

-- the place of the closed gate that ends a log
abbrev pub last_gate : List ℕ → ℕ
last_gate bytes = gate_from (length bytes) 0 bytes

-- a request, and then those that follow it; the first place that is damaged comes before all
abbrev pub onto : {R : Type 0} → R → Result (List R) ℕ → Result (List R) ℕ
onto request (Ok requests) = Ok (request ∷ requests)
onto request (Err at) = Err at

abbrev pub and_then : {R : Type 0} → Result R ℕ → (R → Result (List R) ℕ) → Result (List R) ℕ
and_then (Ok request) later = onto request (later request)
and_then (Err at) later = Err at

module _ {S R : Type 0} (k : Meaning S R) where
  -- what is asked, where something is asked that has no fault
  abbrev pub accepted : S → ℕ → Option R → Result R ℕ
  accepted s at None = Err at
  accepted s at (Some request) = if k.has_fault s request then Err at else Ok request

  -- what is accepted of the record behind the open gate that stands at this place
  abbrev pub request_at : S → ℕ → List ℕ → Result R ℕ
  request_at s at behind = if is_whole behind then accepted s at (k.asked_in (line_in behind)) else Err at

  -- the requests of at most so many records, the first gate of which stands at this place
  abbrev pub requests_in : ℕ → S → ℕ → List ℕ → Result (List R) ℕ
  requests_in records s at [] = Err at
  requests_in zero s at (gate ∷ behind) = Err at
  requests_in (suc records) s at (gate ∷ behind) =
      if gate == 0 then Ok [] else and_then (request_at s at behind) (λ request. requests_in records (k.after s request) (at + 5 + size behind) (next_in behind))

  -- The requests of a log, or the place of the gate where it is damaged: the record or the next gate doesn't lie in the bytes, or
  -- the line asks nothing, or what it asks has a fault after those before it. At most one byte is the empty log.
  abbrev pub log_of : S → List ℕ → Result (List R) ℕ
  log_of start bytes = if nat_le (length bytes) 1 then Ok [] else requests_in (length bytes) start 0 bytes

  abbrev pub after_all : S → List R → S
  after_all s [] = s
  after_all s (request ∷ requests) = after_all (k.after s request) requests

  -- ---- the records of a log

  -- this line is of a record that stands behind an open gate, by its four bytes of length, and asks this
  pub record IsRecord (s : S) (request : R) (gate : ℕ) (four line : List ℕ) : Type 0 where
    pub is_open : gate ≢ 0
    pub four_bytes : length four ≡ 4
    pub sized : from_be_bytes w32 four ≡ length line
    pub asked : k.asked_in line ≡ Some request
    pub no_fault : k.has_fault s request ≡ false

  -- the bytes are the records of these requests, each behind an open gate
  abbrev pub AreRecords : S → List R → List ℕ → Type 0
  AreRecords s [] bytes = bytes ≡ []
  AreRecords s (request ∷ requests) bytes =
      (gate : ℕ) × (four : List ℕ) × (line : List ℕ) × (rest : List ℕ)
      × IsRecord s request gate four line × (bytes ≡ gate ∷ (four ++ line) ++ rest) × AreRecords (k.after s request) requests rest
