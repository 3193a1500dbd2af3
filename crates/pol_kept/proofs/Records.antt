-- The records on the disk, and the journal that they are.
use Rattle.std.proofs.Common.{◌≡◌, ◌≢◌, inl, inr, ◌<◌, ◌^◌, ℕ, ◌+◌, ◌-◌, Bool, true, if◌then◌else◌, List, [], ◌∷◌, ◌++◌, length, take, drop, slice_index, Option, Some, None, is_some, Err, refl, sym, ap, ◌∙◌, subst, arith, length-append}
use Rattle.std.proofs.lemmas.Bool.{cases_Bool}
use Rattle.std.proofs.lemmas.List.{drop_more, length-take-le, take-append-drop, take_at, take_more}
use Rattle.pol_journal.specs.Journal.{IsJournal, IsJournalOrOneMore, asked_in, commits, journal_of}
use Rattle.pol_journal.specs.Records.{asked_behind}
use Rattle.pol_journal.proofs.Journals.{after_requests, may_follow}
use Rattle.pol_kept.specs.Keeps.{IsOneMore, IsReplayed, requests_in}
use Rattle.pol_machine.specs.Stands.{Stored}
use Rattle.pol_model.specs.After.{start, state_of}
use Rattle.pol_model.specs.Fault.{fault_of}
use Rattle.pol_model.specs.State.{State}
use Rattle.pol_model.specs.declared.answer.Fault.{Fault}
use Rattle.pol_model.specs.declared.options.Options.{Options}
use Rattle.pol_model.specs.declared.request.Request.{Request}
use Rattle.pol_record_log.specs.Log.{AreRecords, after_all, last_gate, request_at}
use Rattle.pol_record_log.specs.Records.{is_whole, line_in, next_in, record_of}
use Rattle.pol_record_log.specs.Steps.{EndsClosed, IsAppended, before_gate}
use Rattle.pol_record_log.proofs.Ends.{ends_behind}
use Rattle.pol_record_log.proofs.Logs.{appended_log, log_closed, pushed, with_record}
use Rattle.pol_record_log.proofs.Reading.{Read, asks_a_fault, asks_nothing, damaged_at, not_whole, read_on}

-- records of these requests, and a closed gate behind them
pub record AreKept (options : Options) (requests : List Request) (bytes : List ℕ) : Type 0 where
  pub closed : EndsClosed bytes
  pub records : AreRecords commits (start options) requests (before_gate bytes)

pub kept_journal : (options : Options) (requests : List Request) (bytes : List ℕ) → AreKept options requests bytes → IsJournal options requests bytes
kept_journal options requests bytes kept =
    subst (IsJournal options requests) (sym kept.closed) (log_closed commits requests (start options) (before_gate bytes) [] kept.records)

-- all but the last byte, where the last one is told
pub before_last : (front : List ℕ) (gate : ℕ) → before_gate (front ++ gate ∷ []) ≡ front
before_last front gate =
    ap (λ (n : ℕ). take n (front ++ gate ∷ [])) (length_less front gate) ∙ take_at front (gate ∷ []) (length front) refl
  where
    length_less : (front : List ℕ) (gate : ℕ) → length (front ++ gate ∷ []) - 1 ≡ length front
    length_less front gate = omega (arith, length-append front (gate ∷ []))

-- records that are put before a closed gate
pub closed_kept : (options : Options) (requests : List Request) (front : List ℕ) → AreRecords commits (start options) requests front → AreKept options requests (front ++ 0 ∷ [])
closed_kept options requests front records =
    let before = before_last front 0 in
    record {
      closed = ap (λ (l : List ℕ). l ++ 0 ∷ []) (sym before);
      records = subst (AreRecords commits (start options) requests) (sym before) records;
    }

module _ (options : Options) (requests : List Request) (bytes : List ℕ) (kept : AreKept options requests bytes) (request : Request) (line : List ℕ)
    (short : length line < 2 ^ 32) (asked : asked_in line ≡ Some request) (none : fault_of (state_of options requests) request ≡ None) where
  -- what a crash may leave of an append
  pub appended : (c : List ℕ) → IsAppended (before_gate bytes) (record_of line ++ 0 ∷ []) c → IsJournalOrOneMore options requests request c
  appended c is =
      appended_log commits requests (start options) (before_gate bytes) request line kept.records (may_follow options requests request line short asked none) c is

  -- what stands after one
  pub one_more : AreKept options (requests ++ request ∷ []) (before_gate bytes ++ 1 ∷ (record_of line ++ 0 ∷ []))
  one_more =
      subst (AreKept options (requests ++ request ∷ [])) (sym (with_record commits (before_gate bytes) line 1))
      (closed_kept options (requests ++ request ∷ []) (before_gate bytes ++ 1 ∷ record_of line)
      (pushed commits requests (start options) (before_gate bytes) request line kept.records (may_follow options requests request line short asked none) 1 (λ same. absurd (omega (arith, same)))))

-- ---- a journal that is read again

-- the byte at a place, and what stands behind it
here : (bytes : List ℕ) (at : ℕ) → at < length bytes → take at bytes ++ slice_index bytes at ∷ drop (at + 1) bytes ≡ bytes
here bytes at inside = ap (λ (l : List ℕ). take at bytes ++ l) (sym (drop_more bytes at 0 inside)) ∙ take-append-drop at bytes

module _ (options : Options) (bytes : List ℕ) (at : ℕ) (old : Stored) (so_far : IsReplayed options bytes at old) where
  before : length (take at bytes) ≡ at
  before = length-take-le at bytes (omega (arith, so_far.inside))

  long : 1 < length (take at bytes ++ slice_index bytes at ∷ drop (at + 1) bytes)
  long = omega (arith, so_far.long, ap length (here bytes at so_far.inside))

  damaged_here : slice_index bytes at ≢ 0
      → request_at commits (after_all commits (start options) (requests_in old)) (length (take at bytes)) (drop (at + 1) bytes) ≡ Err (length (take at bytes))
      → journal_of options bytes ≡ Err at
  damaged_here is_open damaged =
      ap (journal_of options) (sym (here bytes at so_far.inside))
      ∙ damaged_at commits (requests_in old) (start options) (take at bytes) (drop (at + 1) bytes) (slice_index bytes at) so_far.records is_open long damaged
      ∙ ap (λ (n : ℕ). Err n) before

  -- no commit is read here
  pub nothing_asked : slice_index bytes at ≢ 0 → asked_behind (drop (at + 1) bytes) ≡ None → journal_of options bytes ≡ Err at
  nothing_asked is_open none = damaged_here is_open (elim (cases_Bool (is_whole (drop (at + 1) bytes))) [
    | inl whole ↦
        asks_nothing commits (after_all commits (start options) (requests_in old)) (length (take at bytes)) (drop (at + 1) bytes) whole
        (sym (ap (λ (b : Bool). if b then asked_in (line_in (drop (at + 1) bytes)) else None) whole) ∙ none)
    | inr short ↦ not_whole commits (after_all commits (start options) (requests_in old)) (length (take at bytes)) (drop (at + 1) bytes) short
  ])

  asked_there : (request : Request) → is_whole (drop (at + 1) bytes) ≡ true → asked_behind (drop (at + 1) bytes) ≡ Some request
      → commits.asked_in (line_in (drop (at + 1) bytes)) ≡ Some request
  asked_there request whole asked = sym (ap (λ (b : Bool). if b then asked_in (line_in (drop (at + 1) bytes)) else None) whole) ∙ asked

  -- what is asked here has a fault
  pub fault_asked : (request : Request) → slice_index bytes at ≢ 0 → is_whole (drop (at + 1) bytes) ≡ true → asked_behind (drop (at + 1) bytes) ≡ Some request
      → is_some (fault_of (state_of options (requests_in old)) request) ≡ true → journal_of options bytes ≡ Err at
  fault_asked request is_open whole asked fault = damaged_here is_open (
      asks_a_fault commits (after_all commits (start options) (requests_in old)) (length (take at bytes)) (drop (at + 1) bytes) request whole (asked_there request whole asked)
      (ap (λ (s : State). is_some (fault_of s request)) (after_requests options (requests_in old)) ∙ fault)
      )

  -- one record more
  pub read_one : (request : Request) (new : Stored) → slice_index bytes at ≢ 0 → is_whole (drop (at + 1) bytes) ≡ true → asked_behind (drop (at + 1) bytes) ≡ Some request
      → IsOneMore options request old new → Read commits (requests_in old) (start options) (take at bytes) (drop (at + 1) bytes) (slice_index bytes at) request
  read_one request new is_open whole asked more =
      read_on commits (requests_in old) (start options) (take at bytes) (drop (at + 1) bytes) (slice_index bytes at) request so_far.records is_open whole (asked_there request whole asked)
      (ap (λ (s : State). is_some (fault_of s request)) (after_requests options (requests_in old)) ∙ ap (λ (f : Option Fault). is_some f) more.no_fault)

  pub replayed : (request : Request) (new : Stored) (rest : List ℕ) → slice_index bytes at ≢ 0 → is_whole (drop (at + 1) bytes) ≡ true
      → asked_behind (drop (at + 1) bytes) ≡ Some request → rest ≡ next_in (drop (at + 1) bytes) → IsOneMore options request old new
      → IsReplayed options bytes (length bytes - length rest) new × (at < length bytes - length rest)
  replayed request new rest is_open whole asked is more =
      let read = read_one request new is_open whole asked more in
      let split : bytes ≡ read.front_now ++ rest =
      sym (here bytes at so_far.inside) ∙ read.split ∙ ap (λ (l : List ℕ). read.front_now ++ l) (sym is) in
      let total : length bytes ≡ length read.front_now + length rest = ap length split ∙ length-append read.front_now rest in
      let some : 0 < length rest = subst (λ (l : List ℕ). 0 < length l) (sym is) read.more in
      let place : length bytes - length rest ≡ length read.front_now = omega (arith, total) in
      let front_is : take (length bytes - length rest) bytes ≡ read.front_now = ap (λ (l : List ℕ). take (length bytes - length rest) l) split ∙ take_at read.front_now rest (length bytes - length rest) (sym place) in (
        record {
          long = so_far.long;
          inside = omega (arith, some, total);
          records =
              subst (AreRecords commits (start options) (requests_in new)) (sym front_is)
              (subst (λ (rs : List Request). AreRecords commits (start options) rs read.front_now) (sym more.requests_are) read.records);
          options_are = more.options_are;
          stands = more.stands;
        },
        omega (arith, place, read.size_now, before),
      )

  -- a closed gate ends the journal
  pub ends_here : slice_index bytes at ≡ 0 → last_gate bytes ≡ at
  ends_here shut =
      ap last_gate (sym (here bytes at so_far.inside) ∙ ap (λ (gate : ℕ). take at bytes ++ gate ∷ drop (at + 1) bytes) shut)
      ∙ ends_behind commits (requests_in old) (start options) (take at bytes) (drop (at + 1) bytes) so_far.records
      ∙ before

  pub ended : slice_index bytes at ≡ 0 → IsJournal options (requests_in old) bytes × AreKept options (requests_in old) (take (at + 1) bytes)
  ended shut = (
    ap (journal_of options) (sym (here bytes at so_far.inside) ∙ ap (λ (gate : ℕ). take at bytes ++ gate ∷ drop (at + 1) bytes) shut)
        ∙ log_closed commits (requests_in old) (start options) (take at bytes) (drop (at + 1) bytes) so_far.records,
    subst (AreKept options (requests_in old)) (sym (take_more bytes at 0 so_far.inside ∙ ap (λ (gate : ℕ). take at bytes ++ gate ∷ []) shut))
        (closed_kept options (requests_in old) (take at bytes) so_far.records),
  )
