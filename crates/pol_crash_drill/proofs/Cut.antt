-- A script that is cut short by a disk in memory.
use Rattle.std.proofs.Common.{◌≡◌, inl, inr, ℕ, zero, suc, ◌+◌, ◌-◌, ◌*◌, ◌/◌, ◌%◌, ◌^◌, ◌<◌, ◌≤◌, ◌==◌, nat_le, nat_lt, Bool, true, false, if◌then◌else◌, List, [], ◌∷◌, ◌++◌, length, take, Some, None, Ok, refl, sym, ap, ◌∙◌, subst, arith, eq-eqb, ne_eqb, length-append}
use Rattle.std.specs.List.{list_any}
use Rattle.std.proofs.lemmas.Bool.{lt-ltb}
use Rattle.std.proofs.lemmas.Bool.Decides.{nat_tests}
use Rattle.pol_answer.specs.declared.answer.Answer.{Answer}
use Rattle.pol_disk.specs.Calls.{Asked, Runs, StopsIn}
use Rattle.pol_disk.specs.Images.{Only}
use Rattle.pol_disk.specs.MemDisk.{DiskState, Does, Fails, bytes_in}
use Rattle.pol_disk.specs.Record.{IsImage, held, kept_bytes}
use Rattle.pol_disk.specs.declared.call.DiskCall.{DiskCall}
use Rattle.pol_disk.proofs.Calls.{kept_is_image}
use Rattle.pol_disk.proofs.Drills.{HasFailed, HasMade, has_failed, has_made, synced_too, written}
use Rattle.pol_history.specs.Commits.{commits_in, state_now}
use Rattle.pol_history.specs.Machine.{Machine}
use Rattle.pol_journal.specs.Journal.{IsJournal, commits}
use Rattle.pol_kept.specs.Calls.{calls_of_commit, calls_of_open}
use Rattle.pol_kept.proofs.Records.{kept_journal, one_more}
use Rattle.pol_machine.specs.Serial.{machine_of}
use Rattle.pol_model.specs.After.{start as first_state, state_of}
use Rattle.pol_model.specs.Fault.{fault_of}
use Rattle.pol_model.specs.State.{State}
use Rattle.pol_model.specs.declared.options.Options.{Options}
use Rattle.pol_model.specs.declared.request.Request.{Request}
use Rattle.pol_record_log.specs.Records.{record_of}
use Rattle.pol_record_log.specs.Steps.{before_gate, calls_of_append}
use Rattle.pol_record_log.proofs.Gates.{gate_size}
use Rattle.pol_record_log.proofs.Logs.{log_closed}
use Rattle.pol_run.specs.Run.{is_marked}
use Rattle.pol_run.specs.Spots.{Reading}
use Rattle.pol_serial_run.specs.Accepted.{accepted, accepted_by, accepted_from}
use Rattle.pol_serial_run.specs.SerialRun.{IsSerial, machine_after_lines, machine_then}
use Rattle.pol_serial_run.proofs.Going.{accepted_both, commits_after}
use Rattle.pol_play_kept.specs.Calls.{RunsFor, StopsAtCall, StopsOnceOpened, calls_to_keep, calls_to_open}
use Rattle.pol_play_kept.specs.Images.{AllAre}
use Rattle.pol_play_kept.specs.Played.{IsWhole}
use Rattle.pol_play_kept.proofs.Kept.{accepts_one}
use Rattle.pol_crash_drill.specs.Crashed.{IsCut, empty_disk, keeps_all, left_by_crash}
use Rattle.pol_crash_drill.specs.Drill.{before_accepted, found, lines_played, requests_before}
use Rattle.pol_crash_drill.proofs.Left.{left_after, left_at_once, left_opened, left_synced, left_written}
use Rattle.pol_crash_drill.proofs.Lines.{all_before, split_before}

-- ---- tests of numbers

at_most : (m n : ℕ) → m ≤ n → nat_le m n ≡ true
at_most m n less = grind (arith, nat_tests)

beyond : (m n : ℕ) → n < m → nat_le m n ≡ false
beyond m n less = grind (arith, nat_tests)

not_less : (m n : ℕ) → n ≤ m → nat_lt m n ≡ false
not_less m n less = grind (arith, nat_tests)

-- a flag by its number
abbrev flag : Bool → ℕ
flag b = if b then 1 else 0

not_one : (n : ℕ) → suc n ≡ 0 → ⊥
not_one n same = omega (arith, same)

same_flag : (a b : Bool) → flag a ≡ flag b → a ≡ b
same_flag true true same = refl
same_flag true false same = absurd (not_one 0 same)
same_flag false true same = absurd (not_one 0 (sym same))
same_flag false false same = refl

-- ---- which lines are answered, and how many requests are found

module _ (options : Options) (call : ℕ) (readings : List Reading) where
  abbrev some_before : List Reading
  some_before = before_accepted options (machine_of options []) (requests_before call) readings

  pub lines_early : call ≤ 3 → lines_played options call readings ≡ []
  lines_early early = ap (λ (b : Bool). if b then [] else some_before) (at_most call 3 early)

  pub lines_late : 3 < call → lines_played options call readings ≡ some_before
  lines_late late = ap (λ (b : Bool). if b then [] else some_before) (beyond call 3 late)

  pub lines_of_all : 3 + 4 * length (accepted options [] readings) < call → lines_played options call readings ≡ readings
  lines_of_all beyond_all =
      lines_late (omega (arith, beyond_all)) ∙ all_before options (machine_of options []) (requests_before call) readings (omega (arith, beyond_all))

module _ (call all : ℕ) where
  -- what is found where a call of a line failed
  abbrev found_at : ℕ
  found_at = requests_before call + (if call % 4 == 3 then 1 else 0)

  abbrev found_late : ℕ
  found_late = if nat_lt (3 + 4 * all) call then all else found_at

  found_early : call ≤ 3 → found call all ≡ 0
  found_early early = ap (λ (b : Bool). if b then 0 else found_late) (at_most call 3 early)

  found_all : 3 + 4 * all < call → found call all ≡ all
  found_all beyond_all =
      ap (λ (b : Bool). if b then 0 else found_late) (beyond call 3 (omega arith))
      ∙ ap (λ (b : Bool). if b then all else found_at) (lt-ltb (3 + 4 * all) call beyond_all)

  -- at this call for the request that is accepted after so many others
  module _ (before place : ℕ) (is : call ≡ 4 + 4 * before + place) (few : place < 4) (more : before < all) where
    before_is : requests_before call ≡ before
    before_is = omega (arith, is)

    place_is : call % 4 ≡ place
    place_is = omega (arith, is)

    found_there : found call all ≡ before + (if place == 3 then 1 else 0)
    found_there =
        ap (λ (b : Bool). if b then 0 else found_late) (beyond call 3 (omega (arith, is)))
        ∙ ap (λ (b : Bool). if b then all else found_at) (not_less (3 + 4 * all) call (omega (arith, is, few, more)))
        ∙ (λ i. before_is i + (if place_is i == 3 then 1 else 0))

    odd_place : (p : ℕ) → place ≡ p → keeps_all call ≡ (p % 2 == 1)
    odd_place p same = let odd : call % 2 ≡ p % 2 = omega (arith, is, same) in ap (λ (n : ℕ). n == 1) odd

-- ---- the three ways in which it ends

module _ (options : Options) (call : ℕ) (first : 1 ≤ call) (few : call < 2 ^ 64) (readings : List Reading) (new : DiskState) where
  abbrev old : DiskState
  old = empty_disk call

  -- a call failed while the journal was opened
  pub cut_in_opening : StopsIn Does Fails old (calls_of_open (bytes_in old)) new → AllAre options [] (IsImage (held new.past)) → new.calls ≡ call
      → IsCut options call readings new.past [] false
  cut_in_opening stops are counted =
      let has = has_failed call few (calls_of_open []) old new refl (omega (arith, first)) stops in
      let inside : has.place < 3 = has.inside in
      let last : new.calls ≡ 0 + has.place + 1 = has.counted in
      let early : call ≤ 3 = omega (arith, last, counted, inside) in
      record {
        answers = [];
        serial = subst (λ (rs : List Reading). IsSerial options [] rs []) (sym (lines_early options call readings early)) tt;
        text_is = refl;
        marked_is = refl;
        requests = [];
        many = sym (found_early call (length (accepted options [] readings)) early);
        journal = are (left_by_crash call new.past) (kept_is_image new.past (keeps_all call));
      }

  -- no call failed
  pub cut_nowhere : (text : List ℕ) (marked : Bool) → IsWhole options [] readings (IsImage (held new.past)) text (if marked then 1 else 0)
      → RunsFor Does Fails (calls_to_open (bytes_in old) + calls_to_keep (accepted options [] readings)) old new
      → IsCut options call readings new.past text marked
  cut_nowhere text marked whole runs =
      let all = length (accepted options [] readings) in
      let many : length runs.calls ≡ 3 + 4 * all = runs.many in
      let made = has_made call few runs.calls old new refl (omega (arith, first)) runs.ran in
      let last : new.calls ≡ 0 + length runs.calls = made.counted in
      let beyond_all : 3 + 4 * all < call = omega (arith, made.below, last, many) in
      let lines = lines_of_all options call readings beyond_all in
      record {
        answers = whole.answers;
        serial = subst (λ (rs : List Reading). IsSerial options [] rs whole.answers) (sym lines) whole.serial;
        text_is = whole.text_is;
        marked_is = same_flag marked (list_any is_marked whole.answers) whole.status_is;
        requests = accepted options [] readings;
        many = sym (found_all call all beyond_all);
        journal = whole.images (left_by_crash call new.past) (kept_is_image new.past (keeps_all call));
      }

  -- a call failed that was for the request of a line
  module _ (text : List ℕ) (marked : Bool) (opening : StopsOnceOpened Does Fails bytes_in (λ d. IsImage (held d.past)) options [] readings marked text old new)
      (counted : new.calls ≡ call) where
    abbrev stops : StopsAtCall Does Fails bytes_in (λ d. IsImage (held d.past)) options [] readings marked text opening.disk new
    stops = opening.stops

    abbrev before : List Reading
    before = stops.at.before

    abbrev requests : List Request
    requests = accepted options [] before

    abbrev request : Request
    request = stops.at.line.request

    abbrev m : Machine
    m = machine_after_lines options (machine_of options []) before

    one : accepted_by options m stops.at.reading ≡ request ∷ []
    one = accepts_one options m stops.at.reading stops.at.line

    opened : HasMade call 3 old opening.disk
    opened = has_made call few (calls_of_open []) old opening.disk refl (omega (arith, first)) opening.opened

    played : HasMade call (length stops.ran.calls) opening.disk stops.disk
    played = has_made call few stops.ran.calls opening.disk stops.disk opened.from opened.below stops.ran.ran

    cut : HasFailed (calls_of_commit (bytes_in stops.disk) stops.line) stops.disk new
    cut = has_failed call few (calls_of_commit (bytes_in stops.disk) stops.line) stops.disk new played.from played.below stops.keeping.stops

    inside : cut.place < 4
    inside = cut.inside

    call_is : call ≡ 4 + 4 * length requests + cut.place
    call_is =
        let many : length stops.ran.calls ≡ 4 * length requests = stops.ran.many in
        let three : opening.disk.calls ≡ 0 + 3 = opened.counted in
        omega (arith, counted, cut.counted, played.counted, three, many)

    all_is : length (accepted options [] readings) ≡ length requests + 1 + length (accepted_from options (machine_then options m stops.at.reading) stops.at.later)
    all_is =
        let later = accepted_from options (machine_then options m stops.at.reading) stops.at.later in
        ap (λ (rs : List Reading). length (accepted options [] rs)) stops.at.split
        ∙ ap length (accepted_both options (machine_of options []) before (stops.at.reading ∷ stops.at.later))
        ∙ ap (λ (by : List Request). length (requests ++ (by ++ later))) one
        ∙ length-append requests (request ∷ later) ∙ omega arith

    more : length requests < length (accepted options [] readings)
    more = omega (arith, all_is)

    lines : lines_played options call readings ≡ before
    lines =
        lines_late options call readings (omega (arith, call_is))
        ∙ ap (λ (n : ℕ). before_accepted options (machine_of options []) n readings)
        (before_is call (length (accepted options [] readings)) (length requests) cut.place call_is inside more)
        ∙ ap (λ (rs : List Reading). before_accepted options (machine_of options []) (length requests) rs) stops.at.split
        ∙ split_before options (machine_of options []) before stops.at.reading stops.at.later request one

    -- ---- what is left

    abbrev bytes : List ℕ
    bytes = bytes_in stops.disk

    abbrev front : List ℕ
    front = before_gate bytes

    abbrev behind : List ℕ
    behind = record_of stops.line ++ 0 ∷ []

    no_fault : fault_of (state_of options requests) request ≡ None
    no_fault =
        ap (λ (s : State). fault_of s request) (ap (state_of options) (sym (commits_after options (machine_of options []) before))) ∙ stops.at.line.no_fault

    closed : (rest : List ℕ) → IsJournal options requests (front ++ 0 ∷ rest)
    closed rest = log_closed commits requests (first_state options) front rest stops.holds.records

    opened_gate : IsJournal options (requests ++ request ∷ []) (front ++ 1 ∷ behind)
    opened_gate =
        kept_journal options (requests ++ request ∷ []) (front ++ 1 ∷ behind)
        (one_more options requests bytes (record { closed = stops.holds.closed; records = stops.holds.records }) request stops.line stops.keeping.short stops.asked no_fault)

    sizes : (1 ≤ length bytes) × (length front ≡ length bytes - 1)
    sizes = gate_size bytes (length bytes) stops.holds.closed refl

    synced : (held stops.disk.past).synced ≡ front ++ 0 ∷ []
    synced = synced_too stops.disk.past bytes stops.holds.only ∙ stops.holds.closed

    -- what a crash leaves after the first so many calls for the line
    abbrev left_at : ℕ → Bool → List ℕ
    left_at place keep = left_after stops.disk.past (length bytes) behind place keep

    is_left : (place : ℕ) (keep : Bool) → cut.place ≡ place → keeps_all call ≡ keep → left_by_crash call new.past ≡ left_at place keep
    is_left place keep same odd =
        ap (λ (past : List DiskCall). left_by_crash call past) cut.past
        ∙ (λ i. kept_bytes (odd i) (held (stops.disk.past ++ written (take (same i) (calls_of_append (length bytes) behind)))))

    ends : (place : ℕ) (keep : Bool) (kept : List Request) → cut.place ≡ place → keeps_all call ≡ keep → length kept ≡ length requests + (if place == 3 then 1 else 0)
        → IsJournal options kept (left_at place keep) → IsCut options call readings new.past text marked
    ends place keep kept same odd size journal = record {
      answers = stops.at.answers;
      serial = subst (λ (rs : List Reading). IsSerial options [] rs stops.at.answers) (sym lines) stops.at.serial;
      text_is = stops.at.text_is;
      marked_is = stops.marked_is;
      requests = kept;
      many =
          size ∙ ap (λ (p : ℕ). length requests + (if p == 3 then 1 else 0)) (sym same)
          ∙ sym (found_there call (length (accepted options [] readings)) (length requests) cut.place call_is inside more);
      journal = subst (IsJournal options kept) (sym (is_left place keep same odd)) journal;
    }

    odd : (p : ℕ) → cut.place ≡ p → keeps_all call ≡ (p % 2 == 1)
    odd = odd_place call (length (accepted options [] readings)) (length requests) cut.place call_is inside more

    same_size : length requests ≡ length requests + 0
    same_size = omega arith

    pub cut_at_line : IsCut options call readings new.past text marked
    cut_at_line = by_place cut.place refl inside
      where
        by_place : (place : ℕ) → cut.place ≡ place → place < 4 → IsCut options call readings new.past text marked
        by_place zero same less =
            ends 0 false requests same (odd 0 same) same_size
            (subst (IsJournal options requests) (sym (left_at_once stops.disk.past front behind (length bytes) sizes.0 sizes.1 stops.holds.closed synced false)) (closed []))
        by_place (suc zero) same less =
            ends 1 true requests same (odd 1 same) same_size
            (subst (IsJournal options requests) (sym (left_written stops.disk.past front behind (length bytes) sizes.0 sizes.1 stops.holds.closed synced)) (closed behind))
        by_place (suc (suc zero)) same less =
            ends 2 false requests same (odd 2 same) same_size
            (subst (IsJournal options requests) (sym (left_synced stops.disk.past front behind (length bytes) sizes.0 sizes.1 stops.holds.closed synced)) (closed behind))
        by_place (suc (suc (suc zero))) same less =
            ends 3 true (requests ++ request ∷ []) same (odd 3 same) (length-append requests (request ∷ []))
            (subst (IsJournal options (requests ++ request ∷ [])) (sym (left_opened stops.disk.past front behind (length bytes) sizes.0 sizes.1 stops.holds.closed synced)) opened_gate)
        by_place (suc (suc (suc (suc more)))) same less = absurd (omega arith)
