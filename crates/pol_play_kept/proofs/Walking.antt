-- The lines of a script are gone through.
use Rattle.std.proofs.Common.{◌≡◌, inl, inr, ℕ, ◌+◌, ◌-◌, ◌^◌, ◌≤◌, ◌<◌, Bool, true, false, ◌||◌, not, nat_lt, List, [], ◌∷◌, ◌++◌, length, map, IsTrue, refl, sym, ap, ◌∙◌, subst, arith, append-nil, append_assoc, length-append}
use Rattle.std.proofs.lemmas.Bool.{cases_lt, lt-ltb}
use Rattle.std.proofs.lemmas.List.{map-append}
use Rattle.pol_disk.specs.Calls.{Asked}
use Rattle.pol_disk.specs.Images.{LeavesOnly}
use Rattle.pol_disk.proofs.Moments.{joined, started, widened}
use Rattle.pol_journal.specs.Journal.{IsJournal, request_of}
use Rattle.pol_kept.specs.Keeps.{IsKept, requests_in}
use Rattle.pol_history.specs.Machine.{Machine}
use Rattle.pol_kept.proofs.Disks.{kept_images}
use Rattle.pol_machine.specs.Serial.{machine_of}
use Rattle.pol_machine.specs.Stands.{Stored, options_in}
use Rattle.pol_model.specs.declared.options.Options.{Options}
use Rattle.pol_model.specs.declared.request.Request.{Request}
use Rattle.pol_run.specs.Run.{readings_of}
use Rattle.pol_run.specs.Spots.{Reading}
use Rattle.pol_script.specs.Lines.{lines_of}
use Rattle.pol_script.specs.Reading.{reading_of}
use Rattle.pol_serial_run.specs.Accepted.{accepted, accepted_by, accepted_from}
use Rattle.pol_serial_run.specs.SerialRun.{machine_after_lines, machine_then, phase_after_lines}
use Rattle.pol_serial_run.proofs.Going.{accepted_both, accepted_more}
use Rattle.pol_status.specs.Limits.{fits_limits, input_max}
use Rattle.pol_play_kept.specs.Answering.{IsSoFar, StopsHere}
use Rattle.pol_play_kept.specs.Calls.{RunsFor, StopsAtCall, StopsKeeping, calls_to_keep}
use Rattle.pol_play_kept.specs.Images.{IsJournalOrMore, IsJournalWithin}
use Rattle.pol_play_kept.specs.Played.{StopsAt}
use Rattle.pol_play_kept.specs.declared.progress.Progress.{Progress}
use Rattle.pol_play_kept.proofs.Counted.{keep_both, runs_as, runs_more, runs_none}
use Rattle.pol_play_kept.proofs.Going.{few_phases, holds_records, requests_are}
use Rattle.pol_play_kept.proofs.Kept.{at_line, none_yet}

-- ---- lists

readings_both : (front back : List (List ℕ)) → map reading_of (front ++ back) ≡ map reading_of front ++ map reading_of back
readings_both front back = map-append reading_of front back

readings_many : (lines : List (List ℕ)) → length (map reading_of lines) ≡ length lines
readings_many [] = refl
readings_many (line ∷ lines) = let so_far = readings_many lines in omega (arith, so_far)

-- ---- limits

neither : (a b : Bool) → b ≡ true → not (a || b) ≡ true → ⊥
neither true b is within = let no : false ≡ true = within in cc
neither false true is within = let no : false ≡ true = within in cc
neither false false is within = let no : false ≡ true = is in cc

pub few_lines : (script : List ℕ) → IsTrue (fits_limits script) → length (lines_of script) ≤ 1000000
few_lines script within = elim (cases_lt 1000000 (length (lines_of script))) [
  | inl over ↦ absurd (neither (nat_lt input_max (length script)) (nat_lt 1000000 (length (lines_of script))) (lt-ltb 1000000 (length (lines_of script)) over) within)
  | inr few ↦ few
]

-- ---- a walk

-- these lines of a script were answered, and the others stand in the rest
pub record IsWalked {D : Type 0} (moment : D → ℕ) (left_since : D → ℕ → List ℕ → Type 0) (seen : D → List ℕ) (may_leave : D → List ℕ → Type 0) (faults : D → ℕ)
    (does fails : D → Asked → D → Type 0) (options : Options) (start : List Request) (script : List ℕ) (first : D) (rest : List ℕ) (progress : Progress) (disk : D) (s : Stored) : Type 0 where
  pub before : List (List ℕ)
  pub split : lines_of script ≡ before ++ lines_of rest
  pub so_far : IsSoFar seen may_leave options start (map reading_of before) progress disk s
  pub moments : LeavesOnly moment left_since first disk (IsJournalWithin options start (accepted options start (readings_of script)))
  pub counted : faults first ≤ faults disk
  pub ran : RunsFor does fails (calls_to_keep (accepted options start (map reading_of before))) first disk

module _ {D : Type 0} (moment : D → ℕ) (left_since : D → ℕ → List ℕ → Type 0) (seen : D → List ℕ) (may_leave : D → List ℕ → Type 0) (faults : D → ℕ)
    (does fails : D → Asked → D → Type 0) (options : Options) (start : List Request) (script : List ℕ) where
  -- before the first line
  pub begun : (first : D) (progress : Progress) (s : Stored) → ((c : List ℕ) → left_since first (moment first) c → may_leave first c)
      → IsSoFar seen may_leave options start [] progress first s
      → IsWalked moment left_since seen may_leave faults does fails options start script first script progress first s
  begun first progress s only_now so_far = record {
    before = [];
    split = refl;
    so_far = so_far;
    moments = started moment left_since first (IsJournalWithin options start (accepted options start (readings_of script)))
        (λ c left. none_yet options start (accepted options start (readings_of script)) c
        (subst (λ (requests : List Request). IsJournal options requests c) (requests_are seen may_leave options start [] progress first s so_far ∙ append-nil start)
        (subst (λ (o : Options). IsJournal o (requests_in s) c) so_far.options_are (kept_images seen may_leave first s so_far.kept c (only_now c left)))));
    counted = omega arith;
    ran = runs_none does fails first first refl;
  }

  module _ (first : D) (rest : List ℕ) (progress : Progress) (disk : D) (s : Stored)
      (walked : IsWalked moment left_since seen may_leave faults does fails options start script first rest progress disk s) where
    abbrev readings : List Reading
    readings = map reading_of walked.before

    pub phase_fits : IsTrue (fits_limits script) → progress.phase < 2 ^ 64 - 1
    phase_fits within = omega (
      arith,
      walked.so_far.phase,
      few_phases 1 readings,
      readings_many walked.before,
      few_lines script within,
      ap length walked.split,
      length-append walked.before (lines_of rest),
    )

    module _ (line behind : List ℕ) (cut : lines_of rest ≡ line ∷ lines_of behind) where
      split_here : lines_of script ≡ walked.before ++ line ∷ lines_of behind
      split_here = walked.split ∙ ap (λ (lines : List (List ℕ)). walked.before ++ lines) cut

      pub readings_here : readings_of script ≡ readings ++ reading_of line ∷ map reading_of (lines_of behind)
      readings_here = ap (map reading_of) split_here ∙ readings_both walked.before (line ∷ lines_of behind)

      abbrev m : Machine
      m = machine_after_lines options (machine_of options start) readings

      abbrev later : List Request
      later = accepted_from options (machine_then options m (reading_of line)) (map reading_of (lines_of behind))

      accepted_here : accepted options start (readings_of script) ≡ accepted options start readings ++ accepted_by options m (reading_of line) ++ later
      accepted_here =
          ap (accepted options start) readings_here
          ∙ accepted_both options (machine_of options start) readings (reading_of line ∷ map reading_of (lines_of behind))
          ∙ sym (append_assoc (accepted options start readings) (accepted_by options m (reading_of line)) later)

      moments_here : (new : D) → LeavesOnly moment left_since disk new (IsJournalOrMore options (start ++ accepted options start readings) (accepted_by options m (reading_of line)))
          → LeavesOnly moment left_since first new (IsJournalWithin options start (accepted options start (readings_of script)))
      moments_here new leaves =
          joined moment left_since first disk new (IsJournalWithin options start (accepted options start (readings_of script))) walked.moments
          (widened moment left_since disk new _ (IsJournalWithin options start (accepted options start (readings_of script))) leaves
          (λ c is. at_line options start (accepted options start (readings_of script)) (accepted options start readings) (accepted_by options m (reading_of line)) later accepted_here c is))

      ran_here : (new : D) → RunsFor does fails (calls_to_keep (accepted_by options m (reading_of line))) disk new
          → RunsFor does fails (calls_to_keep (accepted options start (map reading_of (walked.before ++ line ∷ [])))) first new
      ran_here new ran =
          runs_as does fails (calls_to_keep (accepted options start readings) + calls_to_keep (accepted_by options m (reading_of line)))
          (calls_to_keep (accepted options start (map reading_of (walked.before ++ line ∷ [])))) first new
          (sym (ap (λ (rs : List Reading). calls_to_keep (accepted options start rs)) (readings_both walked.before (line ∷ []))
          ∙ ap calls_to_keep (accepted_more options (machine_of options start) readings (reading_of line))
          ∙ keep_both (accepted options start readings) (accepted_by options m (reading_of line))))
          (runs_more does fails (calls_to_keep (accepted options start readings)) (calls_to_keep (accepted_by options m (reading_of line))) first disk new walked.ran ran)

      -- one line more
      pub walks_on : (next : Progress) (new : D) (t : Stored) → IsSoFar seen may_leave options start (readings ++ reading_of line ∷ []) next new t
          → LeavesOnly moment left_since disk new (IsJournalOrMore options (start ++ accepted options start readings) (accepted_by options m (reading_of line)))
          → faults disk ≤ faults new → RunsFor does fails (calls_to_keep (accepted_by options m (reading_of line))) disk new
          → IsWalked moment left_since seen may_leave faults does fails options start script first behind next new t
      walks_on next new t so_far leaves risen ran = record {
        before = walked.before ++ line ∷ [];
        split = split_here ∙ sym (append_assoc walked.before (line ∷ []) (lines_of behind));
        so_far = subst (λ (rs : List Reading). IsSoFar seen may_leave options start rs next new t) (sym (readings_both walked.before (line ∷ []))) so_far;
        moments = moments_here new leaves;
        counted = omega (arith, walked.counted, risen);
        ran = ran_here new ran;
      }

      -- or it stops at the line
      pub stops_moments : (new : D) → LeavesOnly moment left_since disk new (IsJournalOrMore options (start ++ accepted options start readings) (accepted_by options m (reading_of line)))
          → LeavesOnly moment left_since first new (IsJournalWithin options start (accepted options start (readings_of script)))
      stops_moments = moments_here

      abbrev pub stops_at : (next : Progress) (new : D) → StopsHere seen may_leave options start readings (reading_of line) next new
          → StopsAt options start (readings_of script) (may_leave new) next.text.items
      stops_at next new stops = record {
        before = readings;
        later = map reading_of (lines_of behind);
        reading = reading_of line;
        split = readings_here;
        line = stops.line;
        answers = stops.answers;
        serial = stops.serial;
        text_is = stops.text;
        images = stops.images;
      }

      -- at one of its calls
      pub stops_at_call : (next : Progress) (new : D) → StopsHere seen may_leave options start readings (reading_of line) next new
          → StopsKeeping does fails seen line disk new
          → StopsAtCall does fails seen may_leave options start (readings_of script) next.marked next.text.items first new
      stops_at_call next new stops keeping = record {
        at = stops_at next new stops;
        marked_is = stops.marked;
        disk = disk;
        ran = walked.ran;
        holds = holds_records seen may_leave options start readings progress disk s walked.so_far;
        line = line;
        asked = ap request_of stops.line.reads;
        keeping = keeping;
      }

    -- all lines were answered
    pub walked_all : lines_of rest ≡ [] → IsSoFar seen may_leave options start (readings_of script) progress disk s
    walked_all none =
        subst (λ (rs : List Reading). IsSoFar seen may_leave options start rs progress disk s)
        (sym (ap (map reading_of) (walked.split ∙ ap (λ (lines : List (List ℕ)). walked.before ++ lines) none ∙ append-nil walked.before))) walked.so_far

    pub ran_all : lines_of rest ≡ [] → RunsFor does fails (calls_to_keep (accepted options start (readings_of script))) first disk
    ran_all none =
        subst (λ (rs : List Reading). RunsFor does fails (calls_to_keep (accepted options start rs)) first disk)
        (sym (ap (map reading_of) (walked.split ∙ ap (λ (lines : List (List ℕ)). walked.before ++ lines) none ∙ append-nil walked.before))) walked.ran
