-- One line more is answered, or the disk fails at it.
use Rattle.std.proofs.Common.{◌≡◌, ◌⊎◌, inl, inr, ℕ, ◌+◌, ◌-◌, ◌^◌, ◌≤◌, ◌<◌, Bool, true, false, ◌||◌, List, [], ◌∷◌, ◌++◌, length, map, IsTrue, IsErrOf, None, Result, Ok, Err, refl, sym, ap, ◌∙◌, subst, arith, append-nil, append_assoc, length-append}
use Rattle.std.specs.List.{flat_map, list_any}
use Rattle.std.proofs.lemmas.List.Concat.{flat_map-append}
use Rattle.std.proofs.lemmas.List.Folds.{list_any-append}
use Rattle.pol_answer.specs.Text.{text_of, texts_of}
use Rattle.pol_answer.specs.declared.answer.Answer.{Answer}
use Rattle.pol_disk.specs.Images.{LeavesOnly}
use Rattle.pol_disk.proofs.Moments.{joined, widened}
use Rattle.pol_history.specs.Commits.{commits_in, state_now}
use Rattle.pol_history.specs.Machine.{Machine}
use Rattle.pol_journal.specs.Journal.{IsJournalOrOneMore, commits}
use Rattle.pol_kept.specs.Keeps.{IsKept, requests_in}
use Rattle.pol_machine.specs.Serial.{machine_of}
use Rattle.pol_machine.specs.Stands.{Stands, Stored, options_in}
use Rattle.pol_model.specs.After.{start as first_state}
use Rattle.pol_model.specs.declared.options.Options.{Options}
use Rattle.pol_model.specs.declared.request.Request.{Request}
use Rattle.pol_record_log.specs.Log.{AreRecords}
use Rattle.pol_record_log.specs.Steps.{before_gate}
use Rattle.pol_run.specs.Run.{is_marked, readings_of, status_of}
use Rattle.pol_run.specs.Spots.{Reading, phase_after}
use Rattle.pol_script.specs.Lines.{lines_of}
use Rattle.pol_script.specs.declared.command.Command.TheVariants as command
use Rattle.pol_script.specs.Reading.{reading_of}
use Rattle.pol_serial_run.specs.Accepted.{accepted, accepted_by, accepted_from}
use Rattle.pol_serial_run.specs.SerialRun.{IsLineAnswer, machine_after_lines, machine_then, phase_after_lines}
use Rattle.pol_serial_run.proofs.Going.{accepted_both, accepted_more, commits_after, machine_more, phase_more, serial_more}
use Rattle.pol_play_kept.specs.Calls.{HoldsRecords}
use Rattle.pol_play_kept.specs.Images.{IsJournalOrMore, IsJournalWithin}
use Rattle.pol_play_kept.specs.Answering.{IsAccepted, IsAnswered, IsSoFar, PlaysLine, StopsHere, phase_told}
use Rattle.pol_play_kept.specs.Played.{StopsAt}
use Rattle.pol_play_kept.specs.declared.line.Stopped.{Stopped}
use Rattle.pol_play_kept.specs.declared.line.Stopped.TheVariants.{Disk as DiskFailed}
use Rattle.pol_play_kept.specs.declared.progress.Progress.{Progress}
use Rattle.pol_play_kept.proofs.Answered.{phase_line}
use Rattle.pol_play_kept.proofs.Kept.{accepts_one, at_line, at_the_end}

-- ---- texts

text_more : (answers : List Answer) (told : Answer) → texts_of (answers ++ told ∷ []) ≡ texts_of answers ++ text_of told
text_more answers told =
    flat_map-append text_of answers (told ∷ []) ∙ ap (λ (t : List ℕ). texts_of answers ++ t) (append-nil (text_of told))

or_false : (b : Bool) → (b || false) ≡ b
or_false true = refl
or_false false = refl

marked_more : (answers : List Answer) (told : Answer) → list_any is_marked (answers ++ told ∷ []) ≡ (list_any is_marked answers || is_marked told)
marked_more answers told =
    list_any-append is_marked answers (told ∷ []) ∙ ap (λ (b : Bool). list_any is_marked answers || b) (or_false (is_marked told))

-- ---- phases

later_phase : (phase : ℕ) (reading : Reading) → phase_after phase reading ≤ phase + 1
later_phase phase (Err fault) = omega arith
later_phase phase (Ok (command.Commit session request)) = omega arith
later_phase phase (Ok (command.Look session query)) = omega arith
later_phase phase (Ok (command.Trace session query)) = omega arith
later_phase phase (Ok (command.Sync session)) = omega arith
later_phase phase (Ok command.Phase) = omega arith

pub few_phases : (phase : ℕ) (readings : List Reading) → phase_after_lines phase readings ≤ phase + length readings
few_phases phase [] = omega arith
few_phases phase (reading ∷ readings) =
    let here = later_phase phase reading in
    let later = few_phases (phase_after phase reading) readings in
    omega (arith, here, later)

-- ---- one line

module _ {D : Type 0} (seen : D → List ℕ) (may_leave : D → List ℕ → Type 0) (options : Options) (start : List Request) (readings : List Reading)
    (progress : Progress) (disk : D) (s : Stored) (so_far : IsSoFar seen may_leave options start readings progress disk s) where
  abbrev m : Machine
  m = machine_after_lines options (machine_of options start) readings

  pub requests_are : requests_in s ≡ start ++ accepted options start readings
  requests_are =
      so_far.stands.at.journal ∙ commits_after options (machine_of options start) readings
      ∙ ap (λ (front : List Request). front ++ accepted options start readings) so_far.begun

  pub one_more : (reading : Reading) (told : Answer) (next : Progress) (new : D) (t : Stored)
      → IsAnswered seen may_leave (options_in s) m progress.phase reading told new t → options_in t ≡ options_in s
      → next.text.items ≡ progress.text.items ++ text_of told → next.marked ≡ (progress.marked || is_marked told)
      → next.phase ≡ phase_told progress.phase told → IsSoFar seen may_leave options start (readings ++ reading ∷ []) next new t
  one_more reading told next new t answered same text marked phase =
      let is = subst (λ (o : Options). IsAnswered seen may_leave o m progress.phase reading told new t) so_far.options_are answered in
      record {
        answers = so_far.answers ++ told ∷ [];
        serial =
            serial_more options (machine_of options start) 1 readings so_far.answers reading told so_far.serial
            (subst (λ (p : ℕ). IsLineAnswer options m p reading told) so_far.phase is.is_told);
        text = text ∙ ap (λ (b : List ℕ). b ++ text_of told) so_far.text ∙ sym (text_more so_far.answers told);
        marked = marked ∙ ap (λ (b : Bool). b || is_marked told) so_far.marked ∙ sym (marked_more so_far.answers told);
        phase =
            phase ∙ phase_line options m progress.phase reading told is.is_told
            ∙ ap (λ (p : ℕ). phase_after p reading) so_far.phase ∙ sym (phase_more 1 readings reading);
        begun = so_far.begun;
        options_are = same ∙ so_far.options_are;
        stands = subst (λ (n : Machine). Stands t n) (sym (machine_more options (machine_of options start) readings reading)) is.stands;
        kept = is.kept;
      }

  -- the disk holds the records of the requests that were accepted
  pub holds_records : HoldsRecords seen may_leave options (start ++ accepted options start readings) disk
  holds_records = record {
    closed = so_far.kept.closed;
    records =
        subst (λ (requests : List Request). AreRecords commits (first_state options) requests (before_gate (seen disk))) requests_are
        (subst (λ (o : Options). AreRecords commits (first_state o) (requests_in s) (before_gate (seen disk))) so_far.options_are so_far.kept.records);
    only = so_far.kept.only;
  }

  -- what a line leaves, with these options and requests
  pub line_moments : (moment : D → ℕ) (left_since : D → ℕ → List ℕ → Type 0) (phase : ℕ) (reading : Reading) (new : D) (t : Stored) (result : Result Answer Stopped)
      → PlaysLine seen may_leave moment left_since m phase reading disk s new t result
      → LeavesOnly moment left_since disk new (IsJournalOrMore options (start ++ accepted options start readings) (accepted_by options m reading))
  line_moments moment left_since phase reading new t result plays =
      subst (λ (requests : List Request). LeavesOnly moment left_since disk new (IsJournalOrMore options requests (accepted_by options m reading))) requests_are
      (subst (λ (o : Options). LeavesOnly moment left_since disk new (IsJournalOrMore o (requests_in s) (accepted_by o m reading))) so_far.options_are plays.any_moment)

  pub stops_here : (moment : D → ℕ) (left_since : D → ℕ → List ℕ → Type 0) → ((d : D) (t : ℕ) (c : List ℕ) → t ≤ moment d → may_leave d c → left_since d t c)
      → (phase : ℕ) (reading : Reading) (new : D) (t : Stored) (result : Result Answer Stopped)
      → PlaysLine seen may_leave moment left_since m phase reading disk s new t result → IsErrOf result DiskFailed
      → StopsHere seen may_leave options start readings reading progress new
  stops_here moment left_since counts_now phase reading new t result plays is =
      let line = subst (λ (o : Options). IsAccepted o m reading) so_far.options_are (plays.accepted is) in
      record {
        line = line;
        answers = so_far.answers;
        serial = so_far.serial;
        text = so_far.text;
        marked = so_far.marked;
        images = λ c now.
            subst (λ (more : List Request). IsJournalOrMore options (start ++ accepted options start readings) more c) (accepts_one options m reading line)
            (at_the_end moment left_since may_leave disk new _ (counts_now new) (line_moments moment left_since phase reading new t result plays) c now);
      }
