-- One line more of a script is answered, or it ends there.
use Rattle.std.proofs.Common.{◌≡◌, ◌⊎◌, inl, inr, ℕ, ◌+◌, ◌≤◌, Bool, true, false, ◌||◌, List, [], ◌∷◌, ◌++◌, map, IsErrOf, IsTrue, Option, None, Some, Result, Ok, Err, refl, sym, ap, ◌∙◌, subst, arith, append-nil, append_assoc, length-append}
use Rattle.std.specs.Io.KnownBytes.{Appends}
use Rattle.std.specs.List.{list_any}
use Rattle.std.proofs.lemmas.List.{map-append}
use Rattle.std.proofs.lemmas.List.Concat.{flat_map-append}
use Rattle.std.proofs.lemmas.List.Folds.{list_any-append}
use Rattle.pol_answer.specs.Text.{text_of, texts_of}
use Rattle.pol_answer.specs.declared.answer.Answer.{Answer}
use Rattle.pol_answer.specs.declared.answer.Answer.TheVariants as answer
use Rattle.pol_disk.specs.Images.{LeavesOnly}
use Rattle.pol_disk.proofs.Moments.{joined, widened}
use Rattle.pol_history.specs.Commits.{commits_in, state_now}
use Rattle.pol_history.specs.Machine.{Machine}
use Rattle.pol_journal.specs.Journal.{IsJournal}
use Rattle.pol_kept.specs.Keeps.{IsKept, requests_in}
use Rattle.pol_kept.proofs.Disks.{kept_images}
use Rattle.pol_machine.specs.Serial.{machine_of}
use Rattle.pol_machine.specs.Stands.{Stands, Stored, options_in}
use Rattle.pol_model.specs.Fault.{fault_of}
use Rattle.pol_model.specs.declared.answer.Fault.{Fault}
use Rattle.pol_model.specs.declared.options.Options.{Options}
use Rattle.pol_model.specs.declared.request.Request.{Request}
use Rattle.pol_play_kept.specs.Answering.{IsAccepted, IsAnswered, PlaysLine, phase_told}
use Rattle.pol_play_kept.specs.Images.{IsJournalOrMore, IsJournalWithin}
use Rattle.pol_play_kept.specs.Played.{IsWhole, StopsAt, WritesBefore}
use Rattle.pol_play_kept.specs.declared.line.Stopped.{Stopped}
use Rattle.pol_play_kept.specs.declared.line.Stopped.TheVariants.{Disk as DiskFailed}
use Rattle.pol_play_kept.proofs.Answered.{phase_line}
use Rattle.pol_play_kept.proofs.Kept.{accepts_one, at_line, at_the_end}
use Rattle.pol_run.specs.Run.{is_marked, readings_of, status_of}
use Rattle.pol_run.specs.Spots.{Reading, phase_after}
use Rattle.pol_script.specs.declared.command.Command.TheVariants as command
use Rattle.pol_script.specs.Lines.{is_one_line, lines_of, newline}
use Rattle.pol_script.specs.Reading.{reading_of}
use Rattle.pol_serial_run.specs.Accepted.{accepted, accepted_by, accepted_from, unless_fault}
use Rattle.pol_serial_run.specs.SerialRun.{IsLineAnswer, IsSerial, machine_after_lines, machine_then, phase_after_lines}
use Rattle.pol_serial_run.proofs.Going.{accepted_both, commits_after, machine_more, phase_more, serial_more}
use Rattle.pol_status.specs.declared.status.Status.{Status}
use Rattle.pol_status.specs.declared.status.Status.TheVariants.{Write, Memory}
use Rattle.pol_streams.specs.Bytes.{AppendsPart}
use Rattle.policyd_kept.specs.Served.{WritesCut, WritesFirst}
use Rattle.policyd_kept.specs.Serving.{IsFirst, IsLineError, IsReady, IsServing, Story}
use Rattle.policyd_kept.specs.declared.course.Course.{Course}
use Rattle.policyd_kept.proofs.Newlines.{ended_line, one_line_both}
use Rattle.policyd_kept.proofs.Streams.{appends_more}

readings_both : (front back : List (List ℕ)) → map reading_of (front ++ back) ≡ map reading_of front ++ map reading_of back
readings_both front back = map-append reading_of front back

-- a line accepts nothing, or asks to commit a request without a fault
none_or_one : (options : Options) (m : Machine) (reading : Reading) → (accepted_by options m reading ≡ []) ⊎ IsAccepted options m reading
none_or_one options m (Err fault) = inl refl
none_or_one options m (Ok (command.Commit session request)) = by_fault (fault_of (state_now options m.history) request) refl
  where
    by_fault : (fault : Option Fault) → fault_of (state_now options m.history) request ≡ fault
        → (unless_fault request (fault_of (state_now options m.history) request) ≡ []) ⊎ IsAccepted options m (Ok (command.Commit session request))
    by_fault None is = inr (record { session = session; request = request; reads = refl; no_fault = is })
    by_fault (Some fault) is = inl (ap (unless_fault request) is)
none_or_one options m (Ok (command.Look session query)) = inl refl
none_or_one options m (Ok (command.Trace session query)) = inl refl
none_or_one options m (Ok (command.Sync session)) = inl refl
none_or_one options m (Ok command.Phase) = inl refl

-- ---- texts

text_more : (answers : List Answer) (told : Answer) → texts_of (answers ++ told ∷ []) ≡ texts_of answers ++ text_of told
text_more answers told =
    flat_map-append text_of answers (told ∷ []) ∙ ap (λ (t : List ℕ). texts_of answers ++ t) (append-nil (text_of told))

or_false : (b : Bool) → (b || false) ≡ b
or_false true = refl
or_false false = refl

marked_more : (answers : List Answer) (told : Answer) → list_any is_marked (answers ++ told ∷ []) ≡ (list_any is_marked answers || is_marked told)
marked_more answers told =
    list_any-append is_marked answers (told ∷ []) ∙ ap (λ (b : Bool). list_any is_marked answers || b) (or_false (is_marked told))

-- ---- lines that end in a piece

-- the line that has come, with the bytes up to its newline
pub line_ends : (begun front behind : List ℕ) → IsTrue (is_one_line begun) → IsTrue (is_one_line front) → (line : List ℕ) → line ≡ begun ++ front
    → lines_of (begun ++ front ++ newline ∷ behind) ≡ line ∷ lines_of behind
line_ends begun front behind one other line is =
    ended_line (begun ++ front) behind (one_line_both begun front one other) ∙ ap (λ (l : List ℕ). l ∷ lines_of behind) (sym is)

-- the bytes that are left of a piece, and more
pub piece_parts : (begun rest front behind more : List ℕ) → rest ≡ front ++ newline ∷ behind → begun ++ rest ++ more ≡ begun ++ front ++ newline ∷ (behind ++ more)
piece_parts begun rest front behind more is =
    ap (λ (bytes : List ℕ). begun ++ bytes ++ more) is ∙ ap (λ (bytes : List ℕ). bytes ++ more) (sym (append_assoc begun front (newline ∷ behind)))
    ∙ append_assoc (begun ++ front) (newline ∷ behind) more

-- ---- what is needed for a line more

told_phase : (phase : ℕ) (told : Answer) → phase_told phase told ≤ phase + 1
told_phase phase (answer.Committed revision identity) = omega arith
told_phase phase (answer.Synced revision full) = omega arith
told_phase phase (answer.Phase number) = omega arith
told_phase phase (answer.Verdict revision word) = omega arith
told_phase phase (answer.NoEndpoint revision) = omega arith
told_phase phase (answer.NotYet revision) = omega arith
told_phase phase (answer.Traced revision trace) = omega arith
told_phase phase (answer.BadLine fault) = omega arith
told_phase phase (answer.Refused refused) = omega arith

-- counts of lines, none of which is over the most that there may be
one_more : (n after : ℕ) → n ≤ 1000000 → (n ≡ 1000000 → ⊥) → after ≡ n + 1 → after ≤ 1000000
one_more n after few not_full more = omega (arith, few, not_full, more)

as_many : (n after : ℕ) → n ≤ 1000000 → after ≡ n → after ≤ 1000000
as_many n after few same = omega (arith, few, same)

none_yet : (n : ℕ) → n ≡ 0 → n ≤ 1000000
none_yet n none = omega (arith, none)

pub ready_more : {D : Type 0} (seen : D → List ℕ) (may_leave : D → List ℕ → Type 0) (course : Course) (disk : D) (s : Stored) → IsReady seen may_leave course disk s
    → (told : Answer) (after : Course) (new : D) (t : Stored) → IsKept seen may_leave new t → (course.lines ≡ 1000000 → ⊥) → after.phase ≡ phase_told course.phase told
    → after.lines ≡ course.lines + 1 → after.begun.items ≡ [] → IsReady seen may_leave after new t
ready_more seen may_leave course disk s ready told after new t kept not_full phase lines begun =
    let one = told_phase course.phase told in
    record {
      kept = kept;
      phases = omega (arith, ready.phases, one, phase, lines);
      lines = one_more course.lines after.lines ready.lines not_full lines;
      one_line = subst (λ (bytes : List ℕ). IsTrue (is_one_line bytes)) (sym begun) refl;
    }

-- more bytes of the line have come
pub ready_on : {D : Type 0} (seen : D → List ℕ) (may_leave : D → List ℕ → Type 0) (course : Course) (disk : D) (s : Stored) → IsReady seen may_leave course disk s
    → (bytes : List ℕ) → IsTrue (is_one_line bytes) → (after : Course) → after.phase ≡ course.phase → after.lines ≡ course.lines → after.begun.items ≡ course.begun.items ++ bytes
    → IsReady seen may_leave after disk s
ready_on seen may_leave course disk s ready bytes one after phase lines begun = record {
  kept = ready.kept;
  phases = omega (arith, ready.phases, phase, lines);
  lines = as_many course.lines after.lines ready.lines lines;
  one_line = subst (λ (b : List ℕ). IsTrue (is_one_line b)) (sym begun) (one_line_both course.begun.items bytes ready.one_line one);
}

-- before the first line
pub ready_first : {D : Type 0} (seen : D → List ℕ) (may_leave : D → List ℕ → Type 0) (course : Course) (disk : D) (s : Stored) → IsKept seen may_leave disk s → IsFirst course
    → IsReady seen may_leave course disk s
ready_first seen may_leave course disk s kept first = record {
  kept = kept;
  phases = omega (arith, first.phase, first.lines);
  lines = none_yet course.lines first.lines;
  one_line = subst (λ (bytes : List ℕ). IsTrue (is_one_line bytes)) (sym first.begun) refl;
}

pub line_error : (status : Status) → (status ≡ Memory) ⊎ (status ≡ Write) → IsLineError status
line_error status cause = inr cause

module _ {D : Type 0} (moment : D → ℕ) (left_since : D → ℕ → List ℕ → Type 0) (seen : D → List ℕ) (may_leave : D → List ℕ → Type 0)
    (story : Story D) (rest : List ℕ) (course : Course) (written : Option (List ℕ)) (disk : D) (s : Stored)
    (serving : IsServing moment left_since seen may_leave story rest course written disk s) where
  abbrev options : Options
  options = story.options

  abbrev start : List Request
  start = story.start

  abbrev readings : List Reading
  readings = map reading_of serving.before

  abbrev done : List Request
  done = accepted options start readings

  abbrev m : Machine
  m = machine_after_lines options (machine_of options start) readings

  -- the same lines, as another course has them
  pub serving_as : (after : Course) → after.phase ≡ course.phase → after.marked ≡ course.marked → after.lines ≡ course.lines → (other : List ℕ) → rest ≡ other
      → IsServing moment left_since seen may_leave story other after written disk s
  serving_as after phase marked lines other same = record {
    before = serving.before;
    split = serving.split ∙ ap (λ (bytes : List ℕ). serving.before ++ lines_of bytes) same;
    answers = serving.answers;
    serial = serving.serial;
    wrote = serving.wrote;
    marked = marked ∙ serving.marked;
    phase = phase ∙ serving.phase;
    lines = lines ∙ serving.lines;
    begun = serving.begun;
    options_are = serving.options_are;
    stands = serving.stands;
    kept = serving.kept;
    moments = serving.moments;
  }

  requests_are : requests_in s ≡ start ++ done
  requests_are =
      serving.stands.at.journal ∙ commits_after options (machine_of options start) readings ∙ ap (λ (front : List Request). front ++ done) serving.begun

  -- the texts so far are those of a serial run of the first lines
  pub whole_so_far : IsWhole options start readings (may_leave disk) (texts_of serving.answers) (status_of serving.answers)
  whole_so_far = record {
    answers = serving.answers;
    serial = serving.serial;
    text_is = refl;
    status_is = refl;
    images = λ c now.
        subst (λ (requests : List Request). IsJournal options requests c) requests_are
        (subst (λ (o : Options). IsJournal o (requests_in s) c) serving.options_are (kept_images seen may_leave disk s serving.kept c now));
  }

  -- between two lines
  pub writes_first : WritesFirst options start story.script (may_leave disk) story.written written
  writes_first = record {
    before = readings;
    later = map reading_of (lines_of rest);
    split = ap (map reading_of) serving.split ∙ readings_both serving.before (lines_of rest);
    text = texts_of serving.answers;
    status = status_of serving.answers;
    whole = whole_so_far;
    written = serving.wrote;
  }

  module _ (line behind : List ℕ) (cut : lines_of rest ≡ line ∷ lines_of behind) where
    split_here : lines_of story.script ≡ serving.before ++ line ∷ lines_of behind
    split_here = serving.split ∙ ap (λ (lines : List (List ℕ)). serving.before ++ lines) cut

    readings_here : readings_of story.script ≡ readings ++ reading_of line ∷ map reading_of (lines_of behind)
    readings_here = ap (map reading_of) split_here ∙ readings_both serving.before (line ∷ lines_of behind)

    abbrev asked : List Request
    asked = accepted_by options m (reading_of line)

    abbrev later : List Request
    later = accepted_from options (machine_then options m (reading_of line)) (map reading_of (lines_of behind))

    accepted_here : accepted options start (readings_of story.script) ≡ done ++ asked ++ later
    accepted_here =
        ap (accepted options start) readings_here
        ∙ accepted_both options (machine_of options start) readings (reading_of line ∷ map reading_of (lines_of behind))
        ∙ sym (append_assoc done asked later)

    module _ (new : D) (t : Stored) (result : Result Answer Stopped) (plays : PlaysLine seen may_leave moment left_since m course.phase (reading_of line) disk s new t result) where
      leaves : LeavesOnly moment left_since disk new (IsJournalOrMore options (start ++ done) asked)
      leaves =
          subst (λ (requests : List Request). LeavesOnly moment left_since disk new (IsJournalOrMore options requests asked)) requests_are
          (subst (λ (o : Options). LeavesOnly moment left_since disk new (IsJournalOrMore o (requests_in s) (accepted_by o m (reading_of line)))) serving.options_are plays.any_moment)

      pub moments_here : LeavesOnly moment left_since story.disk new (IsJournalWithin options start (accepted options start (readings_of story.script)))
      moments_here =
          let P = IsJournalWithin options start (accepted options start (readings_of story.script)) in
          joined moment left_since story.disk disk new P serving.moments
          (widened moment left_since disk new (IsJournalOrMore options (start ++ done) asked) P leaves
          (λ c is. at_line options start (accepted options start (readings_of story.script)) done asked later accepted_here c is))

      module _ (counts_now : (d : D) (n : ℕ) (c : List ℕ) → n ≤ moment d → may_leave d c → left_since d n c) where
        images : (c : List ℕ) → may_leave new c → IsJournalOrMore options (start ++ done) asked c
        images c now = at_the_end moment left_since may_leave disk new _ (counts_now new) leaves c now

        -- the line is that of an accepted request, which is on the disk or isn't
        stops_at : IsAccepted options m (reading_of line) → StopsAt options start (readings_of story.script) (may_leave new) (texts_of serving.answers)
        stops_at line_is = record {
          before = readings;
          later = map reading_of (lines_of behind);
          reading = reading_of line;
          split = readings_here;
          line = line_is;
          answers = serving.answers;
          serial = serving.serial;
          text_is = refl;
          images = λ c now.
              subst (λ (more : List Request). IsJournalOrMore options (start ++ done) more c) (accepts_one options m (reading_of line) line_is) (images c now);
        }

        writes_before : IsAccepted options m (reading_of line) → WritesBefore options start story.script (may_leave new) story.written written
        writes_before line_is = record { text = texts_of serving.answers; stops = stops_at line_is; written = serving.wrote }

        -- it accepts nothing
        either : (c : List ℕ) → IsJournalOrMore options (start ++ done) [] c → IsJournal options (start ++ done) c
        either c (inl is) = is
        either c (inr is) = subst (λ (requests : List Request). IsJournal options requests c) (append-nil (start ++ done)) is

        still : asked ≡ [] → (c : List ℕ) → may_leave new c → IsJournal options (start ++ done) c
        still none c now = either c (subst (λ (more : List Request). IsJournalOrMore options (start ++ done) more c) none (images c now))

        writes_still : asked ≡ [] → WritesFirst options start story.script (may_leave new) story.written written
        writes_still none = record {
          before = readings;
          later = reading_of line ∷ map reading_of (lines_of behind);
          split = readings_here;
          text = texts_of serving.answers;
          status = status_of serving.answers;
          whole = record { answers = serving.answers; serial = serving.serial; text_is = refl; status_is = refl; images = still none };
          written = serving.wrote;
        }

        -- nothing is written of it, where the disk failed
        pub stops_by_disk : IsErrOf result DiskFailed → WritesBefore options start story.script (may_leave new) story.written written
        stops_by_disk is = writes_before (subst (λ (o : Options). IsAccepted o m (reading_of line)) serving.options_are (plays.accepted is))

        -- or want of memory came, whether or not it was answered before
        pub stops_by_memory : WritesFirst options start story.script (may_leave new) story.written written ⊎ WritesBefore options start story.script (may_leave new) story.written written
        stops_by_memory = elim (none_or_one options m (reading_of line)) [
          | inl none ↦ inl (writes_still none)
          | inr line_is ↦ inr (writes_before line_is)
        ]

    -- ---- it was answered

    module _ (new : D) (t : Stored) (told : Answer) (was_answered : IsAnswered seen may_leave (options_in s) m course.phase (reading_of line) told new t) (same : options_in t ≡ options_in s) where
      answered : IsAnswered seen may_leave options m course.phase (reading_of line) told new t
      answered = subst (λ (o : Options). IsAnswered seen may_leave o m course.phase (reading_of line) told new t) serving.options_are was_answered

      serial_here : IsSerial options start (readings ++ reading_of line ∷ []) (serving.answers ++ told ∷ [])
      serial_here =
          serial_more options (machine_of options start) 1 readings serving.answers (reading_of line) told serving.serial
          (subst (λ (p : ℕ). IsLineAnswer options m p (reading_of line) told) serving.phase answered.is_told)

      now_before : readings ++ reading_of line ∷ [] ≡ map reading_of (serving.before ++ line ∷ [])
      now_before = sym (readings_both serving.before (line ∷ []))

      -- and the answer was written
      pub serves_more : LeavesOnly moment left_since story.disk new (IsJournalWithin options start (accepted options start (readings_of story.script)))
          → (after : Course) (now : Option (List ℕ)) → Appends written now (text_of told) → after.phase ≡ phase_told course.phase told
          → after.marked ≡ (course.marked || is_marked told) → after.lines ≡ course.lines + 1
          → IsServing moment left_since seen may_leave story behind after now new t
      serves_more moments after now appended phase marked lines = record {
        before = serving.before ++ line ∷ [];
        split = split_here ∙ sym (append_assoc serving.before (line ∷ []) (lines_of behind));
        answers = serving.answers ++ told ∷ [];
        serial = subst (λ (rs : List Reading). IsSerial options start rs (serving.answers ++ told ∷ [])) now_before serial_here;
        wrote =
            subst (Appends story.written now) (sym (text_more serving.answers told))
            (appends_more story.written written now (texts_of serving.answers) (text_of told) serving.wrote appended);
        marked = marked ∙ ap (λ (b : Bool). b || is_marked told) serving.marked ∙ sym (marked_more serving.answers told);
        phase =
            phase ∙ phase_line options m course.phase (reading_of line) told answered.is_told
            ∙ ap (λ (p : ℕ). phase_after p (reading_of line)) serving.phase ∙ sym (phase_more 1 readings (reading_of line)) ∙ ap (phase_after_lines 1) now_before;
        lines = omega (arith, length-append serving.before (line ∷ []), serving.lines, lines);
        begun = serving.begun;
        options_are = same ∙ serving.options_are;
        stands =
            subst (λ (rs : List Reading). Stands t (machine_after_lines options (machine_of options start) rs)) now_before
            (subst (λ (n : Machine). Stands t n) (sym (machine_more options (machine_of options start) readings (reading_of line))) answered.stands);
        kept = answered.kept;
        moments = moments;
      }

      -- or a part of it
      pub writes_cut : (now : Option (List ℕ)) → AppendsPart written now (text_of told) → WritesCut options start story.script (may_leave new) story.written now
      writes_cut now part = record {
        before = readings;
        reading = reading_of line;
        later = map reading_of (lines_of behind);
        split = readings_here;
        answers = serving.answers;
        told = told;
        serial = serial_here;
        whole_lines = written;
        written = serving.wrote;
        part = part;
        images = λ c left.
            subst (λ (requests : List Request). IsJournal options requests c) requests_now
            (subst (λ (o : Options). IsJournal o (requests_in t) c) (same ∙ serving.options_are) (kept_images seen may_leave new t answered.kept c left));
      }
        where
          requests_now : requests_in t ≡ start ++ accepted options start (readings ++ reading_of line ∷ [])
          requests_now =
              answered.stands.at.journal ∙ ap (λ (n : Machine). commits_in n.history) (sym (machine_more options (machine_of options start) readings (reading_of line)))
              ∙ commits_after options (machine_of options start) (readings ++ reading_of line ∷ [])
              ∙ ap (λ (front : List Request). front ++ accepted options start (readings ++ reading_of line ∷ [])) serving.begun
