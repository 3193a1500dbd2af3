-- A source is read piece by piece, and its lines are answered as they come.
use Rattle.std.proofs.Common.{◌≡◌, ◌⊎◌, inl, inr, ℕ, ◌+◌, ◌≤◌, ◌<◌, Bool, true, false, ◌||◌, not, nat_lt, if◌then◌else◌, List, [], ◌++◌, length, take, IfErr, IfSome, IsTrue, OnOk, Option, None, Some, Result, Ok, Err, refl, sym, ap, ◌∙◌, subst, arith, append-nil, append_assoc, length-append}
use Rattle.std.proofs.lemmas.Bool.{le-ltb, lt-ltb}
use Rattle.std.specs.Io.KnownBytes.{Consumes, IsAtEnd, Keeps}
use Rattle.pol_disk.proofs.Moments.{started}
use Rattle.pol_kept.specs.Keeps.{IsKept, requests_in}
use Rattle.pol_kept.proofs.Disks.{kept_images}
use Rattle.pol_machine.specs.Serial.{machine_of}
use Rattle.pol_machine.specs.Stands.{Stands, Stored, options_in}
use Rattle.pol_model.specs.declared.options.Options.{Options}
use Rattle.pol_model.specs.declared.request.Request.{Request}
use Rattle.pol_play_kept.specs.Images.{IsJournalWithin, OfScript}
use Rattle.pol_play_kept.proofs.Kept.{none_yet}
use Rattle.pol_run.specs.Run.{readings_of}
use Rattle.pol_script.specs.Lines.{lines_of}
use Rattle.pol_serial_run.specs.Accepted.{accepted}
use Rattle.pol_status.specs.Limits.{fits_limits, is_too_long}
use Rattle.pol_status.specs.declared.status.Status.{Status}
use Rattle.pol_status.specs.declared.status.Status.TheVariants.{Clean, Marked, Read, Write, Memory, TooLong, Disk}
use Rattle.policyd_kept.specs.Ends.{end_of_lines}
use Rattle.policyd_kept.specs.Served.{Serves}
use Rattle.policyd_kept.specs.Serving.{IsFirst, IsLineError, IsReady, IsServing, ServesOn, Story}
use Rattle.policyd_kept.specs.declared.course.Course.{Course}
use Rattle.policyd_kept.proofs.Ending.{all_counted, ends_answered, ends_between, ends_by_read, ends_too_long}
use Rattle.policyd_kept.proofs.Serving.{serving_as}
use Rattle.policyd_kept.proofs.Streams.{all_were, appends_none, consumes_kept, consumes_more, consumes_none, none_left, tail_of}

-- ---- limits

or_left : (a b : Bool) → a ≡ true → (a || b) ≡ true
or_left true b is = refl
or_left false b is = absurd (let no : false ≡ true = is in cc)

-- more bytes than the limit
pub over_bytes : (script : List ℕ) → 67108864 < length script → IsTrue (is_too_long script)
over_bytes script over =
    or_left (nat_lt 67108864 (length script)) (nat_lt 1000000 (length (lines_of script))) (lt-ltb 67108864 (length script) over)

neither : (a b : Bool) → a ≡ false → b ≡ false → not (a || b) ≡ true
neither true b one other = absurd (let no : true ≡ false = one in cc)
neither false true one other = absurd (let no : true ≡ false = other in cc)
neither false false one other = refl

pub fits : (script : List ℕ) → length script ≤ 67108864 → length (lines_of script) ≤ 1000000 → IsTrue (fits_limits script)
fits script few lines =
    neither (nat_lt 67108864 (length script)) (nat_lt 1000000 (length (lines_of script)))
    (le-ltb 67108864 (length script) few) (le-ltb 1000000 (length (lines_of script)) lines)

-- ---- what was read

-- what holds of the bytes that were taken with those that are left holds of the script
pub of_taken : (a b : Option (List ℕ)) (taken : List ℕ) (P : List ℕ → Type 0) → Consumes a b taken → P (taken ++ tail_of b) → OfScript a P
of_taken a b taken P consumed holds = record { script = taken ++ tail_of b; was_left = all_were a b taken consumed; holds = holds }

pub on_any : (result : Result (Unit {0}) Status) (X : Type 0) → X → OnOk result X
on_any (Ok done) X holds = holds
on_any (Err status) X holds = tt

-- why a line wasn't answered isn't that a read failed
not_read : IsLineError Read → ⊥
not_read (inl (inl it)) = absurd (let none : Read ≡ TooLong = it in cc)
not_read (inl (inr it)) = absurd (let none : Read ≡ Disk = it in cc)
not_read (inr (inl it)) = absurd (let none : Read ≡ Memory = it in cc)
not_read (inr (inr it)) = absurd (let none : Read ≡ Write = it in cc)

pub read_stood : (result : Result (Unit {0}) Status) → IfErr result IsLineError → result ≡ Err Read → ⊥
read_stood result causes is = not_read (subst (λ (r : Result (Unit {0}) Status). IfErr r IsLineError) is causes)

pub line_causes : (result : Result (Unit {0}) Status) → IfErr result IsLineError → IfErr result (λ (status : Status). (status ≡ Read) ⊎ IsLineError status)
line_causes (Ok done) causes = tt
line_causes (Err status) causes = inr causes

-- a read of nothing
pub consumes_nothing : (a b c : Option (List ℕ)) (taken into : List ℕ) (count : ℕ) → Consumes a b taken → count ≡ 0 → Consumes b c (take count into) → Consumes a c taken
consumes_nothing a b c taken into count before none now =
    subst (Consumes a c) (append-nil taken) (consumes_more a b c taken [] before (subst (λ (n : ℕ). Consumes b c (take n into)) none now))

module _ {D : Type 0} (moment : D → ℕ) (left_since : D → ℕ → List ℕ → Type 0) (seen : D → List ℕ) (may_leave : D → List ℕ → Type 0) (options : Options) (start : List Request)
    (first : D) (known : Option (List ℕ)) where
  abbrev pub story : List ℕ → Story D
  story script = record { options = options; start = start; script = script; disk = first; written = known }

  -- These bytes were taken, and whatever comes behind them, the lines that ended in them were answered.
  pub record IsReading (old_left left : Option (List ℕ)) (room : ℕ) (course : Course) (written : Option (List ℕ)) (disk : D) (s : Stored) : Type 0 where
    pub taken : List ℕ
    pub consumed : Consumes old_left left taken
    pub room_left : length taken + room ≡ 67108864
    pub serving : (more : List ℕ) → IsServing moment left_since seen may_leave (story (taken ++ more)) (course.begun.items ++ more) course written disk s

  module _ (old_left left : Option (List ℕ)) (room : ℕ) (course : Course) (written : Option (List ℕ)) (disk : D) (s : Stored)
      (reading : IsReading old_left left room course written disk s) where
    -- a read failed
    pub read_failed : (new_left : Option (List ℕ)) → Keeps left new_left
        → OfScript old_left (λ script. Serves moment left_since may_leave options start script first disk known written Read)
    read_failed new_left kept =
        of_taken old_left new_left reading.taken (λ script. Serves moment left_since may_leave options start script first disk known written Read)
        (consumes_kept old_left left new_left reading.taken reading.consumed kept)
        (ends_by_read moment left_since seen may_leave (story (reading.taken ++ tail_of new_left)) (course.begun.items ++ tail_of new_left) course written disk s (reading.serving (tail_of new_left)))

    -- a piece came
    module _ (new_left : Option (List ℕ)) (piece : List ℕ) (moved : Consumes left new_left piece) where
      pub now_taken : Consumes old_left new_left (reading.taken ++ piece)
      now_taken = consumes_more old_left left new_left reading.taken piece reading.consumed moved

      -- the lines that ended before it were answered
      pub serving_piece : (more : List ℕ)
          → IsServing moment left_since seen may_leave (story (reading.taken ++ piece ++ more)) (course.begun.items ++ piece ++ more) course written disk s
      serving_piece more =
          serving_as moment left_since seen may_leave (story (reading.taken ++ piece ++ more)) (course.begun.items ++ (piece ++ more)) course written disk s
          (subst (λ (script : List ℕ). IsServing moment left_since seen may_leave (story script) (course.begun.items ++ (piece ++ more)) course written disk s)
          (sym (append_assoc reading.taken piece more)) (reading.serving (piece ++ more)))
          course refl refl refl (course.begun.items ++ piece ++ more) (sym (append_assoc course.begun.items piece more))

      -- which is longer than the room that is left
      pub over_room : room < length piece
          → OfScript old_left (λ script. Serves moment left_since may_leave options start script first disk known written TooLong)
      over_room over =
          of_taken old_left new_left (reading.taken ++ piece) (λ script. Serves moment left_since may_leave options start script first disk known written TooLong) now_taken
          (ends_too_long moment left_since seen may_leave (story (reading.taken ++ piece ++ tail_of new_left)) (course.begun.items ++ piece ++ tail_of new_left) course written disk s
          (serving_piece (tail_of new_left))
          (over_bytes (reading.taken ++ piece ++ tail_of new_left)
          (omega (arith, length-append (reading.taken ++ piece) (tail_of new_left), length-append reading.taken piece, reading.room_left, over))))

      -- its lines were answered
      pub reads_on : (after : Course) (now : Option (List ℕ)) (new : D) (t : Stored) (less : ℕ) → length piece + less ≡ room
          → ((more : List ℕ) → IsServing moment left_since seen may_leave (story (reading.taken ++ piece ++ more)) (after.begun.items ++ more) after now new t)
          → IsReading old_left new_left less after now new t
      reads_on after now new t less shorter serves = record {
        taken = reading.taken ++ piece;
        consumed = now_taken;
        room_left = omega (arith, length-append reading.taken piece, reading.room_left, shorter);
        serving = serves;
      }

      -- or one wasn't
      pub stops_in_piece : (now : Option (List ℕ)) (new : D) (status : Status)
          → Serves moment left_since may_leave options start (reading.taken ++ piece ++ tail_of new_left) first new known now status
          → OfScript old_left (λ script. Serves moment left_since may_leave options start script first new known now status)
      stops_in_piece now new status ends =
          of_taken old_left new_left (reading.taken ++ piece) (λ script. Serves moment left_since may_leave options start script first new known now status) now_taken ends

    -- the end came
    module _ (new_left : Option (List ℕ)) (into : List ℕ) (count : ℕ) (none : count ≡ 0) (moved : Consumes left new_left (take count into)) (end : IsAtEnd new_left) where
      abbrev whole_script : List ℕ
      whole_script = reading.taken ++ tail_of new_left

      all_taken : Consumes old_left new_left reading.taken
      all_taken = consumes_nothing old_left left new_left reading.taken into count reading.consumed none moved

      pub last_serving : IsServing moment left_since seen may_leave (story whole_script) course.begun.items course written disk s
      last_serving =
          subst (λ (rest : List ℕ). IsServing moment left_since seen may_leave (story whole_script) rest course written disk s)
          (ap (λ (more : List ℕ). course.begun.items ++ more) (none_left new_left end) ∙ append-nil course.begun.items) (reading.serving (tail_of new_left))

      module _ (after : Course) (now : Option (List ℕ)) (new : D) (t : Stored) where
        -- and all lines are answered
        pub ends_all : IsServing moment left_since seen may_leave (story whole_script) [] after now new t
            → OfScript old_left (λ script. Serves moment left_since may_leave options start script first new known now (if after.marked then Marked else Clean))
        ends_all serving =
            of_taken old_left new_left reading.taken (λ script. Serves moment left_since may_leave options start script first new known now (if after.marked then Marked else Clean)) all_taken
            (ends_answered moment left_since seen may_leave (story whole_script) [] after now new t serving refl after.marked refl)

        pub fits_all : IsServing moment left_since seen may_leave (story whole_script) [] after now new t → after.lines ≤ 1000000 → IfSome old_left (λ script. IsTrue (fits_limits script))
        fits_all serving few =
            within old_left (all_were old_left new_left reading.taken all_taken)
          where
            short : length whole_script ≤ 67108864
            short = omega (arith, length-append reading.taken (tail_of new_left), ap length (none_left new_left end), reading.room_left)

            here : IsTrue (fits_limits whole_script)
            here = fits whole_script short (omega (arith, all_counted moment left_since seen may_leave (story whole_script) [] after now new t serving refl, few))

            within : (left_before : Option (List ℕ)) → IfSome left_before (λ bytes. whole_script ≡ bytes) → IfSome left_before (λ script. IsTrue (fits_limits script))
            within None is = tt
            within (Some script) is = subst (λ (bytes : List ℕ). IsTrue (fits_limits bytes)) is here

        -- or the last isn't
        pub ends_last : (status : Status) → Serves moment left_since may_leave options start whole_script first new known now status
            → OfScript old_left (λ script. Serves moment left_since may_leave options start script first new known now status)
        ends_last status ends =
            of_taken old_left new_left reading.taken (λ script. Serves moment left_since may_leave options start script first new known now status) all_taken ends

      -- either
      module _ (after : Course) (now : Option (List ℕ)) (new : D) (t : Stored) where
        pub ends_by_last : (result : Result (Unit {0}) Status) → ServesOn moment left_since seen may_leave (story whole_script) [] after now new t result
            → OfScript old_left (λ script. Serves moment left_since may_leave options start script first new known now (end_of_lines after.marked result))
        ends_by_last (Ok done) serves = ends_all after now new t serves
        ends_by_last (Err status) serves = ends_last after now new t status serves

        pub fits_by_last : (result : Result (Unit {0}) Status) → ServesOn moment left_since seen may_leave (story whole_script) [] after now new t result
            → OnOk result (IsReady seen may_leave after new t) → OnOk result (IfSome old_left (λ script. IsTrue (fits_limits script)))
        fits_by_last (Ok done) serves ready = fits_all after now new t serves ready.lines
        fits_by_last (Err status) serves ready = tt

-- ---- before the first line

module _ {D : Type 0} (moment : D → ℕ) (left_since : D → ℕ → List ℕ → Type 0) (seen : D → List ℕ) (may_leave : D → List ℕ → Type 0)
    (disk : D) (s : Stored) (course : Course) (known : Option (List ℕ)) (kept : IsKept seen may_leave disk s) (stands : Stands s (machine_of (options_in s) (requests_in s)))
    (first : IsFirst course) (only_now : (c : List ℕ) → left_since disk (moment disk) c → may_leave disk c) where
  first_serving : (script : List ℕ)
      → IsServing moment left_since seen may_leave (story moment left_since seen may_leave (options_in s) (requests_in s) disk known script) (course.begun.items ++ script) course known disk s
  first_serving script = record {
    before = [];
    split = ap lines_of (sym (ap (λ (begun : List ℕ). begun ++ script) first.begun));
    answers = [];
    serial = tt;
    wrote = appends_none known;
    marked = first.marked;
    phase = first.phase;
    lines = first.lines;
    begun = sym stands.at.journal;
    options_are = refl;
    stands = stands;
    kept = kept;
    moments = started moment left_since disk (IsJournalWithin (options_in s) (requests_in s) (accepted (options_in s) (requests_in s) (readings_of script)))
        (λ c left. none_yet (options_in s) (requests_in s) (accepted (options_in s) (requests_in s) (readings_of script)) c (kept_images seen may_leave disk s kept c (only_now c left)));
  }

  pub reads_first : (left : Option (List ℕ)) → IsReading moment left_since seen may_leave (options_in s) (requests_in s) disk known left left 67108864 course known disk s
  reads_first left = record {
    taken = [];
    consumed = consumes_none left;
    room_left = refl;
    serving = first_serving;
  }

  -- want of memory before a read
  pub ends_at_once : (left : Option (List ℕ))
      → OfScript left (λ script. Serves moment left_since may_leave (options_in s) (requests_in s) script disk disk known known Memory)
  ends_at_once left =
      of_taken left left [] (λ script. Serves moment left_since may_leave (options_in s) (requests_in s) script disk disk known known Memory) (consumes_none left)
      (ends_between moment left_since seen may_leave (story moment left_since seen may_leave (options_in s) (requests_in s) disk known (tail_of left)) (course.begun.items ++ tail_of left) course known disk s
      (first_serving (tail_of left)))
