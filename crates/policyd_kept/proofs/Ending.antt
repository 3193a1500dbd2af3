-- How lines that are answered as they come end.
use Rattle.std.proofs.Common.{◌≡◌, ◌⊎◌, inl, inr, ℕ, ◌+◌, ◌≤◌, ◌<◌, Bool, true, false, ◌||◌, nat_lt, if◌then◌else◌, List, [], ◌∷◌, ◌++◌, length, map, IsErrOf, IsTrue, Option, Result, refl, sym, ap, ◌∙◌, subst, arith, append-nil, length-append}
use Rattle.std.specs.List.{list_any}
use Rattle.std.proofs.lemmas.Bool.{lt-ltb}
use Rattle.pol_answer.specs.Text.{text_of, texts_of}
use Rattle.pol_answer.specs.declared.answer.Answer.{Answer}
use Rattle.pol_machine.specs.Serial.{machine_of}
use Rattle.pol_machine.specs.Stands.{Stored, options_in}
use Rattle.pol_play_kept.specs.Answering.{IsAnswered, PlaysLine}
use Rattle.pol_play_kept.specs.Played.{IsWhole}
use Rattle.pol_play_kept.specs.declared.line.Stopped.{Stopped}
use Rattle.pol_play_kept.specs.declared.line.Stopped.TheVariants.{Disk as DiskFailed}
use Rattle.pol_run.specs.Run.{is_marked, readings_of}
use Rattle.pol_script.specs.Lines.{lines_of}
use Rattle.pol_script.specs.Reading.{reading_of}
use Rattle.pol_serial_run.specs.SerialRun.{machine_after_lines}
use Rattle.pol_status.specs.Limits.{input_max, is_too_long}
use Rattle.pol_status.specs.declared.status.Status.{Status}
use Rattle.pol_status.specs.declared.status.Status.TheVariants.{Clean, Marked, Read, Write, Memory, TooLong, Disk}
use Rattle.pol_streams.specs.Bytes.{AppendsPart}
use Rattle.policyd_kept.specs.Served.{Serves}
use Rattle.policyd_kept.specs.Serving.{IsServing, Story}
use Rattle.policyd_kept.specs.declared.course.Course.{Course}
use Rattle.policyd_kept.proofs.Serving.{moments_here, stops_by_disk, stops_by_memory, whole_so_far, writes_cut, writes_first}

or_right : (a b : Bool) → b ≡ true → (a || b) ≡ true
or_right true b is = refl
or_right false b is = is

-- more lines than the limit
pub over_lines : (script : List ℕ) → 1000000 < length (lines_of script) → IsTrue (is_too_long script)
over_lines script over = or_right (nat_lt input_max (length script)) (nat_lt 1000000 (length (lines_of script))) (lt-ltb 1000000 (length (lines_of script)) over)

module _ {D : Type 0} (moment : D → ℕ) (left_since : D → ℕ → List ℕ → Type 0) (seen : D → List ℕ) (may_leave : D → List ℕ → Type 0) (story : Story D) where
  abbrev Ends : D → Option (List ℕ) → Status → Type 0
  Ends disk written status = Serves moment left_since may_leave story.options story.start story.script story.disk disk story.written written status

  module _ (rest : List ℕ) (course : Course) (written : Option (List ℕ)) (disk : D) (s : Stored) (serving : IsServing moment left_since seen may_leave story rest course written disk s) where
    -- ---- between two lines

    pub ends_by_read : Ends disk written Read
    ends_by_read = record {
      served = writes_first moment left_since seen may_leave story rest course written disk s serving;
      too_long = λ no. absurd (let none : Read ≡ TooLong = no in cc);
      any_moment = serving.moments;
    }

    pub ends_between : Ends disk written Memory
    ends_between = record {
      served = inl (writes_first moment left_since seen may_leave story rest course written disk s serving);
      too_long = λ no. absurd (let none : Memory ≡ TooLong = no in cc);
      any_moment = serving.moments;
    }

    pub ends_too_long : IsTrue (is_too_long story.script) → Ends disk written TooLong
    ends_too_long over = record {
      served = writes_first moment left_since seen may_leave story rest course written disk s serving;
      too_long = λ is. over;
      any_moment = serving.moments;
    }

    -- all lines were answered
    pub ends_answered : lines_of rest ≡ [] → (marked : Bool) → course.marked ≡ marked → Ends disk written (if marked then Marked else Clean)
    ends_answered none marked is = by_mark marked (sym serving.marked ∙ is)
      where
        all : serving.before ≡ lines_of story.script
        all = sym (serving.split ∙ ap (λ (lines : List (List ℕ)). serving.before ++ lines) none ∙ append-nil serving.before)

        whole_by : (b : Bool) → list_any is_marked serving.answers ≡ b
            → IsWhole story.options story.start (readings_of story.script) (may_leave disk) (texts_of serving.answers) (if b then 1 else 0)
        whole_by b marked_is =
            subst (λ (lines : List (List ℕ)). IsWhole story.options story.start (map reading_of lines) (may_leave disk) (texts_of serving.answers) (if b then 1 else 0)) all
            (subst (λ (n : Bool). IsWhole story.options story.start (map reading_of serving.before) (may_leave disk) (texts_of serving.answers) (if n then 1 else 0)) marked_is
            (whole_so_far moment left_since seen may_leave story rest course written disk s serving))

        by_mark : (b : Bool) → list_any is_marked serving.answers ≡ b → Ends disk written (if b then Marked else Clean)
        by_mark true marked_is = record {
          served = record { text = texts_of serving.answers; whole = whole_by true marked_is; written = serving.wrote };
          too_long = λ no. absurd (let none : Marked ≡ TooLong = no in cc);
          any_moment = serving.moments;
        }
        by_mark false marked_is = record {
          served = record { text = texts_of serving.answers; whole = whole_by false marked_is; written = serving.wrote };
          too_long = λ no. absurd (let none : Clean ≡ TooLong = no in cc);
          any_moment = serving.moments;
        }

    -- so many lines were answered
    pub all_counted : lines_of rest ≡ [] → length (lines_of story.script) ≡ course.lines
    all_counted none =
        ap length (serving.split ∙ ap (λ (lines : List (List ℕ)). serving.before ++ lines) none ∙ append-nil serving.before) ∙ sym serving.lines

    -- ---- at a line

    module _ (line behind : List ℕ) (cut : lines_of rest ≡ line ∷ lines_of behind) where
      -- which is one too many
      pub ends_at_limit : course.lines ≡ 1000000 → Ends disk written TooLong
      ends_at_limit many =
          ends_too_long (over_lines story.script
          (let both : length (lines_of story.script) ≡ length serving.before + length (line ∷ lines_of behind) =
          ap length (serving.split ∙ ap (λ (lines : List (List ℕ)). serving.before ++ lines) cut) ∙ length-append serving.before (line ∷ lines_of behind) in
          omega (arith, both, serving.lines, many)))

      module _ (new : D) (t : Stored) (result : Result Answer Stopped)
          (plays : PlaysLine seen may_leave moment left_since (machine_after_lines story.options (machine_of story.options story.start) (map reading_of serving.before)) course.phase (reading_of line) disk s new t result)
          (counts_now : (d : D) (n : ℕ) (c : List ℕ) → n ≤ moment d → may_leave d c → left_since d n c) where
        pub ends_by_disk : IsErrOf result DiskFailed → Ends new written Disk
        ends_by_disk is = record {
          served = inr (stops_by_disk moment left_since seen may_leave story rest course written disk s serving line behind cut new t result plays counts_now is);
          too_long = λ no. absurd (let none : Disk ≡ TooLong = no in cc);
          any_moment = moments_here moment left_since seen may_leave story rest course written disk s serving line behind cut new t result plays;
        }

        pub ends_by_memory : Ends new written Memory
        ends_by_memory = record {
          served = stops_by_memory moment left_since seen may_leave story rest course written disk s serving line behind cut new t result plays counts_now;
          too_long = λ no. absurd (let none : Memory ≡ TooLong = no in cc);
          any_moment = moments_here moment left_since seen may_leave story rest course written disk s serving line behind cut new t result plays;
        }

        -- its answer isn't written whole
        pub ends_at_write : (told : Answer)
            → IsAnswered seen may_leave (options_in s) (machine_after_lines story.options (machine_of story.options story.start) (map reading_of serving.before)) course.phase (reading_of line) told new t
            → options_in t ≡ options_in s → (now : Option (List ℕ)) (status : Status) → (status ≡ Memory) ⊎ (status ≡ Write) → (status ≡ Memory → now ≡ written)
            → (status ≡ Write → AppendsPart written now (text_of told)) → Ends new now status
        ends_at_write told answered same now status (inl is) kept part =
            subst (Ends new now) (sym is) (subst (λ (known : Option (List ℕ)). Ends new known Memory) (sym (kept is)) ends_by_memory)
        ends_at_write told answered same now status (inr is) kept part =
            subst (Ends new now) (sym is)
            (record {
              served = writes_cut moment left_since seen may_leave story rest course written disk s serving line behind cut new t told answered same now (part is);
              too_long = λ no. absurd (let none : Write ≡ TooLong = no in cc);
              any_moment = moments_here moment left_since seen may_leave story rest course written disk s serving line behind cut new t result plays;
            })
