-- Each whole `ok` line that was written has its request in each image.
use Rattle.std.proofs.Common.{◌≡◌, ◌⊎◌, inl, inr, ℕ, ◌≤◌, List, [], ◌∷◌, ◌++◌, length, take, Option, None, Some, Ok, Err, refl, sym, ap, ◌∙◌, subst, arith, append-nil, append_assoc}
use Rattle.std.specs.Io.KnownBytes.{Appends, Keeps}
use Rattle.pol_answer.specs.Text.{text_of, texts_of}
use Rattle.pol_answer.specs.declared.answer.Answer.{Answer}
use Rattle.pol_history.specs.Commits.{state_now}
use Rattle.pol_history.specs.Machine.{Machine}
use Rattle.pol_journal.specs.Journal.{IsJournal}
use Rattle.pol_machine.specs.Serial.{machine_of}
use Rattle.pol_model.specs.Fault.{fault_of}
use Rattle.pol_model.specs.declared.answer.Fault.{Fault}
use Rattle.pol_model.specs.declared.options.Options.{Options}
use Rattle.pol_model.specs.declared.request.Request.{Request}
use Rattle.pol_play_kept.specs.Images.{AllAre}
use Rattle.pol_play_kept.specs.Played.{IsWhole, StopsAt, WritesBefore}
use Rattle.pol_play_kept.proofs.Kept.{accepts_one}
use Rattle.pol_run.specs.Run.{readings_of}
use Rattle.pol_run.specs.Spots.{Reading}
use Rattle.pol_script.specs.declared.command.Command.TheVariants as command
use Rattle.pol_serial_run.specs.Accepted.{accepted, accepted_by, accepted_from, unless_fault}
use Rattle.pol_serial_run.specs.SerialRun.{IsSerial, IsSerialFrom, machine_after_lines, machine_then}
use Rattle.pol_serial_run.proofs.Going.{accepted_both, accepted_more, ok_as_many}
use Rattle.pol_status.specs.declared.status.Status.{Status}
use Rattle.pol_status.specs.declared.status.Status.TheVariants.{Clean, Marked, Usage, Read, Write, Memory, TooLong, Disk, Damaged}
use Rattle.policyd_kept.specs.Acknowledged.{Acknowledges, KeepsAcknowledged}
use Rattle.policyd_kept.specs.Served.{IsServed, WritesCut, WritesFirst}
use Rattle.policyd_kept.proofs.Streams.{appends_more}

-- nothing was written
keeps_nothing : (old new : Option (List ℕ)) → Keeps old new → Appends old new []
keeps_nothing None new kept = tt
keeps_nothing (Some xs) None kept = absurd kept
keeps_nothing (Some xs) (Some ys) kept = kept ∙ sym (append-nil xs)

-- a line accepts one request at most
one_unless : (request : Request) (fault : Option Fault) → length (unless_fault request fault) ≤ 1
one_unless request None = omega arith
one_unless request (Some fault) = omega arith

one_by : (options : Options) (m : Machine) (reading : Reading) → length (accepted_by options m reading) ≤ 1
one_by options m (Err fault) = omega arith
one_by options m (Ok (command.Commit session request)) = one_unless request (fault_of (state_now options m.history) request)
one_by options m (Ok (command.Look session query)) = omega arith
one_by options m (Ok (command.Trace session query)) = omega arith
one_by options m (Ok (command.Sync session)) = omega arith
one_by options m (Ok command.Phase) = omega arith

-- the answers to all lines but the last
all_but_last : (options : Options) (m : Machine) (phase : ℕ) (front : List Reading) (last : Reading) (answers : List Answer) (told : Answer)
    → IsSerialFrom options m phase (front ++ last ∷ []) (answers ++ told ∷ []) → IsSerialFrom options m phase front answers
all_but_last options m phase [] last [] told is = tt
all_but_last options m phase [] last (a ∷ []) told is = absurd is.1
all_but_last options m phase [] last (a ∷ b ∷ answers) told is = absurd is.1
all_but_last options m phase (r ∷ []) last [] told is = absurd is.1
all_but_last options m phase (r ∷ s ∷ front) last [] told is = absurd is.1
all_but_last options m phase (r ∷ front) last (a ∷ answers) told is =
    (is.0, all_but_last options (machine_then options m r) _ front last answers told is.1)

module _ (options : Options) (start : List Request) (script : List ℕ) (may_leave : List ℕ → Type 0) (old new : Option (List ℕ)) where
  abbrev all : List Request
  all = accepted options start (readings_of script)

  abbrev KeepsThem : List Request → List ℕ → Type 0
  KeepsThem done c = KeepsAcknowledged options start done all c

  module _ (before later : List Reading) (split : readings_of script ≡ before ++ later) where
    abbrev done : List Request
    done = accepted options start before

    abbrev m : Machine
    m = machine_after_lines options (machine_of options start) before

    all_is : all ≡ done ++ accepted_from options m later
    all_is = ap (accepted options start) split ∙ accepted_both options (machine_of options start) before later

    -- nothing more is there
    exactly : (c : List ℕ) → IsJournal options (start ++ done) c → KeepsThem done c
    exactly c is = record {
      more = [];
      one_at_most = omega arith;
      begins = (accepted_from options m later, ap (λ (front : List Request). front ++ accepted_from options m later) (append-nil done) ∙ sym all_is);
      journal = subst (λ (requests : List Request). IsJournal options requests c) (sym (append-nil (start ++ done))) is;
    }

    -- the texts of whole answers
    acknowledges : (answers : List Answer) → IsSerial options start before answers → (text : List ℕ) → text ≡ texts_of answers → Appends old new text
        → ((c : List ℕ) → may_leave c → KeepsThem done c) → Acknowledges options start script may_leave old new
    acknowledges answers serial text is written there = record {
      before = before;
      later = later;
      split = split;
      answers = answers;
      serial = serial;
      as_many = ok_as_many options (machine_of options start) 1 before answers serial;
      rest = [];
      cut = inl refl;
      written = subst (Appends old new) (is ∙ sym (append-nil (texts_of answers))) written;
      there = there;
    }

    of_whole : (text : List ℕ) (status : ℕ) → IsWhole options start before may_leave text status → Appends old new text → Acknowledges options start script may_leave old new
    of_whole text status whole written =
        acknowledges whole.answers whole.serial text whole.text_is written (λ c left. exactly c (whole.images c left))

  module _ (before : List Reading) (reading : Reading) (later : List Reading) (split : readings_of script ≡ before ++ reading ∷ later) where
    abbrev here : Machine
    here = machine_after_lines options (machine_of options start) before

    abbrev asked : List Request
    asked = accepted_by options here reading

    abbrev others : List Request
    others = accepted_from options (machine_then options here reading) later

    -- what the next line accepts is there too
    and_next : (c : List ℕ) → IsJournal options ((start ++ accepted options start before) ++ asked) c → KeepsThem (accepted options start before) c
    and_next c is = record {
      more = asked;
      one_at_most = one_by options here reading;
      begins = (others, append_assoc (accepted options start before) asked others ∙ sym (all_is before (reading ∷ later) split));
      journal = is;
    }

  of_first : WritesFirst options start script may_leave old new → Acknowledges options start script may_leave old new
  of_first first = of_whole first.before first.later first.split first.text first.status first.whole first.written

  of_before : WritesBefore options start script may_leave old new → Acknowledges options start script may_leave old new
  of_before writes = acknowledges stops.before (stops.reading ∷ stops.later) stops.split stops.answers stops.serial writes.text stops.text_is writes.written (λ c left. either c (stops.images c left))
    where
      stops : StopsAt options start (readings_of script) may_leave writes.text
      stops = writes.stops

      before_it : List Request
      before_it = start ++ accepted options start stops.before

      either : (c : List ℕ) → IsJournal options before_it c ⊎ IsJournal options (before_it ++ stops.line.request ∷ []) c → KeepsThem (accepted options start stops.before) c
      either c (inl is) = exactly stops.before (stops.reading ∷ stops.later) stops.split c is
      either c (inr is) =
          and_next stops.before stops.reading stops.later stops.split c
          (subst (λ (more : List Request). IsJournal options (before_it ++ more) c)
          (sym (accepts_one options (machine_after_lines options (machine_of options start) stops.before) stops.reading stops.line)) is)

  of_cut : WritesCut options start script may_leave old new → Acknowledges options start script may_leave old new
  of_cut cut = record {
    before = cut.before;
    later = cut.reading ∷ cut.later;
    split = cut.split;
    answers = cut.answers;
    serial = serial;
    as_many = ok_as_many options (machine_of options start) 1 cut.before cut.answers serial;
    rest = take cut.part.count (text_of cut.told);
    cut = inr (record {
      reading = cut.reading;
      behind = cut.later;
      next = refl;
      told = cut.told;
      serial = cut.serial;
      count = cut.part.count;
      not_all = cut.part.not_all;
      is = refl;
    });
    written = appends_more old cut.whole_lines new (texts_of cut.answers) (take cut.part.count (text_of cut.told)) cut.written cut.part.appended;
    there = λ c left.
        and_next cut.before cut.reading cut.later cut.split c
        (subst (λ (requests : List Request). IsJournal options requests c)
        (ap (λ (more : List Request). start ++ more) (accepted_more options (machine_of options start) cut.before cut.reading)
        ∙ sym (append_assoc start (accepted options start cut.before) (accepted_by options (machine_after_lines options (machine_of options start) cut.before) cut.reading)))
        (cut.images c left));
  }
    where
      serial : IsSerial options start cut.before cut.answers
      serial = all_but_last options (machine_of options start) 1 cut.before cut.reading cut.answers cut.told cut.serial

  of_nothing : AllAre options start may_leave → Keeps old new → Acknowledges options start script may_leave old new
  of_nothing images kept =
      acknowledges [] (readings_of script) refl [] tt [] refl (keeps_nothing old new kept)
      (λ c left. exactly [] (readings_of script) refl c (subst (λ (requests : List Request). IsJournal options requests c) (sym (append-nil start)) (images c left)))

  of_serial : (status : ℕ) (text : List ℕ) → IsWhole options start (readings_of script) may_leave text status → Appends old new text → Acknowledges options start script may_leave old new
  of_serial status text whole written = of_whole (readings_of script) [] (sym (append-nil (readings_of script))) text status whole written

  pub of_status : (status : Status) → (status ≡ Usage → ⊥) → (status ≡ Damaged → ⊥) → IsServed options start script may_leave old new status
      → Acknowledges options start script may_leave old new
  of_status Clean usage damaged served = of_serial 0 served.text served.whole served.written
  of_status Marked usage damaged served = of_serial 1 served.text served.whole served.written
  of_status Usage usage damaged served = absurd (usage refl)
  of_status Read usage damaged served = of_first served
  of_status Write usage damaged served = of_cut served
  of_status Memory usage damaged (inl first) = of_first first
  of_status Memory usage damaged (inr before) = of_before before
  of_status TooLong usage damaged served = of_first served
  of_status Disk usage damaged (inl nothing) = of_nothing nothing.images nothing.written
  of_status Disk usage damaged (inr before) = of_before before
  of_status Damaged usage damaged served = absurd (damaged refl)
