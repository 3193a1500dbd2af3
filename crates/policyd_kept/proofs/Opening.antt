-- A journal is opened, and lines are answered after its requests.
use Rattle.std.proofs.Common.{◌≡◌, ◌⊎◌, inl, inr, ℕ, ◌≤◌, Bool, true, false, if◌then◌else◌, List, [], IfSome, IsTrue, Option, None, Some, refl, sym, ◌∙◌, subst, append-nil}
use Rattle.pol_disk.specs.Images.{LeavesOnly}
use Rattle.pol_disk.proofs.Moments.{joined}
use Rattle.pol_kept.specs.Keeps.{KeepsJournal}
use Rattle.pol_model.specs.declared.options.Options.{Options}
use Rattle.pol_model.specs.declared.request.Request.{Request}
use Rattle.pol_play_kept.specs.Images.{AllAre, IsJournalWithin, OfScript}
use Rattle.pol_play_kept.proofs.Opened.{as_opened, opening_leaves, opening_moments}
use Rattle.pol_play_kept.proofs.Written.{keeps_same}
use Rattle.pol_run.specs.Run.{readings_of, status_of}
use Rattle.pol_serial_run.specs.Accepted.{accepted}
use Rattle.pol_status.specs.Ends.{is_answered, status_number}
use Rattle.pol_status.specs.Limits.{is_too_long}
use Rattle.pol_status.specs.declared.status.Status.{Status}
use Rattle.pol_status.specs.declared.status.Status.TheVariants.{Clean, Marked, Usage, Read, Write, Memory, TooLong, Disk, Damaged}
use Rattle.policyd_kept.specs.Served.{IsServed, Serves}
use Rattle.policyd_kept.specs.Serving.{IsLineError}
use Rattle.policyd_kept.proofs.Streams.{appends_none}

-- the status of answers that were all written
pub answered_is : (status : Status) (marked : Bool) → IsTrue (is_answered status) → status_number status ≡ (if marked then 1 else 0) → (if marked then Marked else Clean) ≡ status
answered_is Clean false answered number = refl
answered_is Clean true answered number = absurd (let no : 0 ≡ 1 = number in cc)
answered_is Marked true answered number = refl
answered_is Marked false answered number = absurd (let no : 1 ≡ 0 = number in cc)
answered_is Usage marked answered number = absurd (let no : false ≡ true = answered in cc)
answered_is Read marked answered number = absurd (let no : false ≡ true = answered in cc)
answered_is Write marked answered number = absurd (let no : false ≡ true = answered in cc)
answered_is Memory marked answered number = absurd (let no : false ≡ true = answered in cc)
answered_is TooLong marked answered number = absurd (let no : false ≡ true = answered in cc)
answered_is Disk marked answered number = absurd (let no : false ≡ true = answered in cc)
answered_is Damaged marked answered number = absurd (let no : false ≡ true = answered in cc)

-- no status at which every line was answered is another one
pub only_answered : (status other : Status) → IsTrue (is_answered status) → is_answered other ≡ false → status ≡ other → ⊥
only_answered status other answered is_not is =
    let both : false ≡ true = sym is_not ∙ subst (λ (s : Status). IsTrue (is_answered s)) is answered in
    absurd cc

-- why lines weren't answered is none of these
pub not_usage : (status : Status) → (status ≡ Read) ⊎ IsLineError status → status ≡ Usage → ⊥
not_usage status (inl cause) is = absurd (let no : Usage ≡ Read = sym is ∙ cause in cc)
not_usage status (inr (inl (inl cause))) is = absurd (let no : Usage ≡ TooLong = sym is ∙ cause in cc)
not_usage status (inr (inl (inr cause))) is = absurd (let no : Usage ≡ Disk = sym is ∙ cause in cc)
not_usage status (inr (inr (inl cause))) is = absurd (let no : Usage ≡ Memory = sym is ∙ cause in cc)
not_usage status (inr (inr (inr cause))) is = absurd (let no : Usage ≡ Write = sym is ∙ cause in cc)

pub not_damaged : (status : Status) → (status ≡ Read) ⊎ IsLineError status → status ≡ Damaged → ⊥
not_damaged status (inl cause) is = absurd (let no : Damaged ≡ Read = sym is ∙ cause in cc)
not_damaged status (inr (inl (inl cause))) is = absurd (let no : Damaged ≡ TooLong = sym is ∙ cause in cc)
not_damaged status (inr (inl (inr cause))) is = absurd (let no : Damaged ≡ Disk = sym is ∙ cause in cc)
not_damaged status (inr (inr (inl cause))) is = absurd (let no : Damaged ≡ Memory = sym is ∙ cause in cc)
not_damaged status (inr (inr (inr cause))) is = absurd (let no : Damaged ≡ Write = sym is ∙ cause in cc)

pub not_answered : (status : Status) → (status ≡ Read) ⊎ IsLineError status → IsTrue (is_answered status) → ⊥
not_answered status (inl cause) answered = only_answered status Read answered refl cause
not_answered status (inr (inl (inl cause))) answered = only_answered status TooLong answered refl cause
not_answered status (inr (inl (inr cause))) answered = only_answered status Disk answered refl cause
not_answered status (inr (inr (inl cause))) answered = only_answered status Memory answered refl cause
not_answered status (inr (inr (inr cause))) answered = only_answered status Write answered refl cause

-- ---- what holds of the script that was read

pub of_one : (known : Option (List ℕ)) (P Q : List ℕ → Type 0) → ((script : List ℕ) → P script → Q script) → OfScript known P → OfScript known Q
of_one known P Q more of = record { script = of.script; was_left = of.was_left; holds = more of.script (of.holds) }

pub of_known : (known : Option (List ℕ)) (P : List ℕ → Type 0) → OfScript known P → IfSome known P
of_known None P of = tt
of_known (Some bytes) P of = subst P of.was_left of.holds

module _ {D : Type 0} (moment : D → ℕ) (left_since : D → ℕ → List ℕ → Type 0) (seen : D → List ℕ) (may_leave : D → List ℕ → Type 0) where
  -- a script that is too long
  pub told_too_long : (known : Option (List ℕ)) (options : Options) (start : List Request) (old new : D) (before after : Option (List ℕ)) (status : Status) → status ≡ TooLong
      → OfScript known (λ script. Serves moment left_since may_leave options start script old new before after status) → IfSome known (λ script. IsTrue (is_too_long script))
  told_too_long known options start old new before after status is of =
      of_known known (λ script. IsTrue (is_too_long script))
      (of_one known (λ script. Serves moment left_since may_leave options start script old new before after status) (λ script. IsTrue (is_too_long script)) (λ script serves. serves.too_long is) of)

  module _ (options : Options) (start : List Request) (old mid : D) (were : AllAre options start (may_leave old)) (stay : may_leave old (seen old))
      (opens : LeavesOnly moment left_since old mid (KeepsJournal options (seen old) (may_leave old))) where
    -- the lines were answered by a machine that was opened
    pub serves_opened : (known : Option (List ℕ)) (other : Options) (requests : List Request) → other ≡ options → requests ≡ start → (new : D) (before after : Option (List ℕ)) (status : Status)
        → OfScript known (λ script. Serves moment left_since may_leave other requests script mid new before after status)
        → OfScript known (λ script. Serves moment left_since may_leave options start script old new before after status)
    serves_opened known other requests same again new before after status of =
        of_one known (λ script. Serves moment left_since may_leave other requests script mid new before after status)
        (λ script. Serves moment left_since may_leave options start script old new before after status)
        (λ script serves. record {
          served = as_opened (λ (o : Options) (rs : List Request). IsServed o rs script (may_leave new) before after status) other options requests start same again serves.served;
          too_long = serves.too_long;
          any_moment =
              joined moment left_since old mid new (IsJournalWithin options start (accepted options start (readings_of script)))
              (opening_moments moment left_since seen may_leave options start old mid were stay (accepted options start (readings_of script)) opens)
              (as_opened (λ (o : Options) (rs : List Request). LeavesOnly moment left_since mid new (IsJournalWithin o rs (accepted o rs (readings_of script)))) other options requests start same again serves.any_moment);
        })
        of

    -- or none was opened
    module _ (counts_now : (t : ℕ) (c : List ℕ) → t ≤ moment mid → may_leave mid c → left_since mid t c) (known : Option (List ℕ)) (script : List ℕ) where
      abbrev Ends : Status → Type 0
      Ends status = Serves moment left_since may_leave options start script old mid known known status

      moments : LeavesOnly moment left_since old mid (IsJournalWithin options start (accepted options start (readings_of script)))
      moments = opening_moments moment left_since seen may_leave options start old mid were stay (accepted options start (readings_of script)) opens

      images : AllAre options start (may_leave mid)
      images = opening_leaves moment left_since seen may_leave options start old mid were stay counts_now opens

      pub unopened_by_disk : Ends Disk
      unopened_by_disk = record {
        served = inl (record { images = images; written = keeps_same known });
        too_long = λ no. absurd (let none : Disk ≡ TooLong = no in cc);
        any_moment = moments;
      }

      pub unopened_by_memory : Ends Memory
      unopened_by_memory = record {
        served = inl (record {
          before = [];
          later = readings_of script;
          split = refl;
          text = [];
          status = status_of [];
          whole = record {
            answers = [];
            serial = tt;
            text_is = refl;
            status_is = refl;
            images = subst (λ (requests : List Request). AllAre options requests (may_leave mid)) (sym (append-nil start)) images;
          };
          written = appends_none known;
        });
        too_long = λ no. absurd (let none : Memory ≡ TooLong = no in cc);
        any_moment = moments;
      }

      pub damaged : Ends Damaged
      damaged = record {
        served = keeps_same known;
        too_long = λ no. absurd (let none : Damaged ≡ TooLong = no in cc);
        any_moment = moments;
      }
