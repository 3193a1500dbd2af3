-- What is written, and the status with it.
use Rattle.std.proofs.Common.{◌≡◌, ◌⊎◌, inl, inr, ℕ, Bool, true, false, if◌then◌else◌, List, [], IfSome, IsTrue, Option, None, Some, refl, sym, ap, ◌∙◌, subst}
use Rattle.std.specs.Io.KnownBytes.{Appends, Keeps}
use Rattle.pol_model.specs.declared.options.Options.{Options}
use Rattle.pol_model.specs.declared.request.Request.{Request}
use Rattle.pol_run.specs.Run.{readings_of}
use Rattle.pol_serial_run.specs.Accepted.{accepted}
use Rattle.pol_status.specs.Ends.{is_answered, status_number}
use Rattle.pol_status.specs.declared.status.Status.{Status}
use Rattle.pol_status.specs.declared.status.Status.TheVariants.{Clean, Marked, Usage, Read, Write, Memory, TooLong, Disk, Damaged}
use Rattle.pol_streams.specs.Bytes.{AppendsPart}
use Rattle.pol_play_kept.specs.Images.{AllAre, IsJournalWithin, OfScript}
use Rattle.pol_play_kept.specs.Played.{IsAllowed, IsPlayed, IsWhole, Plays, StopsAt}
use Rattle.pol_play_kept.proofs.Kept.{untouched}

-- nothing was written
pub keeps_same : (known : Option (List ℕ)) → Keeps known known
keeps_same None = tt
keeps_same (Some bytes) = refl

-- the options, with their limit
pub options_are : (options : Options) (limit : ℕ) → options.map_max ≡ Some limit → record { mode = options.mode; localhost = options.localhost; map_max = Some limit } ≡ options
options_are options limit is = ap (λ (m : Option ℕ). record options { map_max = m }) (sym is)

module _ (options : Options) (start : List Request) (script : List ℕ) (may_leave : List ℕ → Type 0) (old new : Option (List ℕ)) (text : List ℕ) (lost marked : Bool)
    (whole : lost ≡ false → IsWhole options start (readings_of script) may_leave text (if marked then 1 else 0))
    (stops : lost ≡ true → StopsAt options start (readings_of script) may_leave text) where
  allowed : (b : Bool) → lost ≡ b → IsAllowed options start (readings_of script) may_leave text
  allowed true is = inr (stops is)
  allowed false is = inl ((if marked then 1 else 0), whole is)

  no_other : (status : Status) → is_answered status ≡ false → (status ≡ Disk → ⊥) → (status ≡ Write → ⊥)
      → IsTrue (is_answered status) ⊎ ((status ≡ Disk) ⊎ (status ≡ Write)) → ⊥
  no_other status none disk write (inl answered) = let no : true ≡ false = sym answered ∙ none in cc
  no_other status none disk write (inr (inl is)) = disk is
  no_other status none disk write (inr (inr is)) = write is

  pub written : (status : Status) → IsTrue (is_answered status) ⊎ ((status ≡ Disk) ⊎ (status ≡ Write))
      → (IsTrue (is_answered status) → (lost ≡ false) × (status_number status ≡ (if marked then 1 else 0))) → (status ≡ Disk → lost ≡ true)
      → ((status ≡ Write → ⊥) → Appends old new text) → (status ≡ Write → AppendsPart old new text)
      → IsPlayed options start script may_leave old new status
  written Clean ends answered is_lost all part = record {
    text = text;
    whole = subst (λ (n : ℕ). IsWhole options start (readings_of script) may_leave text n) (sym (answered refl).1) (whole (answered refl).0);
    written = all (λ no. cc);
  }
  written Marked ends answered is_lost all part = record {
    text = text;
    whole = subst (λ (n : ℕ). IsWhole options start (readings_of script) may_leave text n) (sym (answered refl).1) (whole (answered refl).0);
    written = all (λ no. cc);
  }
  written Write ends answered is_lost all part = record { text = text; is = allowed lost refl; written = part refl }
  written Disk ends answered is_lost all part = inr (record { text = text; stops = stops (is_lost refl); written = all (λ no. cc) })
  written Usage ends answered is_lost all part = absurd (no_other Usage refl (λ no. cc) (λ no. cc) ends)
  written Read ends answered is_lost all part = absurd (no_other Read refl (λ no. cc) (λ no. cc) ends)
  written Memory ends answered is_lost all part = absurd (no_other Memory refl (λ no. cc) (λ no. cc) ends)
  written TooLong ends answered is_lost all part = absurd (no_other TooLong refl (λ no. cc) (λ no. cc) ends)
  written Damaged ends answered is_lost all part = absurd (no_other Damaged refl (λ no. cc) (λ no. cc) ends)

-- ---- scripts that may not be told

pub if_any : {X : Type 0} (known : Option X) (P : X → Type 0) → ((x : X) → P x) → IfSome known P
if_any None P holds = tt
if_any (Some x) P holds = holds x

pub of_any : (known : Option (List ℕ)) (P : List ℕ → Type 0) → ((script : List ℕ) → P script) → OfScript known P
of_any None P holds = record { script = []; was_left = tt; holds = holds [] }
of_any (Some script) P holds = record { script = script; was_left = refl; holds = holds script }

-- the script wasn't read
pub unread : (options : Options) (start : List Request) (script : List ℕ) (may_leave : List ℕ → Type 0) (known : Option (List ℕ)) (status : Status)
    → (status ≡ Read) ⊎ ((status ≡ TooLong) ⊎ (status ≡ Memory)) → IsPlayed options start script may_leave known known status
unread options start script may_leave known status (inl is) = subst (λ (s : Status). IsPlayed options start script may_leave known known s) (sym is) (keeps_same known)
unread options start script may_leave known status (inr (inl is)) = subst (λ (s : Status). IsPlayed options start script may_leave known known s) (sym is) (keeps_same known)
unread options start script may_leave known status (inr (inr is)) = subst (λ (s : Status). IsPlayed options start script may_leave known known s) (sym is) (keeps_same known)

-- ---- a script over a disk

module _ {D : Type 0} (moment : D → ℕ) (left_since : D → ℕ → List ℕ → Type 0) (may_leave : D → List ℕ → Type 0) where
  -- what is played with some options is played with the same ones
  pub plays_as : (options same : Options) (script : List ℕ) (old_disk new_disk : D) (old new : Option (List ℕ)) (status : Status) → options ≡ same
      → ((start : List Request) → AllAre options start (may_leave old_disk) → Plays moment left_since may_leave options start script old_disk new_disk old new status)
      → (start : List Request) → AllAre same start (may_leave old_disk) → Plays moment left_since may_leave same start script old_disk new_disk old new status
  plays_as options same script old_disk new_disk old new status are plays =
      subst (λ (o : Options). (start : List Request) → AllAre o start (may_leave old_disk) → Plays moment left_since may_leave o start script old_disk new_disk old new status) are plays

  -- the script wasn't read, and no call of the disk was made
  pub unplayed : (left : Option (List ℕ)) (options : Options) (start : List Request) (disk : D) (known : Option (List ℕ)) (status : Status)
      → ((c : List ℕ) → left_since disk (moment disk) c → may_leave disk c) → AllAre options start (may_leave disk)
      → (status ≡ Read) ⊎ ((status ≡ TooLong) ⊎ (status ≡ Memory))
      → OfScript left (λ script. Plays moment left_since may_leave options start script disk disk known known status)
  unplayed left options start disk known status only_now were is =
      of_any left (λ (script : List ℕ). Plays moment left_since may_leave options start script disk disk known known status)
      (λ script. record {
        played = unread options start script (may_leave disk) known status is;
        any_moment = untouched moment left_since may_leave disk options start (accepted options start (readings_of script)) only_now were;
      })
