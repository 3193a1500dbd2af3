-- A journal is opened, and lines are answered after its requests.
use Rattle.std.proofs.Common.{◌≡◌, inl, inr, ℕ, ◌≤◌, Bool, true, false, if◌then◌else◌, List, [], ◌∷◌, ◌++◌, Result, Ok, Err, refl, sym, ap, ◌∙◌, subst, append-nil}
use Rattle.std.specs.List.{list_any}
use Rattle.pol_disk.specs.Images.{LeavesOnly}
use Rattle.pol_disk.proofs.Moments.{joined, widened}
use Rattle.pol_history.specs.Commits.{commits_in}
use Rattle.pol_journal.specs.Journal.{IsJournal, journal_of}
use Rattle.pol_kept.specs.Keeps.{IsKept, IsOpened, KeepsJournal, requests_in}
use Rattle.pol_kept.proofs.Disks.{kept_images}
use Rattle.pol_machine.specs.Serial.{machine_of}
use Rattle.pol_machine.specs.Stands.{Stands, Stored, options_in}
use Rattle.pol_model.specs.declared.options.Options.{Options}
use Rattle.pol_model.specs.declared.request.Request.{Request}
use Rattle.pol_run.specs.Run.{is_marked, status_of}
use Rattle.pol_run.specs.Spots.{Reading}
use Rattle.pol_serial_run.specs.Accepted.{accepted}
use Rattle.pol_play_kept.specs.Answering.{IsSoFar}
use Rattle.pol_play_kept.specs.Images.{AllAre, IsJournalWithin}
use Rattle.pol_play_kept.specs.Played.{IsWhole, StopsAt}
use Rattle.pol_play_kept.specs.declared.progress.Progress.{Progress}
use Rattle.pol_play_kept.proofs.Going.{requests_are}
use Rattle.pol_play_kept.proofs.Kept.{at_the_end, none_yet}

ok_same : (X E : Type 0) (x y : X) (result : Result X E) → result ≡ Ok x → result ≡ Ok y → x ≡ y
ok_same X E x y result one other = cc

-- the bytes are a journal of one list of requests
pub same_requests : (options : Options) (start requests : List Request) (bytes : List ℕ) → IsJournal options start bytes → IsJournal options requests bytes → requests ≡ start
same_requests options start requests bytes one other = ok_same (List Request) ℕ requests start (journal_of options bytes) other one

module _ {D : Type 0} (moment : D → ℕ) (left_since : D → ℕ → List ℕ → Type 0) (seen : D → List ℕ) (may_leave : D → List ℕ → Type 0)
    (options : Options) (start : List Request) (old new : D) (were : AllAre options start (may_leave old)) (stay : may_leave old (seen old)) where
  was : IsJournal options start (seen old)
  was = were (seen old) stay

  still : (c : List ℕ) → KeepsJournal options (seen old) (may_leave old) c → IsJournal options start c
  still c (inl might) = were c might
  still c (inr same) = same ∙ was

  -- at each moment of opening
  pub opening_moments : (later : List Request) → LeavesOnly moment left_since old new (KeepsJournal options (seen old) (may_leave old))
      → LeavesOnly moment left_since old new (IsJournalWithin options start later)
  opening_moments later leaves = widened moment left_since old new _ (IsJournalWithin options start later) leaves (λ c is. none_yet options start later c (still c is))

  -- and afterwards
  pub opening_leaves : ((t : ℕ) (c : List ℕ) → t ≤ moment new → may_leave new c → left_since new t c)
      → LeavesOnly moment left_since old new (KeepsJournal options (seen old) (may_leave old)) → AllAre options start (may_leave new)
  opening_leaves counts_now leaves c now = still c (at_the_end moment left_since may_leave old new _ counts_now leaves c now)

  pub opened_requests : (requests : List Request) → IsJournal options requests (seen old) → requests ≡ start
  opened_requests requests is = same_requests options start requests (seen old) was is

module _ {D : Type 0} (seen : D → List ℕ) (may_leave : D → List ℕ → Type 0) where
  -- before the first line
  pub first_so_far : (progress : Progress) (disk : D) (s : Stored) → progress.phase ≡ 1 → progress.text.items ≡ [] → progress.marked ≡ false
      → IsKept seen may_leave disk s → Stands s (machine_of (options_in s) (requests_in s))
      → IsSoFar seen may_leave (options_in s) (requests_in s) [] progress disk s
  first_so_far progress disk s phase text marked kept stands = record {
    answers = [];
    serial = tt;
    text = text;
    marked = marked;
    phase = phase;
    begun = sym stands.at.journal;
    options_are = refl;
    stands = stands;
    kept = kept;
  }

  -- after the last
  pub whole : (options : Options) (start : List Request) (readings : List Reading) (progress : Progress) (disk : D) (s : Stored)
      → IsSoFar seen may_leave options start readings progress disk s
      → IsWhole options start readings (may_leave disk) progress.text.items (if progress.marked then 1 else 0)
  whole options start readings progress disk s so_far = record {
    answers = so_far.answers;
    serial = so_far.serial;
    text_is = so_far.text;
    status_is = ap (λ (b : Bool). if b then 1 else 0) so_far.marked;
    images = λ c now.
        subst (λ (requests : List Request). IsJournal options requests c) (requests_are seen may_leave options start readings progress disk s so_far)
        (subst (λ (o : Options). IsJournal o (requests_in s) c) so_far.options_are (kept_images seen may_leave disk s so_far.kept c now));
  }

-- what holds of the machine's options and requests holds of those that it was opened with
pub as_opened : (P : Options → List Request → Type 0) (options other : Options) (requests start : List Request) → options ≡ other → requests ≡ start → P options requests → P other start
as_opened P options other requests start same again holds =
    subst (λ (rs : List Request). P other rs) again (subst (λ (o : Options). P o requests) same holds)
