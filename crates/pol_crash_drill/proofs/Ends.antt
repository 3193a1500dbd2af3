-- How a drill ends.
use Rattle.std.proofs.Common.{◌≡◌, ◌⊎◌, inl, inr, ℕ, ◌+◌, ◌^◌, ◌<◌, ◌≤◌, Bool, true, false, if◌then◌else◌, List, [], ◌++◌, length, Result, Ok, Err, refl, sym, ap, ◌∙◌, subst}
use Rattle.pol_disk.specs.Calls.{StopsIn}
use Rattle.pol_disk.specs.MemDisk.{DiskState, Does, Fails, bytes_in}
use Rattle.pol_disk.specs.Record.{IsImage, held}
use Rattle.pol_disk.specs.declared.call.DiskCall.{DiskCall}
use Rattle.pol_journal.specs.Journal.{IsJournal, journal_of}
use Rattle.pol_kept.specs.Calls.{calls_of_open}
use Rattle.pol_model.specs.declared.options.Options.{Options}
use Rattle.pol_model.specs.declared.request.Request.{Request}
use Rattle.pol_run.specs.Spots.{Reading}
use Rattle.pol_serial_run.specs.Accepted.{accepted}
use Rattle.pol_play_kept.specs.Calls.{RunsFor, StopsOnceOpened, calls_to_keep, calls_to_open}
use Rattle.pol_play_kept.specs.Images.{AllAre}
use Rattle.pol_play_kept.specs.Played.{IsWhole}
use Rattle.pol_crash_drill.specs.Crashed.{IsCut, empty_disk, left_by_crash}
use Rattle.pol_crash_drill.specs.Drill.{IsDrill, restart_text}
use Rattle.pol_crash_drill.proofs.Cut.{cut_at_line, cut_in_opening, cut_nowhere}

-- ---- before the first call

empty_journal : (options : Options) (c : List ℕ) → c ≡ [] → IsJournal options [] c
empty_journal options c is = subst (IsJournal options []) (sym is) refl

empty_images : (options : Options) (call : ℕ) → AllAre options [] (IsImage (held (empty_disk call).past))
empty_images options call c (inl is) = empty_journal options c is
empty_images options call c (inr is) = empty_journal options c is

pub one_journal : (result : Result (List Request) ℕ) (at : ℕ) (requests : List Request) → result ≡ Ok requests → result ≡ Err at → ⊥
one_journal result at requests one other = cc

module _ (options : Options) (call : ℕ) (first : 1 ≤ call) (few : call < 2 ^ 64) (readings : List Reading) (old new : DiskState) (empty : old ≡ empty_disk call) where
  pub images : AllAre options [] (IsImage (held old.past))
  images = subst (λ (d : DiskState). AllAre options [] (IsImage (held d.past))) (sym empty) (empty_images options call)

  pub not_damaged : (at : ℕ) → journal_of options (bytes_in old) ≡ Err at → ⊥
  not_damaged at damaged = one_journal (journal_of options (bytes_in old)) at [] (subst (λ (d : DiskState). IsJournal options [] (bytes_in d)) (sym empty) refl) damaged

  pub ends_in_opening : StopsIn Does Fails old (calls_of_open (bytes_in old)) new → AllAre options [] (IsImage (held new.past)) → new.calls ≡ call
      → IsCut options call readings new.past [] false
  ends_in_opening stops are counted =
      cut_in_opening options call first few readings new (subst (λ (d : DiskState). StopsIn Does Fails d (calls_of_open (bytes_in d)) new) empty stops) are counted

  pub ends_told : (text : List ℕ) (marked lost : Bool)
      → (lost ≡ false → IsWhole options [] readings (IsImage (held new.past)) text (if marked then 1 else 0))
      → (lost ≡ false → RunsFor Does Fails (calls_to_open (bytes_in old) + calls_to_keep (accepted options [] readings)) old new)
      → (lost ≡ true → StopsOnceOpened Does Fails bytes_in (λ d. IsImage (held d.past)) options [] readings marked text old new)
      → (lost ≡ true → new.calls ≡ call)
      → IsCut options call readings new.past text marked
  ends_told text marked true whole runs stops counted =
      cut_at_line options call first few readings new text marked
      (subst (λ (d : DiskState). StopsOnceOpened Does Fails bytes_in (λ d. IsImage (held d.past)) options [] readings marked text d new) empty (stops refl)) (counted refl)
  ends_told text marked false whole runs stops counted =
      cut_nowhere options call first few readings new text marked (whole refl)
      (subst (λ (d : DiskState). RunsFor Does Fails (calls_to_open (bytes_in d) + calls_to_keep (accepted options [] readings)) d new) empty (runs refl))

-- ---- after the restart

-- the bytes are a journal of one list of requests
pub one_list : (options : Options) (bytes : List ℕ) (one other : List Request) → IsJournal options one bytes → IsJournal options other bytes → length one ≡ length other
one_list options bytes one other is also = ap length (same (journal_of options bytes) is also)
  where
    same : (result : Result (List Request) ℕ) → result ≡ Ok one → result ≡ Ok other → one ≡ other
    same result is also = cc

pub drilled : (options : Options) (call : ℕ) (readings : List Reading) (past : List DiskCall) (text : List ℕ) (marked : Bool) (cut : IsCut options call readings past text marked)
    (count : ℕ) (whole : List ℕ) → count ≡ length cut.requests → whole ≡ text ++ restart_text count → IsDrill options call readings whole (if marked then 1 else 0)
drilled options call readings past text marked cut count whole count_is whole_is = record {
  answers = cut.answers;
  serial = cut.serial;
  text_is = whole_is ∙ (λ i. cut.text_is i ++ restart_text ((count_is ∙ cut.many) i));
  status_is = ap (λ (b : Bool). if b then 1 else 0) cut.marked_is;
}
