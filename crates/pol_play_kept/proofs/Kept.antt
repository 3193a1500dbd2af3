-- Which images there are while lines are answered.
use Rattle.std.proofs.Common.{◌≡◌, ◌⊎◌, inl, inr, ⊎_elim, ℕ, ◌≤◌, List, [], ◌∷◌, ◌++◌, length, Option, None, Result, Ok, Err, refl, sym, ap, ◌∙◌, subst, arith, append-nil, append_assoc}
use mathlib.Core.List.{IsPrefix}
use Rattle.pol_disk.specs.Images.{LeavesOnly}
use Rattle.pol_disk.proofs.Moments.{joined, started, widened}
use Rattle.pol_history.specs.Commits.{state_now}
use Rattle.pol_history.specs.Machine.{Machine}
use Rattle.pol_journal.specs.Journal.{IsJournal, IsJournalOrOneMore, journal_of}
use Rattle.pol_kept.specs.Keeps.{HoldsStill, HoldsUnlessFailed, IsKept, requests_in}
use Rattle.pol_kept.specs.declared.error.OpenError.{OpenError}
use Rattle.pol_kept.specs.declared.error.OpenError.TheVariants as opened
use Rattle.pol_kept.proofs.Disks.{kept_images}
use Rattle.pol_machine.specs.Stands.{Stored, options_in}
use Rattle.pol_model.specs.Fault.{fault_of}
use Rattle.pol_model.specs.declared.answer.Fault.{Fault}
use Rattle.pol_model.specs.declared.options.Options.{Options}
use Rattle.pol_model.specs.declared.request.Request.{Request}
use Rattle.pol_run.specs.Spots.{Reading}
use Rattle.pol_serial_run.specs.Accepted.{accepted_by, unless_fault}
use Rattle.pol_play_kept.specs.Images.{AllAre, IsJournalOrMore, IsJournalWithin}
use Rattle.pol_play_kept.specs.Answering.{IsAccepted}
use Rattle.pol_play_kept.specs.Played.{IsDamaged}

-- ---- beginnings

-- before the first of the accepted requests
pub none_yet : (options : Options) (start accepted : List Request) (c : List ℕ) → IsJournal options start c → IsJournalWithin options start accepted c
none_yet options start accepted c is = record {
  done = [];
  begins = (accepted, refl);
  journal = subst (λ (requests : List Request). IsJournal options requests c) (sym (append-nil start)) is;
}

-- after those before a line, or after what it accepts too
pub at_line : (options : Options) (start accepted before more later : List Request) → accepted ≡ before ++ more ++ later
    → (c : List ℕ) → IsJournalOrMore options (start ++ before) more c → IsJournalWithin options start accepted c
at_line options start accepted before more later split c (inl is) = record {
  done = before;
  begins = (more ++ later, sym (append_assoc before more later) ∙ sym split);
  journal = is;
}
at_line options start accepted before more later split c (inr is) = record {
  done = before ++ more;
  begins = (later, sym split);
  journal = subst (λ (requests : List Request). IsJournal options requests c) (append_assoc start before more) is;
}

-- ---- a line

-- what a line accepts that asks to commit a request without a fault
pub accepts_one : (options : Options) (m : Machine) (reading : Reading) (line : IsAccepted options m reading) → accepted_by options m reading ≡ line.request ∷ []
accepts_one options m reading line =
    ap (accepted_by options m) line.reads ∙ ap (unless_fault line.request) line.no_fault

-- where a request has no fault, it is the one that is accepted
pub one_accepted : {D : Type 0} (moment : D → ℕ) (left_since : D → ℕ → List ℕ → Type 0) (old new : D) (options : Options) (requests : List Request) (request : Request) (fault : Option Fault)
    → fault ≡ None → LeavesOnly moment left_since old new (IsJournalOrOneMore options requests request)
    → LeavesOnly moment left_since old new (IsJournalOrMore options requests (unless_fault request fault))
one_accepted moment left_since old new options requests request fault none leaves =
    subst (λ (f : Option Fault). LeavesOnly moment left_since old new (IsJournalOrMore options requests (unless_fault request f))) (sym none) leaves

module _ {D : Type 0} (moment : D → ℕ) (left_since : D → ℕ → List ℕ → Type 0) (seen : D → List ℕ) (may_leave : D → List ℕ → Type 0) where
  -- no call of the disk was made
  pub nothing_done : (disk : D) (s : Stored) → ((c : List ℕ) → left_since disk (moment disk) c → may_leave disk c) → IsKept seen may_leave disk s
      → (more : List Request) → LeavesOnly moment left_since disk disk (IsJournalOrMore (options_in s) (requests_in s) more)
  nothing_done disk s only_now kept more =
      started moment left_since disk (IsJournalOrMore (options_in s) (requests_in s) more)
      (λ c left. inl (kept_images seen may_leave disk s kept c (only_now c left)))

  pub nothing_done_at : (old new : D) (s : Stored) → new ≡ old → ((c : List ℕ) → left_since old (moment old) c → may_leave old c) → IsKept seen may_leave old s
      → (more : List Request) → LeavesOnly moment left_since old new (IsJournalOrMore (options_in s) (requests_in s) more)
  nothing_done_at old new s same only_now kept more =
      subst (λ (d : D). LeavesOnly moment left_since old d (IsJournalOrMore (options_in s) (requests_in s) more)) (sym same) (nothing_done old s only_now kept more)

-- the images at the end of a run are among those of its moments
pub at_the_end : {D : Type 0} (moment : D → ℕ) (left_since : D → ℕ → List ℕ → Type 0) (may_leave : D → List ℕ → Type 0) (old new : D) (P : List ℕ → Type 0)
    → ((t : ℕ) (c : List ℕ) → t ≤ moment new → may_leave new c → left_since new t c)
    → LeavesOnly moment left_since old new P → (c : List ℕ) → may_leave new c → P c
at_the_end moment left_since may_leave old new P counts_now leaves c now = leaves.each c (counts_now (moment old) c leaves.later now)

-- no call of the disk was made, whose images were journals
pub untouched : {D : Type 0} (moment : D → ℕ) (left_since : D → ℕ → List ℕ → Type 0) (may_leave : D → List ℕ → Type 0) (disk : D) (options : Options) (start accepted : List Request)
    → ((c : List ℕ) → left_since disk (moment disk) c → may_leave disk c) → AllAre options start (may_leave disk)
    → LeavesOnly moment left_since disk disk (IsJournalWithin options start accepted)
untouched moment left_since may_leave disk options start accepted only_now were =
    started moment left_since disk (IsJournalWithin options start accepted) (λ c left. none_yet options start accepted c (were c (only_now c left)))

-- nor does the disk change then
pub still : {D : Type 0} (seen : D → List ℕ) (may_leave : D → List ℕ → Type 0) (moment : D → ℕ) (left_since : D → ℕ → List ℕ → Type 0) (disk : D)
    → ((c : List ℕ) → left_since disk (moment disk) c → may_leave disk c) → HoldsStill seen may_leave moment left_since disk disk
still seen may_leave moment left_since disk only_now = record { same = refl; any_moment = started moment left_since disk (may_leave disk) only_now }

-- nor where an opening wanted memory
pub still_unopened : {D : Type 0} (seen : D → List ℕ) (may_leave : D → List ℕ → Type 0) (moment : D → ℕ) (left_since : D → ℕ → List ℕ → Type 0) (old new : D) (why : OpenError)
    → why ≡ opened.Memory → HoldsUnlessFailed seen may_leave moment left_since old why new → HoldsStill seen may_leave moment left_since old new
still_unopened seen may_leave moment left_since old new why is holds =
    subst (λ (e : OpenError). HoldsUnlessFailed seen may_leave moment left_since old e new) is holds

one_result : (result : Result (List Request) ℕ) (requests : List Request) (gate : ℕ) → result ≡ Ok requests → result ≡ Err gate → ⊥
one_result result requests gate one other = cc

-- bytes that are damaged are no journal
pub not_both : (options : Options) (bytes : List ℕ) (requests : List Request) → IsJournal options requests bytes → IsDamaged options bytes → ⊥
not_both options bytes requests journal damaged = one_result (journal_of options bytes) requests damaged.gate journal damaged.damaged
