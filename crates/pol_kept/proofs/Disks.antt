-- A machine's requests on a disk, and what a crash leaves of them.
use Rattle.std.proofs.Common.{◌≡◌, inl, ◌<◌, ◌^◌, ℕ, List, [], ◌∷◌, ◌++◌, length, false, Err, Some, refl, sym, ◌∙◌, subst}
use Rattle.pol_disk.specs.Images.{LeavesOnly}
use Rattle.pol_disk.proofs.Moments.{started}
use Rattle.pol_history.specs.Machine.{Machine, step_of}
use Rattle.pol_history.specs.declared.machine.Event.TheVariants as step
use Rattle.pol_history.specs.declared.machine.Reply.TheVariants as reply
use Rattle.pol_journal.specs.Journal.{IsJournal, IsJournalOrOneMore, asked_in}
use Rattle.pol_kept.specs.Errors.{is_disk}
use Rattle.pol_kept.specs.declared.error.KeptError.{KeptError}
use Rattle.pol_kept.specs.Keeps.{Commits, IsKept, Replies, requests_in}
use Rattle.pol_kept.proofs.Machines.{committed, not_committed}
use Rattle.pol_kept.proofs.Records.{AreKept, appended, kept_journal, one_more}
use Rattle.pol_machine.specs.Stands.{Stands, StandsForSome, Stored, kept_of, options_in}
use Rattle.pol_model.specs.declared.answer.Committed.{Committed}
use Rattle.pol_model.specs.declared.options.Options.{Options}
use Rattle.pol_model.specs.declared.request.Request.{Request}
use Rattle.pol_record_log.specs.Records.{record_of}
use Rattle.pol_record_log.specs.Steps.{IsAppended, IsOnDisk, before_gate}

module _ {D : Type 0} (seen : D → List ℕ) (may_leave : D → List ℕ → Type 0) where
  pub kept_parts : (disk : D) (s : Stored) → IsKept seen may_leave disk s → AreKept (options_in s) (requests_in s) (seen disk)
  kept_parts disk s kept = record { closed = kept.closed; records = kept.records }

  -- a crash leaves a journal of the machine's requests
  pub kept_images : (disk : D) (s : Stored) → IsKept seen may_leave disk s → (c : List ℕ) → may_leave disk c → IsJournal (options_in s) (requests_in s) c
  kept_images disk s kept c left =
      subst (IsJournal (options_in s) (requests_in s)) (sym (kept.only c left)) (kept_journal (options_in s) (requests_in s) (seen disk) (kept_parts disk s kept))

  -- bytes that are on the disk, and are the records of the machine's requests
  pub on_disk : (disk : D) (s : Stored) (options : Options) (requests : List Request) (bytes : List ℕ) → StandsForSome (kept_of s) → options_in s ≡ options → requests_in s ≡ requests
      → AreKept options requests bytes → IsOnDisk seen may_leave disk bytes → IsKept seen may_leave disk s
  on_disk disk s options requests bytes stands options_are requests_are kept there =
      let here : AreKept (options_in s) (requests_in s) (seen disk) =
      subst (λ (b : List ℕ). AreKept (options_in s) (requests_in s) b) (sym there.read)
      (subst (λ (rs : List Request). AreKept (options_in s) rs bytes) (sym requests_are)
      (subst (λ (o : Options). AreKept o requests bytes) (sym options_are) kept)) in
      record {
        stands = stands;
        closed = here.closed;
        records = here.records;
        only = λ c left. there.only c left ∙ sym there.read;
      }

  -- the machine has gone on, and has committed nothing
  pub kept_on : (disk : D) (old new : Stored) → IsKept seen may_leave disk old → StandsForSome (kept_of new) → options_in new ≡ options_in old → requests_in new ≡ requests_in old
      → IsKept seen may_leave disk new
  kept_on disk old new kept stands options_are requests_are =
      on_disk disk new (options_in old) (requests_in old) (seen disk) stands options_are requests_are (kept_parts disk old kept) (record { read = refl; only = kept.only })

  module _ (disk : D) (old : Stored) (kept : IsKept seen may_leave disk old) (request : Request) (line : List ℕ) (short : length line < 2 ^ 32) (asked : asked_in line ≡ Some request)
      (m : Machine) (stands : Stands old m) (new : Stored) (options_are : options_in new ≡ options_in old) (done : Committed)
      (replies : Replies (options_in old) m request (reply.Committed done) new) where
    -- what a crash leaves while the record is written
    pub while_written : (c : List ℕ) → IsAppended (before_gate (seen disk)) (record_of line ++ 0 ∷ []) c → IsJournalOrOneMore (options_in old) (requests_in old) request c
    while_written c is =
        let has = committed (options_in old) m request old stands new done replies in
        appended (options_in old) (requests_in old) (seen disk) (kept_parts disk old kept) request line short asked has.no_fault c is

    -- and afterwards
    pub kept_more : (later : D) → IsOnDisk seen may_leave later (before_gate (seen disk) ++ 1 ∷ (record_of line ++ 0 ∷ [])) → IsKept seen may_leave later new
    kept_more later there =
        let has = committed (options_in old) m request old stands new done replies in
        on_disk later new (options_in old) (requests_in old ++ request ∷ []) (before_gate (seen disk) ++ 1 ∷ (record_of line ++ 0 ∷ []))
        (record { machine = (step_of (options_in old) m (step.Commit request)).1; stands = replies.stands }) options_are has.requests_are
        (one_more (options_in old) (requests_in old) (seen disk) (kept_parts disk old kept) request line short asked has.no_fault) there

  -- the machine is as before
  pub kept_still : (disk : D) (old new : Stored) (m : Machine) (request : Request) (why : KeptError) → IsKept seen may_leave disk old → Stands old m → options_in new ≡ options_in old
      → is_disk why ≡ false → Commits (options_in old) m request new (Err why) → IsKept seen may_leave disk new
  kept_still disk old new m request why kept stands options_are other done =
      let now = not_committed (options_in old) m request old stands new why other done in
      kept_on disk old new kept (record { machine = m; stands = now }) options_are (now.at.journal ∙ sym stands.at.journal)

  module _ (moment : D → ℕ) (left_since : D → ℕ → List ℕ → Type 0) (disk : D) (only_now : (c : List ℕ) → left_since disk (moment disk) c → may_leave disk c) where
    -- where no call was made
    pub untouched : (s : Stored) (request : Request) → IsKept seen may_leave disk s
        → LeavesOnly moment left_since disk disk (IsJournalOrOneMore (options_in s) (requests_in s) request)
    untouched s request kept =
        started moment left_since disk (IsJournalOrOneMore (options_in s) (requests_in s) request) (λ c left. inl (kept_images disk s kept c (only_now c left)))
