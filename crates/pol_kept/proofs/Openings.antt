-- What opening finds, for a machine before its first step.
use Rattle.std.proofs.Common.{◌≡◌, ⊎_elim, ◌<◌, ◌≤◌, ◌+◌, ℕ, nat_le, Bool, true, false, if◌then◌else◌, List, [], ◌∷◌, length, take, slice_index, Ok, refl, sym, ap, ◌∙◌, subst, arith}
use Rattle.std.proofs.lemmas.Bool.Decides.{nat_tests}
use Rattle.pol_disk.specs.Images.{CutShort, LeavesOnly, Only}
use Rattle.pol_disk.proofs.Moments.{joined, started, widened}
use Rattle.pol_history.specs.Machine.{machine_start}
use Rattle.pol_journal.specs.Journal.{IsJournal, commits, journal_of}
use Rattle.pol_kept.specs.Keeps.{HoldsStill, HoldsUnlessFailed, IsKept, IsOpened, IsReplayed, SameJournal, requests_in}
use Rattle.pol_kept.specs.declared.error.OpenError.{OpenError}
use Rattle.pol_kept.specs.declared.error.OpenError.TheVariants as opened
use Rattle.pol_kept.proofs.Disks.{on_disk}
use Rattle.pol_kept.proofs.Records.{closed_kept, ended, ends_here, kept_journal}
use Rattle.pol_machine.specs.Serial.{machine_of}
use Rattle.pol_machine.specs.Stands.{Stands, Stored, options_in}
use Rattle.pol_model.specs.After.{start}
use Rattle.pol_model.specs.declared.options.Options.{Options}
use Rattle.pol_model.specs.declared.request.Request.{Request}
use Rattle.pol_record_log.specs.Log.{AreRecords, last_gate, requests_in as log_requests}
use Rattle.pol_record_log.specs.Steps.{IsOnDisk, cut_to_log}

short_journal : (options : Options) (bytes : List ℕ) → length bytes ≤ 1 → journal_of options bytes ≡ Ok []
short_journal options bytes short =
    ap (λ (b : Bool). if b then Ok [] else log_requests commits (length bytes) (start options) 0 bytes) (le_test (length bytes) 1 short)
  where
    le_test : (m n : ℕ) → m ≤ n → nat_le m n ≡ true
    le_test m n le = grind (arith, nat_tests)

-- an empty journal that is made over at most one byte
pub short_cut : (bytes now : List ℕ) → length bytes ≤ 1 → now ≡ 0 ∷ [] → now ≡ cut_to_log bytes
short_cut bytes now short made =
    made ∙ sym (ap (λ (b : Bool). if b then (0 ∷ []) else take (last_gate bytes + 1) bytes) (le_test (length bytes) 1 short))
  where
    le_test : (m n : ℕ) → m ≤ n → nat_le m n ≡ true
    le_test m n le = grind (arith, nat_tests)

-- two journals of at most one byte are one journal
pub short_same : (options : Options) (old c : List ℕ) → length old ≤ 1 → length c ≤ 1 → SameJournal options old c
short_same options old c short now = short_journal options c now ∙ sym (short_journal options old short)

module _ (s : Stored) (fresh : Stands s machine_start) where
  none_yet : requests_in s ≡ []
  none_yet = fresh.at.journal

  fresh_stands : Stands s (machine_of (options_in s) (requests_in s))
  fresh_stands = subst (λ (rs : List Request). Stands s (machine_of (options_in s) rs)) (sym none_yet) fresh

  pub fresh_opened : IsOpened (options_in s) (requests_in s) s
  fresh_opened = record { options_are = refl; requests_are = refl; stands = fresh_stands }

  pub fresh_journal : (bytes : List ℕ) → length bytes ≤ 1 → IsJournal (options_in s) (requests_in s) bytes
  fresh_journal bytes short = short_journal (options_in s) bytes short ∙ ap (λ (rs : List Request). Ok rs) (sym none_yet)

  pub fresh_kept : {D : Type 0} (seen : D → List ℕ) (may_leave : D → List ℕ → Type 0) (disk : D) → IsOnDisk seen may_leave disk (0 ∷ []) → IsKept seen may_leave disk s
  fresh_kept seen may_leave disk there =
      on_disk seen may_leave disk s (options_in s) [] (0 ∷ []) (record { machine = machine_start; stands = fresh }) refl none_yet (closed_kept (options_in s) [] [] refl) there

  pub fresh_replayed : (bytes : List ℕ) → 1 < length bytes → IsReplayed (options_in s) bytes 0 s
  fresh_replayed bytes long = record {
    long = long;
    inside = omega arith;
    records = subst (λ (rs : List Request). AreRecords commits (start (options_in s)) rs (take 0 bytes)) (sym none_yet) refl;
    options_are = refl;
    stands = fresh_stands;
  }

-- ---- a journal that was read to its closed gate

module _ (options : Options) (bytes : List ℕ) (end : ℕ) (new : Stored) (read : IsReplayed options bytes end new) (shut : slice_index bytes end ≡ 0) where
  pub read_opened : IsOpened options (requests_in new) new
  read_opened = record { options_are = read.options_are; requests_are = refl; stands = read.stands }

  pub read_journal : IsJournal options (requests_in new) bytes
  read_journal = (ended options bytes end new read shut).0

  pub cut_kept : {D : Type 0} (seen : D → List ℕ) (may_leave : D → List ℕ → Type 0) (disk : D) → IsOnDisk seen may_leave disk (take (end + 1) bytes) → IsKept seen may_leave disk new
  cut_kept seen may_leave disk there =
      on_disk seen may_leave disk new options (requests_in new) (take (end + 1) bytes) (record { machine = machine_of options (requests_in new); stands = read.stands })
      read.options_are refl (ended options bytes end new read shut).1 there

  -- the cut is made where the journal ends
  pub cut_place : end + 1 ≡ last_gate bytes + 1
  cut_place = ap (λ (n : ℕ). n + 1) (sym (ends_here options bytes end new read shut))

  pub cut_read : take (end + 1) bytes ≡ cut_to_log bytes
  cut_read =
      ap (λ (n : ℕ). take n bytes) cut_place
      ∙ sym (ap (λ (b : Bool). if b then (0 ∷ []) else take (last_gate bytes + 1) bytes) (not_le (length bytes) 1 read.long))
    where
      not_le : (m n : ℕ) → n < m → nat_le m n ≡ false
      not_le m n less = grind (arith, nat_tests)

  pub while_cut : (c : List ℕ) → CutShort (end + 1) bytes c → SameJournal options bytes c
  while_cut c cut = ⊎_elim
      (λ same. ap (journal_of options) same)
      (λ less. ap (journal_of options) less ∙ kept_journal options (requests_in new) (take (end + 1) bytes) (ended options bytes end new read shut).1 ∙ sym read_journal)
      cut

-- ---- a crash

module _ {D : Type 0} (may_leave : D → List ℕ → Type 0) (options : Options) (bytes : List ℕ) (disk : D) (settled : Only bytes (may_leave disk)) where
  -- bytes that are on the disk
  pub left_same : (c : List ℕ) → may_leave disk c → SameJournal options bytes c
  left_same c left = ap (journal_of options) (settled c left)

  -- where no call was made
  pub still_same : (moment : D → ℕ) (left_since : D → ℕ → List ℕ → Type 0) → ((c : List ℕ) → left_since disk (moment disk) c → may_leave disk c)
      → LeavesOnly moment left_since disk disk (SameJournal options bytes)
  still_same moment left_since only_now = started moment left_since disk (SameJournal options bytes) (λ c left. left_same c (only_now c left))

-- ---- an opening that failed behind a sync

module _ {D : Type 0} (seen : D → List ℕ) (may_leave : D → List ℕ → Type 0) (moment : D → ℕ) (left_since : D → ℕ → List ℕ → Type 0)
    (old between new : D) (there : IsOnDisk seen may_leave between (seen old)) (stay : may_leave old (seen old)) (leaves : LeavesOnly moment left_since old between (may_leave old)) where
  holds_still : HoldsStill seen may_leave moment left_since between new → HoldsStill seen may_leave moment left_since old new
  holds_still holds = record {
    same = holds.same ∙ there.read;
    any_moment =
        joined moment left_since old between new (may_leave old) leaves
        (widened moment left_since between new (may_leave between) (may_leave old) holds.any_moment
        (λ c left. subst (may_leave old) (sym (there.only c left)) stay));
  }

  -- the disk holds what it held before the sync
  pub holds_behind : (why : OpenError) → HoldsUnlessFailed seen may_leave moment left_since between why new → HoldsUnlessFailed seen may_leave moment left_since old why new
  holds_behind (opened.Damaged at) holds = holds_still holds
  holds_behind opened.Disk holds = holds
  holds_behind opened.Memory holds = holds_still holds
