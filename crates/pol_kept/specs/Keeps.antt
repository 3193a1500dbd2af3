-- A machine and the disk with its journal.
use Rattle.std.specs.Prelude.{◌≡◌, ◌⊎◌, ℕ, ◌<◌, Bool, false, true, List, [], ◌∷◌, ◌++◌, length, take, None, Some, is_some, Result, Ok, Err}
use Rattle.pol_disk.specs.Images.{LeavesOnly, Only}
use Rattle.pol_history.specs.declared.machine.Event.{Event}
use Rattle.pol_history.specs.declared.machine.Event.TheVariants as step
use Rattle.pol_history.specs.declared.machine.Reply.{Reply}
use Rattle.pol_history.specs.declared.machine.Reply.TheVariants as reply
use Rattle.pol_history.specs.Machine.{Machine, step_of}
use Rattle.pol_journal.specs.Journal.{commits, journal_of}
use Rattle.pol_kept.specs.declared.config.KeptConfig.{KeptConfig}
use Rattle.pol_kept.specs.declared.error.KeptError.{KeptError}
use Rattle.pol_kept.specs.declared.error.KeptError.TheVariants as kept
use Rattle.pol_kept.specs.declared.error.OpenError.{OpenError}
use Rattle.pol_kept.specs.declared.error.OpenError.TheVariants as opened
use Rattle.pol_machine.specs.Serial.{machine_of}
use Rattle.pol_machine.specs.declared.asked.Asked.{Asked}
use Rattle.pol_machine.specs.declared.asked.Asked.TheVariants as question
use Rattle.pol_machine.specs.Stands.{Stands, StandsForSome, Stored, kept_of, options_in}
use Rattle.pol_model.specs.After.{start, state_of}
use Rattle.pol_model.specs.Fault.{fault_of}
use Rattle.pol_model.specs.declared.answer.Committed.{Committed}
use Rattle.pol_model.specs.declared.options.Options.{Options}
use Rattle.pol_model.specs.declared.request.Request.{Request}
use Rattle.pol_record_log.specs.Log.{AreRecords}
use Rattle.pol_record_log.specs.Steps.{EndsClosed, before_gate}

abbrev pub options_of : KeptConfig → Options
options_of config = record { mode = config.mode; localhost = config.localhost; map_max = Some config.map_max }

-- the requests that the machine has committed
abbrev pub requests_in : Stored → List Request
requests_in s = s.repo.journal

-- Between two calls: the machine stands for one of the definitions, the bytes on the disk are the records of its requests and a
-- closed gate behind them, and a crash leaves nothing else.
pub record IsKept {D : Type 0} (seen : D → List ℕ) (may_leave : D → List ℕ → Type 0) (disk : D) (s : Stored) : Type 0 where
  pub stands : StandsForSome (kept_of s)
  pub closed : EndsClosed (seen disk)
  pub records : AreRecords commits (start (options_in s)) (requests_in s) (before_gate (seen disk))
  pub only : Only (seen disk) (may_leave disk)

-- ---- opening

-- the machine is the one that committed these requests
pub record IsOpened (options : Options) (requests : List Request) (s : Stored) : Type 0 where
  pub options_are : options_in s ≡ options
  pub requests_are : requests_in s ≡ requests
  pub stands : Stands s (machine_of options requests)

-- where it isn't opened, and the reason is no fault of the disk or want of memory, the bytes are damaged at that gate
abbrev pub TellsDamage : Options → List ℕ → OpenError → Type 0
TellsDamage options bytes (opened.Damaged at) = journal_of options bytes ≡ Err at
TellsDamage options bytes opened.Disk = Unit {0}
TellsDamage options bytes opened.Memory = Unit {0}

-- The disk holds what it held, and a crash since then leaves what it might have left before.
pub record HoldsStill {D : Type 0} (seen : D → List ℕ) (may_leave : D → List ℕ → Type 0) (moment : D → ℕ)
    (left_since : D → ℕ → List ℕ → Type 0) (old new : D) : Type 0 where
  pub same : seen new ≡ seen old
  pub any_moment : LeavesOnly moment left_since old new (may_leave old)

-- so it does where a journal isn't opened, unless one of its calls failed
abbrev pub HoldsUnlessFailed : {D : Type 0} → (D → List ℕ) → (D → List ℕ → Type 0) → (D → ℕ) → (D → ℕ → List ℕ → Type 0)
    → D → OpenError → D → Type 0
HoldsUnlessFailed seen may_leave moment left_since old (opened.Damaged at) new = HoldsStill seen may_leave moment left_since old new
HoldsUnlessFailed seen may_leave moment left_since old opened.Disk new = Unit {0}
HoldsUnlessFailed seen may_leave moment left_since old opened.Memory new = HoldsStill seen may_leave moment left_since old new

-- a crash leaves a journal of the same requests, or one that is damaged at the same place
abbrev pub SameJournal : Options → List ℕ → List ℕ → Type 0
SameJournal options bytes c = journal_of options c ≡ journal_of options bytes

-- it leaves what it might have left before, or that
abbrev pub KeepsJournal : Options → List ℕ → (List ℕ → Type 0) → List ℕ → Type 0
KeepsJournal options bytes might_leave c = might_leave c ⊎ SameJournal options bytes c

-- ---- committing

-- the machine replies this to the request's commit, and has made that step
pub record Replies (options : Options) (m : Machine) (request : Request) (said : Reply) (new : Stored) : Type 0 where
  pub said_so : said ≡ (step_of options m (step.Commit request)).0
  pub stands : Stands new (step_of options m (step.Commit request)).1

-- What the machine has done by the end of a commit: the step, with the reply that is answered; where a call of the disk failed,
-- the step with some commit; and after want of memory nothing.
abbrev pub Commits : Options → Machine → Request → Stored → Result Committed KeptError → Type 0
Commits options m request new (Ok done) = Replies options m request (reply.Committed done) new
Commits options m request new (Err (kept.Refused refused)) = Replies options m request (reply.Refused refused) new
Commits options m request new (Err kept.Memory) = Stands new m
Commits options m request new (Err kept.Disk) = (done : Committed) × Replies options m request (reply.Committed done) new

-- ---- other events

-- an event that commits nothing
abbrev pub is_other : Event → Bool
is_other (step.Commit request) = false
is_other (step.Take slot) = true
is_other (step.Finish slot) = true
is_other (step.Look query) = true

-- a question that commits nothing
abbrev pub asks_other : Asked → Bool
asks_other (question.Commit request) = false
asks_other question.Sync = true
asks_other (question.Look query) = true
asks_other (question.Explain query) = true

-- ---- reading a journal again

-- The bytes before this place, where a gate stands, are the records of the requests that the machine has committed.
pub record IsReplayed (options : Options) (bytes : List ℕ) (at : ℕ) (s : Stored) : Type 0 where
  pub long : 1 < length bytes
  pub inside : at < length bytes
  pub records : AreRecords commits (start options) (requests_in s) (take at bytes)
  pub options_are : options_in s ≡ options
  pub stands : Stands s (machine_of options (requests_in s))

-- the machine has committed one request more, which had no fault
pub record IsOneMore (options : Options) (request : Request) (old new : Stored) : Type 0 where
  pub options_are : options_in new ≡ options
  pub no_fault : fault_of (state_of options (requests_in old)) request ≡ None
  pub requests_are : requests_in new ≡ requests_in old ++ request ∷ []
  pub stands : Stands new (machine_of options (requests_in new))

-- it has, or else it is as before, where the request has a fault
abbrev pub CommitsAgain : Options → Request → Stored → Stored → Bool → Type 0
CommitsAgain options request old new true = IsOneMore options request old new
CommitsAgain options request old new false = is_some (fault_of (state_of options (requests_in old)) request) ≡ true
