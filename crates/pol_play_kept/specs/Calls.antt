-- By which calls of a disk a script is played ('profile').
use Rattle.std.specs.Prelude.{◌≡◌, ℕ, ◌*◌, ◌<◌, ◌^◌, nat_le, Bool, if◌then◌else◌, List, ◌++◌, length, Some}
use Rattle.std.specs.List.{list_any}
use Rattle.pol_disk.specs.Calls.{Asked, Runs, StopsIn}
use Rattle.pol_disk.specs.Images.{Only}
use Rattle.pol_journal.specs.Journal.{asked_in, commits}
use Rattle.pol_kept.specs.Calls.{calls_of_commit, calls_of_open}
use Rattle.pol_model.specs.After.{start as first_state}
use Rattle.pol_model.specs.declared.options.Options.{Options}
use Rattle.pol_model.specs.declared.request.Request.{Request}
use Rattle.pol_record_log.specs.Log.{AreRecords}
use Rattle.pol_record_log.specs.Steps.{EndsClosed, before_gate}
use Rattle.pol_run.specs.Run.{is_marked}
use Rattle.pol_run.specs.Spots.{Reading}
use Rattle.pol_serial_run.specs.Accepted.{accepted}
use Rattle.pol_play_kept.specs.Played.{StopsAt}

-- how many calls open a journal on these bytes
abbrev pub calls_to_open : List ℕ → ℕ
calls_to_open bytes = if nat_le (length bytes) 1 then 3 else 4

-- how many keep these requests
abbrev pub calls_to_keep : List Request → ℕ
calls_to_keep requests = 4 * length requests

-- the bytes on the disk are the records of these requests and a closed gate behind them, and a crash leaves nothing else
pub record HoldsRecords {D : Type 0} (seen : D → List ℕ) (may_leave : D → List ℕ → Type 0) (options : Options) (requests : List Request) (disk : D) : Type 0 where
  pub closed : EndsClosed (seen disk)
  pub records : AreRecords commits (first_state options) requests (before_gate (seen disk))
  pub only : Only (seen disk) (may_leave disk)

module _ {D : Type 0} (does fails : D → Asked → D → Type 0) where
  -- so many calls were made, and no other, and each did what it should
  pub record RunsFor (count : ℕ) (old new : D) : Type 0 where
    pub calls : List Asked
    pub many : length calls ≡ count
    pub ran : Runs does fails old calls new

  -- of the calls that keep a line those up to one that failed were made
  pub record StopsKeeping (seen : D → List ℕ) (line : List ℕ) (old new : D) : Type 0 where
    pub short : length line < 2 ^ 32
    pub stops : StopsIn does fails old (calls_of_commit (seen old) line) new

  -- Lines were answered up to one at which the disk failed: four calls for each request that was accepted before, and then those of this
  -- line up to one that failed, over a disk with the records of the requests before.
  pub record StopsAtCall (seen : D → List ℕ) (may_leave : D → List ℕ → Type 0) (options : Options) (start : List Request) (readings : List Reading) (marked : Bool) (text : List ℕ)
      (old new : D) : Type 0 where
    pub at : StopsAt options start readings (may_leave new) text
    pub marked_is : marked ≡ list_any is_marked at.answers
    pub disk : D
    pub ran : RunsFor (calls_to_keep (accepted options start at.before)) old disk
    pub holds : HoldsRecords seen may_leave options (start ++ accepted options start at.before) disk
    pub line : List ℕ
    pub asked : asked_in line ≡ Some at.line.request
    pub keeping : StopsKeeping seen line disk new

  -- the same, behind the calls that opened the journal
  pub record StopsOnceOpened (seen : D → List ℕ) (may_leave : D → List ℕ → Type 0) (options : Options) (start : List Request) (readings : List Reading) (marked : Bool)
      (text : List ℕ) (old new : D) : Type 0 where
    pub disk : D
    pub opened : Runs does fails old (calls_of_open (seen old)) disk
    pub stops : StopsAtCall seen may_leave options start readings marked text disk new
