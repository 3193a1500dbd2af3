-- The calls of a disk by which a journal is opened, and a request is kept ('profile').
use Rattle.std.specs.Prelude.{ℕ, ◌+◌, nat_le, if◌then◌else◌, List, [], ◌∷◌, ◌++◌, length, take}
use Rattle.pol_disk.specs.Calls.{Asked, Reads, Cuts, Syncs, Runs, StopsIn}
use Rattle.pol_kept.specs.declared.error.OpenError.{OpenError}
use Rattle.pol_kept.specs.declared.error.OpenError.TheVariants as opened
use Rattle.pol_record_log.specs.Log.{last_gate}
use Rattle.pol_record_log.specs.Records.{record_of}
use Rattle.pol_record_log.specs.Steps.{calls_of_append, calls_of_start}

-- behind these bytes the line's record is put, with a closed gate behind it
abbrev pub calls_of_commit : List ℕ → List ℕ → List Asked
calls_of_commit bytes line = calls_of_append (length bytes) (record_of line ++ 0 ∷ [])

-- Once these bytes are synced: where there is at most one, an empty journal is made; otherwise all are read, cut behind the closed
-- gate that ends the journal, and synced.
abbrev pub calls_of_synced : List ℕ → List Asked
calls_of_synced bytes = if nat_le (length bytes) 1 then calls_of_start else (Reads 0 (length bytes) ∷ Cuts (last_gate bytes + 1) ∷ Syncs ∷ [])

-- these bytes are synced, and then that is done
abbrev pub calls_of_open : List ℕ → List Asked
calls_of_open bytes = Syncs ∷ calls_of_synced bytes

-- these bytes are synced and read
abbrev pub calls_of_reading : List ℕ → List Asked
calls_of_reading bytes = Syncs ∷ Reads 0 (length bytes) ∷ []

module _ {D : Type 0} (does fails : D → Asked → D → Type 0) where
  -- What was called where an opening ended with this error: the calls of reading, where the bytes that were read are damaged; of
  -- all that an opening makes, those up to one that failed; and at want of memory the first of the calls of reading.
  abbrev pub FailsToOpen : List Asked → List Asked → D → OpenError → D → Type 0
  FailsToOpen reading all old (opened.Damaged at) new = Runs does fails old reading new
  FailsToOpen reading all old opened.Disk new = StopsIn does fails old all new
  FailsToOpen reading all old opened.Memory new = (count : ℕ) × Runs does fails old (take count reading) new

  -- that, over these bytes
  abbrev pub StopsOpening : List ℕ → D → OpenError → D → Type 0
  StopsOpening bytes old why new = FailsToOpen (calls_of_reading bytes) (calls_of_open bytes) old why new
