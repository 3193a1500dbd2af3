-- What callers see of the disk in memory.
use Rattle.std.specs.Prelude.{◌≡◌, ℕ, ◌+◌, ◌^◌, Bool, false, not, ◌||◌, nat_le, nat_lt, List, ◌∷◌, [], ◌++◌, length, Option, None, Some}
use Rattle.pol_streams.specs.Faults.{next_count}
use Rattle.pol_disk.specs.declared.call.DiskCall.{DiskCall}
use Rattle.pol_disk.specs.declared.call.DiskCall.TheVariants.{Write, Cut, Sync}
use Rattle.pol_disk.specs.Calls.{Asked, Reads, Writes, Cuts, Syncs}
use Rattle.pol_disk.specs.Record.{held}

pub record DiskState : Type 0 where
  -- what was done, the first of it first
  pub past : List DiskCall
  -- the number, from 1, of the call from which on all fail
  pub fails_from : Option ℕ
  -- how many calls there were
  pub calls : ℕ
  -- how many of them failed
  pub faults : ℕ
  -- whether one of them failed for want of memory
  pub starved : Bool

abbrev pub bytes_in : DiskState → List ℕ
bytes_in s = (held s.past).bytes

abbrev pub fails_at : Option ℕ → ℕ → Bool
fails_at None number = false
fails_at (Some first) number = nat_le first number

-- the next call fails by its number
abbrev pub is_stopped : DiskState → Bool
is_stopped s = fails_at s.fails_from (s.calls + 1)

-- a write of n bytes would end past byte 2^63
abbrev pub is_too_far : ℕ → ℕ → Bool
is_too_far at n = nat_lt (2 ^ 63) (at + n)

-- after a call that only read
abbrev pub counted : DiskState → DiskState
counted s = record s { calls = next_count s.calls }

-- after a call that did this
abbrev pub did : DiskCall → DiskState → DiskState
did call s = record s { past = s.past ++ call ∷ []; calls = next_count s.calls }

-- after a call that failed with nothing done; where it had no other reason, memory was wanting
abbrev pub failed : Bool → DiskState → DiskState
failed has_reason s = record s { calls = next_count s.calls; faults = next_count s.faults; starved = s.starved || not has_reason }

-- after a call that did what was asked
abbrev pub done : Asked → DiskState → DiskState
done (Reads at n) s = counted s
done (Writes at bytes) s = did (Write at bytes) s
done (Cuts len) s = did (Cut len) s
done Syncs s = did Sync s

-- the next call fails by its number, or asks for a write that would end past byte 2^63
abbrev pub is_barred : Asked → DiskState → Bool
is_barred (Reads at n) s = is_stopped s
is_barred (Writes at bytes) s = is_stopped s || is_too_far at (length bytes)
is_barred (Cuts len) s = is_stopped s
is_barred Syncs s = is_stopped s

-- a call that isn't barred did what was asked
abbrev pub Does : DiskState → Asked → DiskState → Type 0
Does old asked new = (is_barred asked old ≡ false) × (new ≡ done asked old)

-- a call failed, since it was barred or for want of memory
abbrev pub Fails : DiskState → Asked → DiskState → Type 0
Fails old asked new = new ≡ failed (is_barred asked old) old
