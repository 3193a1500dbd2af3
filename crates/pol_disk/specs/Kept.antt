-- What the disk in memory keeps beside its record.
use Rattle.std.specs.Prelude.{◌≡◌, ◌≤◌, ℕ, Bool, false, List, length, take}
use Rattle.pol_disk.specs.declared.call.DiskCall.{DiskCall}
use Rattle.pol_disk.specs.Record.{IsSettled, held}

pub record Keeps (past : List DiskCall) (bytes synced : List ℕ) (alike : ℕ) (dirty : Bool) : Type 0 where
  pub bytes_are : bytes ≡ (held past).bytes
  pub synced_are : synced ≡ (held past).synced
  -- both are alike below this place
  pub in_bytes : alike ≤ length bytes
  pub in_synced : alike ≤ length synced
  pub alike_below : take alike bytes ≡ take alike synced
  -- nothing was done since the last sync
  pub calm : dirty ≡ false → IsSettled bytes past
