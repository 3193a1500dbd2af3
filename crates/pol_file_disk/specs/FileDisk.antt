-- What callers see of a file as a disk.
use Rattle.std.specs.Prelude.{◌≡◌, ℕ}
use Rattle.pol_streams.specs.Faults.{Rose, next_count}
use Rattle.pol_disk.specs.Calls.{Asked}
use Rattle.pol_disk.specs.MemDisk as memory
use Rattle.pol_disk.specs.MemDisk.{DiskState}

-- the disk in memory that has done what was asked of the file, and the counts
pub record FileState : Type 0 where
  pub mirror : DiskState
  -- how many calls there were
  pub calls : ℕ
  -- how many of them failed
  pub faults : ℕ

-- the call counts, and the disk in memory did what was asked
abbrev pub Does : FileState → Asked → FileState → Type 0
Does old asked new = (new.calls ≡ next_count old.calls) × memory.Does old.mirror asked new.mirror

-- the call counts, and is a fault
abbrev pub Fails : FileState → Asked → FileState → Type 0
Fails old asked new = (new.calls ≡ next_count old.calls) × Rose old.faults new.faults
