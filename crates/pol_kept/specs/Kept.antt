-- What callers see of a kept machine.
use Rattle.std.specs.Prelude.{Bool, Result, Ok, Err}
use Rattle.pol_kept.specs.declared.error.Closed.{Closed}
use Rattle.pol_machine.specs.Stands.{Stored}

-- the disk, the machine, and whether a call of the disk has failed
pub record KeptState (D : Type 0) : Type 0 where
  pub disk : D
  pub machine : Stored
  pub lost : Bool

-- the disk after opening, which is given back where it isn't opened
abbrev pub disk_after : {D : Type 0} → Result (KeptState D) (Closed D) → D
disk_after (Ok kept) = kept.disk
disk_after (Err closed) = closed.disk
