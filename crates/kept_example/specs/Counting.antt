-- Disks that count their calls.
use Rattle.std.specs.Prelude.{◌≡◌, ℕ, ◌+◌}
use Rattle.pol_disk.specs.Calls.{Asked}

-- each call is one more
abbrev pub CountsOne : ℕ → Asked → ℕ → Type 0
CountsOne before call after = after ≡ before + 1

-- and none fails
abbrev pub NeverFails : ℕ → Asked → ℕ → Type 0
NeverFails before call after = ⊥
