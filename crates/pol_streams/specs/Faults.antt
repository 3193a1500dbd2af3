-- Counts of calls and of faults.
use Rattle.std.specs.Prelude.{◌≢◌, ℕ, ◌+◌, ◌-◌, ◌^◌, ◌<◌, min}

-- A count rose between two moments. One that stood at the end of a u64 is taken as risen, since it can't rise.
abbrev pub Rose : ℕ → ℕ → Type 0
Rose before after = before ≢ 2 ^ 64 - 1 → before < after

-- It is known not to have risen: it stayed, and could have risen.
abbrev pub DidNotRise : ℕ → ℕ → Type 0
DidNotRise before after = Rose before after → ⊥

-- one more; at the end of a u64 a count stands still
abbrev pub next_count : ℕ → ℕ
next_count n = min (n + 1) (2 ^ 64 - 1)
