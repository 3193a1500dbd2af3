-- The numbers of the generator (Knuth's MMIX, of 64 bits).
use Rattle.std.specs.Prelude.{ℕ, zero, suc, ◌+◌, ◌*◌, ◌/◌, ◌%◌, ◌^◌}

abbrev pub next : ℕ → ℕ
next x = (x * 6364136223846793005 + 1442695040888963407) % 2 ^ 64

-- the number after so many draws
unfoldable pub after : ℕ → ℕ → ℕ
after zero x = x
after (suc count) x = next (after count x)

-- what the draw gives that comes after so many others: a number below the bound
abbrev pub drawn : ℕ → ℕ → ℕ → ℕ
drawn others x bound = next (after others x) / 2 ^ 33 % bound
