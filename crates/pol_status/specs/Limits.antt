-- The limits of a script ('profile').
use Rattle.std.specs.Prelude.{ℕ, ◌||◌, not, nat_lt, Bool, List, length}
use Rattle.pol_script.specs.Lines.{lines_of}

-- the most bytes and the most lines of a script
abbrev pub input_max : ℕ
input_max = 67108864

abbrev pub lines_max : ℕ
lines_max = 1000000

abbrev pub is_too_long : List ℕ → Bool
is_too_long script = nat_lt input_max (length script) || nat_lt lines_max (length (lines_of script))

abbrev pub fits_limits : List ℕ → Bool
fits_limits script = not (is_too_long script)
