-- A record of a log: four bytes of length, the most significant first, and so many bytes of a line. A gate of one byte stands before
-- it and behind it ('profile').
use Rattle.std.specs.Prelude.{ℕ, ◌+◌, Bool, nat_lt, List, ◌++◌, length, take, drop}
use Rattle.std.specs.Int.{from_be_bytes, to_be_bytes, w32}

-- a line as its record has it
abbrev pub record_of : List ℕ → List ℕ
record_of line = to_be_bytes w32 (length line) ++ line

-- ---- what stands behind an open gate

-- how many bytes its line has
abbrev pub size : List ℕ → ℕ
size behind = from_be_bytes w32 (take 4 behind)

abbrev pub line_in : List ℕ → List ℕ
line_in behind = take (size behind) (drop 4 behind)

-- from the next gate on
abbrev pub next_in : List ℕ → List ℕ
next_in behind = drop (4 + size behind) behind

-- the record and the next gate lie in the bytes
abbrev pub is_whole : List ℕ → Bool
is_whole behind = nat_lt (4 + size behind) (length behind)
