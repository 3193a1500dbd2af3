-- The lines of a script: it is cut at each newline byte, and a last piece without one is a line if it
-- isn't empty.
use Rattle.std.specs.Prelude.{ℕ, ◌==◌, Bool, not, if◌then◌else◌, List, [], ◌∷◌, ◌++◌}
use Rattle.std.specs.List.{list_all}

abbrev pub newline : ℕ
newline = 10

-- the bytes of a line so far, where some have come
abbrev pub last_line : List ℕ → List (List ℕ)
last_line [] = []
last_line (byte ∷ bytes) = (byte ∷ bytes) ∷ []

-- the lines, where `begun` are the bytes of the first one that have come
abbrev pub lines_from : List ℕ → List ℕ → List (List ℕ)
lines_from begun [] = last_line begun
lines_from begun (byte ∷ bytes) =
    if byte == newline then begun ∷ lines_from [] bytes else lines_from (begun ++ byte ∷ []) bytes

abbrev pub lines_of : List ℕ → List (List ℕ)
lines_of bytes = lines_from [] bytes

-- ---- what the laws of lines speak of

-- a line with its newline
abbrev pub ended : List ℕ → List ℕ
ended line = line ++ newline ∷ []

abbrev pub is_newline : ℕ → Bool
is_newline byte = byte == newline

-- no byte is a newline
abbrev pub is_one_line : List ℕ → Bool
is_one_line bytes = list_all (λ byte. not (is_newline byte)) bytes
