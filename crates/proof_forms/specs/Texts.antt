-- Rows as texts.
use Rattle.std.specs.Prelude.{ℕ, List, ◌++◌, codes}
use Rattle.std.specs.Fmt.{decimal}

-- a number and how often it came
abbrev pub row_text : ℕ → ℕ → List ℕ
row_text number count = decimal number ++ codes " x" ++ decimal count ++ codes ";"

abbrev pub list_text : ℕ → ℕ → List ℕ
list_text one other = row_text one 1 ++ row_text other 2
