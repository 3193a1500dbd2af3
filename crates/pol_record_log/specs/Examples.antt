-- Small logs: of numbers, each above the one before it.
use Rattle.std.specs.Prelude.{ℕ, nat_le, List, [], ◌∷◌, Option, None, Some}
use Rattle.pol_record_log.specs.Log.{Meaning}

-- a line of one byte asks the number that it is
abbrev pub number_of : List ℕ → Option ℕ
number_of [] = None
number_of (n ∷ []) = Some n
number_of (a ∷ b ∷ others) = None

-- a number has a fault where it isn't above the last one
abbrev pub rising : Meaning ℕ ℕ
rising = record { asked_in = number_of; has_fault = λ last n. nat_le n last; after = λ last n. n }
