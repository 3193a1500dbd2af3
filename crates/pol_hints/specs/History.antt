-- The history of a queue of hints: its turns, in the order in which they took effect.
use Rattle.std.specs.Prelude.{◌≡◌, ℕ, nat_le, List, [], ◌∷◌, ◌++◌, length, drop, if◌then◌else◌}
use Rattle.pol_hints.specs.declared.turn.Turn.{Turn}
use Rattle.pol_hints.specs.declared.turn.Turn.TheVariants.{Put, Taken}

-- the hints that wait after a turn, where these waited before it, the oldest first
abbrev pub waiting_after : List ℕ → Turn → List ℕ
waiting_after hints (Put slot) = hints ++ slot ∷ []
waiting_after hints (Taken slot) = drop 1 hints

abbrev pub waiting_from : List ℕ → List Turn → List ℕ
waiting_from hints [] = hints
waiting_from hints (turn ∷ turns) = waiting_from (waiting_after hints turn) turns

-- the hints that wait at the end of a history
abbrev pub waiting : List Turn → List ℕ
waiting history = waiting_from [] history

-- where these hints wait, a queue may make this turn: what it gives is the oldest of them
abbrev pub MayCome : List ℕ → Turn → Type 0
MayCome hints (Put slot) = Unit {0}
MayCome hints (Taken slot) = hints ≡ slot ∷ drop 1 hints

abbrev pub MayComeFrom : List ℕ → List Turn → Type 0
MayComeFrom hints [] = Unit {0}
MayComeFrom hints (turn ∷ turns) = MayCome hints turn × MayComeFrom (waiting_after hints turn) turns

-- each turn is one that a queue may make there
abbrev pub IsHistory : List Turn → Type 0
IsHistory history = MayComeFrom [] history

-- the hints that were put; those that were taken
abbrev pub hints_put : List Turn → List ℕ
hints_put [] = []
hints_put (Put slot ∷ turns) = slot ∷ hints_put turns
hints_put (Taken slot ∷ turns) = hints_put turns

abbrev pub hints_taken : List Turn → List ℕ
hints_taken [] = []
hints_taken (Put slot ∷ turns) = hints_taken turns
hints_taken (Taken slot ∷ turns) = slot ∷ hints_taken turns

-- the turns by which these hints are put, one behind the other; those by which they are taken
abbrev pub puts : List ℕ → List Turn
puts [] = []
puts (slot ∷ slots) = Put slot ∷ puts slots

abbrev pub takes : List ℕ → List Turn
takes [] = []
takes (slot ∷ slots) = Taken slot ∷ takes slots

-- what either of two passes has seen
abbrev pub longer : List Turn → List Turn → List Turn
longer a b = if nat_le (length a) (length b) then b else a

-- what both of them have seen
abbrev pub shorter : List Turn → List Turn → List Turn
shorter a b = if nat_le (length a) (length b) then a else b
