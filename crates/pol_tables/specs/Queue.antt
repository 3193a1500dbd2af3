-- What a queue is seen as.
use Rattle.std.specs.Prelude.{ℕ, ◌+◌, List, ◌++◌, remove, slice_range}

-- the elements in their order, and for how many more there is room
pub record Queued (X : Type 0) : Type 0 where
  pub list : List X
  pub room : ℕ

-- the element at that place comes first, and the others behind it
abbrev pub first_comes : {X : Type 0} → ℕ → List X → List X
first_comes place items = slice_range items place (place + 1) ++ remove items place
