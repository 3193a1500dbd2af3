-- A run of operations, one after another.
use Rattle.std.specs.Prelude.{⊤, List, [], ◌∷◌}

-- each operation is such where its turn comes
abbrev pub EachInTurn : {S O : Type 0} → (S → O → S) → (S → O → Type 0) → S → List O → Type 0
EachInTurn after P s [] = ⊤
EachInTurn after P s (o ∷ os) = P s o × EachInTurn after P (after s o) os
