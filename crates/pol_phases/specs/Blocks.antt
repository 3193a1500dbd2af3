-- The entries of a queue in blocks.
use Rattle.std.specs.Prelude.{List}
use Rattle.std.specs.List.{flat_map}

-- the entries of the blocks, one after another
abbrev pub entries_in : {X : Type 0} → List (List X) → List X
entries_in blocks = flat_map (λ block. block) blocks
