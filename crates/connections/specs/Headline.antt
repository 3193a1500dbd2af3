-- What the program promises of what it wrote, and how it ended.
use Rattle.std.specs.Prelude.{◌≡◌, ℕ, List, Option}
use Rattle.std.specs.Io.KnownBytes.{Appends}
use Rattle.pol_command_line.specs.declared.connections.ConnectionWords.{ConnectionWords}
use Rattle.connections.specs.Told.{told_status, told_text}

-- What was written is the text of the definition, which scans all rules for each pair of ends, protocol and port; and the
-- status is 1 where a line was refused, else 3 where something changes, else 0.
pub record WritesConnections (asked : ConnectionWords) (old new : Option (List ℕ)) (input : List ℕ) (status : ℕ) : Type 0 where
  pub written : Appends old new (told_text asked input)
  pub marked : status ≡ told_status asked input
