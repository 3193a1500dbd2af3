use Rattle.std.proofs.Common.{◌≡◌, ◌++◌, take}
use Rattle.pol_connection_text.specs.Text.{names_text}
use Rattle.pol_connection_text.proofs.text.names_text.Given as goal

-- behind the text stand the lines of the names so far
abbrev pub invariant-loop-name : goal.invariant-loop-name
invariant-loop-name l = l.text.items ≡ l.fn.text.items ++ names_text l.side (take l.name-index l.names)
