use Rattle.std.proofs.Common.{◌≡◌, ◌++◌, take}
use Rattle.pol_connection_text.specs.Text.{connections_text}
use Rattle.pol_connection_text.proofs.text.connections_text.Given as goal

-- behind the text stand the lines of the connections so far
abbrev pub invariant-loop-connection : goal.invariant-loop-connection
invariant-loop-connection l = l.text.items ≡ l.fn.text.items ++ connections_text (take l.connection-index l.connections)
