-- Passes of a queue of hints.
use Rattle.std.specs.Prelude.{ℕ, List}
use Rattle.pol_hints.specs.Passes.{Name, Pass, Queue}
use Rattle.pol_hints.specs.declared.standing.Share.{Share}
use Rattle.pol_hints.specs.declared.turn.Turn.{Turn}

-- a pass of this queue and share that has seen these turns, of which so many are its own
abbrev pub pass : Name → Share → List Turn → ℕ → Pass
pass queue share seen own = record { queue = queue; seen = seen; own = own; share = share }

-- the queue of this name, with room for so many hints
abbrev pub queue_with : ℕ → Name → Queue
queue_with room name = record { name = name; room = room }
