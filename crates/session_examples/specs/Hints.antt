-- Passes of a queue of hints.
use Rattle.std.specs.Prelude.{ℕ, List}
use Rattle.pol_hints.specs.Passes.{Name, Pass}
use Rattle.pol_hints.specs.declared.standing.Share.{Share}
use Rattle.pol_hints.specs.declared.turn.Turn.{Turn}

-- a pass of this queue and share that has seen these turns, of which so many are its own
abbrev pub pass : Name → Share → List Turn → ℕ → Pass
pass queue share seen own = record { queue = queue; seen = seen; own = own; share = share }
