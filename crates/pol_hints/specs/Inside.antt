-- How the fields of a queue and of a pass stand for what callers see.
use Rattle.std.specs.Prelude.{◌≡◌, ◌≤◌, ℕ, Option, List, [], false, length}
use Rattle.atomic_table.specs.Seated.{TableId}
use Rattle.pol_hints.specs.declared.standing.Standing.{Standing}
use Rattle.pol_hints.specs.History.{IsHistory, waiting}
use Rattle.pol_hints.specs.Passes.{Name, Pass, Queue}
use Rattle.pol_hints.specs.Shares.{IsPart}

abbrev pub name_of : TableId → ℕ → Name
name_of table room = record { table = table; room = room }

-- the queue in that table, with this room
abbrev pub queue_of : TableId → ℕ → Queue
queue_of table room = record { name = name_of table room; room = room }

-- the pass whose seat in that table knows this
abbrev pub pass_of : TableId → Standing → Pass
pass_of table v = record { queue = name_of table v.room; seen = v.seen; own = v.own; share = v.share }

-- Between calls no slot of the table is out with a pass, the hints aren't in its hands, and it has a share in its queue; what
-- it has seen is a history, at whose end no more hints wait than there is room
pub record IsAtRest {X : Type 0} (out : List (ℕ × Option X)) (v : Standing) : Type 0 where
  pub bare : out ≡ []
  pub rests : v.has ≡ false
  pub part : IsPart v.share
  pub legal : IsHistory v.seen
  pub few : length (waiting v.seen) ≤ v.room
