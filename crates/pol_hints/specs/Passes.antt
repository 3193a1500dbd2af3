-- The words of the contracts: a queue and a pass as callers see them, of which queue a pass is one, and what a call adds.
use Rattle.std.specs.Prelude.{◌≡◌, ◌<◌, ◌≤◌, ℕ, ◌+◌, ◌-◌, List, [], ◌∷◌, ◌++◌, ◌⊎◌, length}
use Rattle.std.specs.List.{AllByRecursion, range_with_len}
use mathlib.Core.List.{IsPrefix}
use Rattle.atomic_table.specs.Seated.{TableId}
use Rattle.pol_hints.specs.declared.standing.Share.{Share}
use Rattle.pol_hints.specs.declared.turn.Turn.{Turn}
use Rattle.pol_hints.specs.History.{IsHistory, hints_put, hints_taken, puts, waiting}
use Rattle.pol_hints.specs.Shares.{IsAll, IsPart}

-- what tells a queue from every other one; its parts mean nothing to callers
pub record Name : Type 0 where
  pub table : TableId
  pub room : ℕ

-- a queue of hints: its name, and how many hints it has room for
pub record Queue : Type 0 where
  pub name : Name
  pub room : ℕ

-- a pass: of which queue it is one, the history that it has seen, how many turns of the history are its own, and the share
-- that it has in the queue
pub record Pass : Type 0 where
  pub queue : Name
  pub seen : List Turn
  pub own : ℕ
  pub share : Share

-- the pass is the only one of its queue: it was never split, or all that were split off were joined again
abbrev pub IsOnly : Pass → Type 0
IsOnly p = IsAll p.share

-- the pass is one of this queue, and has a share in it; what it has seen is a history of a queue, at whose end no more hints
-- wait than there is room
pub record IsHintPassOf (hints : Queue) (p : Pass) : Type 0 where
  pub queue : p.queue ≡ hints.name
  pub part : IsPart p.share
  pub legal : IsHistory p.seen
  pub few : length (waiting p.seen) ≤ hints.room

-- the pass made one turn more: the last of what it has then seen, behind all that came before it, and one more of its own.
-- Where it is the only pass, nothing came between
pub record Adds (turn : Turn) (before after : Pass) : Type 0 where
  pub so_far : List Turn
  pub past : IsPrefix before.seen so_far
  pub last : after.seen ≡ so_far ++ turn ∷ []
  pub own : after.own ≡ before.own + 1
  pub only : IsOnly before → so_far ≡ before.seen

-- a refused call showed its pass all that had come until one moment, and this is so of the hints that waited then. It made
-- no turn. Where it is the only pass, nothing had come
pub record Sees (So : List ℕ → Type 0) (before after : Pass) : Type 0 where
  pub past : IsPrefix before.seen after.seen
  pub so : So (waiting after.seen)
  pub own : after.own ≡ before.own
  pub only : IsOnly before → after.seen ≡ before.seen

-- the slots below a number: those from the first one on, and then those before it
abbrev pub one_round : ℕ → ℕ → List ℕ
one_round first slots = range_with_len first (slots - first) ++ range_with_len 0 first

-- One hint for each slot below a number was put, from some slot on and then for those before it, until the queue was full: all
-- of them, or as many waited behind the last one as there is room. They are the last of what the pass has then seen, behind
-- all that came before them. Where it is the only pass, nothing came between
pub record PutsRound (room slots : ℕ) (before after : Pass) : Type 0 where
  pub so_far : List Turn
  pub past : IsPrefix before.seen so_far
  pub first : ℕ
  pub within : first ≤ slots
  pub put : List ℕ
  pub begun : IsPrefix put (one_round first slots)
  pub last : after.seen ≡ so_far ++ puts put
  pub own : after.own ≡ before.own + length put
  pub all : (put ≡ one_round first slots) ⊎ (length (waiting after.seen) ≡ room)
  pub only : IsOnly before → so_far ≡ before.seen

-- between these two states of a pass hints were put, each of a slot below this number, and none was taken
pub record HintsBelow (slots : ℕ) (before after : Pass) : Type 0 where
  pub put : List ℕ
  pub below : AllByRecursion (λ slot. slot < slots) put
  pub puts : hints_put after.seen ≡ hints_put before.seen ++ put
  pub takes_none : hints_taken after.seen ≡ hints_taken before.seen
