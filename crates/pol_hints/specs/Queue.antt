-- The rule of a queue of hints that threads share, and what its steps tell. The hints that wait lie in the one place of a table.
-- Whoever has to put or to take them takes all of them up there, and nobody else has them until they are laid down again.
use Rattle.std.specs.Prelude.{◌≡◌, ◌≤◌, ℕ, ◌+◌, List, [], ◌∷◌, ◌++◌, ◌⊎◌, Bool, true, false, length, take, drop}
use mathlib.Core.List.{IsPrefix}
use mathlib.Core.Option.{some}
use lib.ListN.{get_elem?}
use Rattle.circular_buffer.specs.Buffer.{Buffer, buffer}
use Rattle.pol_hints.specs.declared.standing.Share.{Share}
use Rattle.pol_hints.specs.declared.standing.Standing.{Standing}
use Rattle.pol_hints.specs.declared.turn.Turn.{Turn}
use Rattle.pol_hints.specs.History.{IsHistory, longer, puts, shorter, takes, waiting}
use Rattle.pol_hints.specs.Shares.{AreShares, IsAll, IsPart, half, no_share, together, whole_share}

-- a pass without the hints in its hands
abbrev pub standing : List Turn → ℕ → Share → ℕ → Standing
standing seen own share room = record { seen = seen; met = []; own = own; share = share; has = false; room = room }

-- What a pass knows: a beginning of the history, which goes on from what both of two joined passes had seen. One that has the
-- hints in its hands has seen all, and one that has a share knows the room
pub record HasSeen (history : List Turn) (room : ℕ) (v : Standing) : Type 0 where
  pub past : IsPrefix v.seen history
  pub met : IsPrefix v.met v.seen
  pub all : v.has ≡ true → v.seen ≡ history
  pub within : IsPart v.share → v.room ≡ room

-- some pass that has a share has seen all
pub record IsKnown (history : List Turn) (views : List Standing) : Type 0 where
  pub port : ℕ
  pub by : Standing
  pub at : get_elem? views port ≡ some by
  pub part : IsPart by.share
  pub knows : by.seen ≡ history

-- how many turns the passes have made
abbrev pub all_own : List Standing → ℕ
all_own [] = 0
all_own (v ∷ views) = v.own + all_own views

-- how many passes have the hints in their hands
abbrev pub one_if : Bool → ℕ
one_if true = 1
one_if false = 0

abbrev pub all_having : List Standing → ℕ
all_having [] = 0
all_having (v ∷ views) = one_if v.has + all_having views

-- Each pass has seen a beginning of the history, and some pass that has a share has seen all. Each turn is of one pass. The
-- passes share the queue.
pub record AreOf (history : List Turn) (room : ℕ) (views : List Standing) : Type 0 where
  pub each : (port : ℕ) (v : Standing) → get_elem? views port ≡ some v → HasSeen history room v
  pub known : IsKnown history views
  pub own : all_own views ≡ length history
  pub shares : AreShares views

-- what lies in the place are the hints that wait at the end of the history
abbrev pub Lie : List Turn → ℕ → List (Buffer ℕ) → Type 0
Lie history room [] = Unit {0}
Lie history room (x ∷ items) = (x ≡ buffer (waiting history) room) × Lie history room items

-- **The rule of the queue.** There is one history, each turn of which is one that a queue may make there. The passes know
-- it. The hints that wait at its end lie in their place, or one pass has them in its hands.
pub record IsQueue (items : List (Buffer ℕ)) (views : List Standing) : Type 0 where
  pub history : List Turn
  pub room : ℕ
  pub legal : IsHistory history
  pub lie : Lie history room items
  pub one : length items + all_having views ≡ 1
  pub passes : AreOf history room views

-- of these hints so many were put behind those that waited as there was room for
pub record PutsSome (slots : List ℕ) (old new : Buffer ℕ) : Type 0 where
  pub put : List ℕ
  pub begun : IsPrefix put slots
  pub items : new.items ≡ old.items ++ put
  pub capacity : new.capacity ≡ old.capacity
  pub all : (put ≡ slots) ⊎ (length new.items ≡ new.capacity)

-- ---- what steps tell

-- the pass took up the hints that wait, and has seen all that came before; one with the whole share had seen it
pub record HasTakenUp (before : Standing) (x : Buffer ℕ) (after : Standing) : Type 0 where
  pub seen : List Turn
  pub past : IsPrefix before.seen seen
  pub legal : IsHistory seen
  pub hints : x ≡ buffer (waiting seen) before.room
  pub only : IsAll before.share → seen ≡ before.seen
  pub is : after ≡ record { seen = seen; met = []; own = before.own; share = before.share; has = true; room = before.room }

-- the pass that has the hints in its hands made these turns, and laid down what waits then
abbrev pub laid : Standing → List Turn → ℕ → Standing
laid v turns room = standing (v.seen ++ turns) (v.own + length turns) v.share room

-- what lies behind the hints that waited was put
abbrev pub TellsPuts : Standing → Buffer ℕ → Standing → Type 0
TellsPuts before x after = after ≡ laid before (puts (drop (length (waiting before.seen)) x.items)) before.room

-- the first hint that waited was taken
abbrev pub TellsTaken : Standing → Buffer ℕ → Standing → Type 0
TellsTaken before x after = after ≡ laid before (takes (take 1 (waiting before.seen))) before.room

-- the queue is opened, with the room that it has from then on
abbrev pub TellsOpened : Standing → Buffer ℕ → Standing → Type 0
TellsOpened before x after = after ≡ laid before [] x.capacity

-- nothing lies in the place
abbrev pub IsBare : Standing → List (Buffer ℕ) → Type 0
IsBare v items = items ≡ []

-- no share is more than the whole, and what both of two joined passes had seen begins what either had
pub record IsSound (v : Standing) : Type 0 where
  pub at_most : v.share.part ≤ v.share.of
  pub met : IsPrefix v.met v.seen

-- ---- where passes stand

-- the first pass, before the queue is opened
abbrev pub newly_made : Standing
newly_made = record { seen = []; met = []; own = 0; share = whole_share; has = true; room = 0 }

abbrev pub with_half : Standing → Standing
with_half v = standing v.seen v.own (half v.share) v.room

abbrev pub other_half : Standing → Standing
other_half v = standing v.seen 0 (half v.share) v.room

abbrev pub of_both : Standing → Standing → Standing
of_both v w = record { seen = longer v.seen w.seen; met = shorter v.seen w.seen; own = v.own + w.own; share = together v.share w.share; has = false; room = v.room }

abbrev pub spent : Standing
spent = standing [] 0 no_share 0
