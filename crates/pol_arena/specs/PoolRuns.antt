-- Lists of operations on a pool, and what holds after any of them.
use Rattle.std.specs.Prelude.{◌≡◌, ◌≢◌, ◌↔◌, ℕ, ◌+◌, ◌^◌, ◌<◌, ◌≤◌, max, ⊤, List, fold, length, Contains, None, Some}
use Rattle.std.specs.List.{AllByRecursion}
use Rattle.pol_arena.specs.Runs.{EachInTurn}
use Rattle.pol_arena.specs.Pool.{Pool, node_at, IsInUse, nodes_in_use, next_node, after_put, after_take, with_value, Updates, IsSound}

-- an operation on a pool; a write is one through `get_mut`
pub data Operation (T : Type 0) : Type 0 where
  Reserve : ℕ → Operation T
  Put : T → Operation T
  Take : ℕ → Operation T
  Write : ℕ → T → Operation T

module _ {T : Type 0} where
  -- the operation's condition
  abbrev pub IsAllowed : Pool T → Operation T → Type 0
  IsAllowed p (Reserve nodes) = nodes_in_use p + nodes < 2 ^ 32
  IsAllowed p (Put value) = 1 ≤ p.spare
  IsAllowed p (Take node) = IsInUse p node
  IsAllowed p (Write node value) = IsInUse p node

  -- the pool after the operation, where there is memory for it
  abbrev pub after : Pool T → Operation T → Pool T
  after p (Reserve nodes) = record p { spare = max p.spare nodes }
  after p (Put value) = after_put p value
  after p (Take node) = after_take p node
  after p (Write node value) = with_value p node value

  -- each operation's condition holds where its turn comes
  abbrev pub AreAllowed : Pool T → List (Operation T) → Type 0
  AreAllowed = EachInTurn after IsAllowed

  -- the pool after all of them, in order
  abbrev pub after_all : Pool T → List (Operation T) → Pool T
  after_all = fold after

  -- the operation neither takes nor writes the node
  abbrev pub Leaves : ℕ → Operation T → Type 0
  Leaves node (Reserve nodes) = ⊤
  Leaves node (Put value) = ⊤
  Leaves node (Take other) = node ≢ other
  Leaves node (Write other value) = node ≢ other

  -- none of them does
  abbrev pub AllLeave : ℕ → List (Operation T) → Type 0
  AllLeave node = AllByRecursion (Leaves node)

-- A sound pool is sound after any operations that are allowed in their order.
abbrev pub PoolsAreSound : Type 0 → Type 0
PoolsAreSound T =
    (p : Pool T) (os : List (Operation T)) → IsSound p → AreAllowed p os → IsSound (after_all p os)

-- A node in use keeps its value until an operation takes or writes it.
abbrev pub NodesInUseStay : Type 0 → Type 0
NodesInUseStay T =
    (p : Pool T) (os : List (Operation T)) (node : ℕ) (value : T)
    → IsSound p → AreAllowed p os → AllLeave node os → node_at p node ≡ Some value
    → node_at (after_all p os) node ≡ Some value

-- The free list of a sound pool has just the indices that were used and have no value.
abbrev pub FreeNodesAreEmpty : Type 0 → Type 0
FreeNodesAreEmpty T =
    (p : Pool T) (node : ℕ) → IsSound p
    → Contains p.free node ↔ ((node < length p.slots) × (node_at p node ≡ None))

-- The node that a put gives is not in use.
abbrev pub NextNodeIsFree : Type 0 → Type 0
NextNodeIsFree T = (p : Pool T) → IsSound p → node_at p (next_node p) ≡ None

-- A write through `get_mut` gives a node in use that value and changes no other node, as many are in use as before, and
-- the pool is sound.
abbrev pub WriteChangesOneNode : Type 0 → Type 0
WriteChangesOneNode T =
    (p : Pool T) (node : ℕ) (value : T) → IsSound p → IsInUse p node
    → Updates p (with_value p node value) node (Some value)
    × (nodes_in_use (with_value p node value) ≡ nodes_in_use p)
    × IsSound (with_value p node value)
