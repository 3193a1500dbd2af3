-- How a `Pool` keeps its values and its free nodes: in one list of slots. No public clause cites this module.
use Rattle.std.specs.Prelude.{ℕ, zero, suc, List, [], ◌∷◌, map, Option, Some, None, slice_index_or}
use Rattle.pol_arena.specs.Pool.{Pool}
use Rattle.pol_arena.specs.declared.slot.PoolSlot.{PoolSlot}
use Rattle.pol_arena.specs.declared.slot.PoolSlot.TheVariants.{Used, Free}

module _ {T : Type 0} where
  -- the value of a slot, if it has one
  abbrev pub value_of : PoolSlot T → Option T
  value_of (Used value) = Some value
  value_of (Free next) = None

  -- the node that a free slot names
  abbrev pub named_by : PoolSlot T → ℕ
  named_by (Used value) = 0
  named_by (Free next) = next

  -- so many nodes, from the first on, each named by the slot of the one before
  abbrev pub free_from : ℕ → ℕ → List (PoolSlot T) → List ℕ
  free_from zero first slots = []
  free_from (suc count) first slots =
      first ∷ free_from count (named_by (slice_index_or slots first (Free 0))) slots

  -- what a contract sees of these slots, where so many nodes are free, from the first on, and of the spare ones
  abbrev pub pool_of : List (PoolSlot T) → ℕ → ℕ → ℕ → Pool T
  pool_of slots first free spare =
      record { slots = map value_of slots; free = free_from free first slots; spare = spare }
