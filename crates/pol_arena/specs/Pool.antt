-- What a contract sees of a `Pool`: values by index, and which indices come back first.
use Rattle.std.specs.Prelude.{◌≡◌, ◌≢◌, ℕ, ◌+◌, ◌-◌, ◌^◌, ◌<◌, ◌≤◌, Bool, ◌&&◌, nat_eq, nat_lt, is_some, is_none, IsSome, if◌then◌else◌, List, [], ◌∷◌, ◌++◌, length, drop, count_by, Option, Some, None, slice_index_or, slice_set, refl}
use Rattle.std.specs.Coded.{Coded, code_by, coded×, coded_ℕ, coded_list, coded_option}

-- the value or nothing at each index from 0 on, the indices that were taken and are free, last taken first, and how
-- many puts need no memory
pub record Pool (T : Type 0) : Type 0 where
  pub slots : List (Option T)
  pub free : List ℕ
  pub spare : ℕ

-- a pool is stored as the tuple of its fields
abbrev pub pool_code : {T : Type 0} → Coded T → Coded (Pool T)
pool_code {T} code =
    code_by
    (List (Option T) × (List ℕ × ℕ))
    (coded× (coded_list (coded_option code)) (coded× (coded_list coded_ℕ) coded_ℕ))
    (λ p. (p.slots, (p.free, p.spare)))
    (λ p. record { slots = p.0; free = p.1.0; spare = p.1.1 })
    (λ _. refl)

module _ {T : Type 0} where
  -- a pool without nodes
  abbrev pub empty_pool : Pool T
  empty_pool = record { slots = []; free = []; spare = 0 }

  -- the value of a node
  abbrev pub node_at : Pool T → ℕ → Option T
  node_at p node = slice_index_or p.slots node None

  -- the node is in use
  abbrev pub IsInUse : Pool T → ℕ → Type 0
  IsInUse p node = IsSome (node_at p node)

  -- how many nodes are in use
  abbrev pub nodes_in_use : Pool T → ℕ
  nodes_in_use p = count_by is_some p.slots

  -- the first of these indices, or else the least one that was never used
  abbrev pub next_of : List ℕ → List (Option T) → ℕ
  next_of [] slots = length slots
  next_of (node ∷ rest) slots = node

  -- the slots with the value at the first of these indices, or else at a new one at the end
  abbrev pub filled : List ℕ → List (Option T) → T → List (Option T)
  filled [] slots value = slots ++ Some value ∷ []
  filled (node ∷ rest) slots value = slice_set slots node (Some value)

  -- the node that the next put gives
  abbrev pub next_node : Pool T → ℕ
  next_node p = next_of p.free p.slots

  -- the pool after a put of this value
  abbrev pub after_put : Pool T → T → Pool T
  after_put p value =
      record { slots = filled p.free p.slots value; free = drop 1 p.free; spare = p.spare - 1 }

  -- the pool after the node was taken
  abbrev pub after_take : Pool T → ℕ → Pool T
  after_take p node =
      record { slots = slice_set p.slots node None; free = node ∷ p.free; spare = p.spare + 1 }

  -- the pool after this value was written at the node
  abbrev pub with_value : Pool T → ℕ → T → Pool T
  with_value p node value = record p { slots = slice_set p.slots node (Some value) }

  -- the new pool has this at the node, and every other node has what it had
  pub record Updates (old new : Pool T) (node : ℕ) (slot : Option T) : Type 0 where
    pub changed : node_at new node ≡ slot
    pub others : (other : ℕ) → other ≢ node → node_at new other ≡ node_at old other

  -- the index was used and has no value
  abbrev pub is_free : Pool T → ℕ → Bool
  is_free p node = nat_lt node (length p.slots) && is_none (node_at p node)

  -- the free list has each index that was used and has no value, once, and nothing else. Each is good for one put
  -- without memory, and there are fewer than 2^32 nodes.
  pub record IsSound (p : Pool T) : Type 0 where
    pub free_once : (node : ℕ) → count_by (nat_eq node) p.free ≡ (if is_free p node then 1 else 0)
    pub counted : nodes_in_use p + length p.free ≡ length p.slots
    pub covered : length p.free ≤ p.spare
    pub fits : nodes_in_use p + p.spare < 2 ^ 32
