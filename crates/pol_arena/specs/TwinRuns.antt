-- Lists of operations on a twin, what holds after any of them, and how each changes the chains.
use Rattle.std.specs.Prelude.{◌≡◌, ◌≢◌, ℕ, ◌+◌, ◌<◌, ◌==◌, nat_eq, if◌then◌else◌, List, [], ◌∷◌, ◌++◌, fold, map, slice_get, Some, None, option_map, Contains, ◌^◌, ◌≤◌, max, ⊤, length}
use Rattle.std.specs.List.{IsDistinct}
use Rattle.pol_arena.specs.Runs.{EachInTurn}
use Rattle.pol_arena.specs.Twin.{Entry, Twin, on_chain, newest_on, entry_of, older_than, oldest, IsInUse, after_push, after_drop, IsSound}

-- an operation on a twin; a push names the node that it gave
pub data Operation (T : Type 0) : Type 0 where
  Reserve : ℕ → ℕ → Operation T
  Push : ℕ → T → ℕ → Operation T
  Drop : Operation T

module _ {T : Type 0} where
  -- the operation's condition, and that a push gives a free node
  abbrev pub IsAllowed : Twin T → Operation T → Type 0
  IsAllowed t (Reserve nodes chains) = length t.ages + nodes < 2 ^ 32
  IsAllowed t (Push chain value node) = (chain < t.chains) × (1 ≤ t.spare) × (entry_of node t.ages ≡ None)
  IsAllowed t Drop = ⊤

  -- the twin after the operation, where there is memory for it
  abbrev pub after : Twin T → Operation T → Twin T
  after t (Reserve nodes chains) = record t { chains = max t.chains chains; spare = max t.spare nodes }
  after t (Push chain value node) = after_push t chain value node
  after t Drop = if length t.ages == 0 then t else after_drop t

  -- each operation's condition holds where its turn comes
  abbrev pub AreAllowed : Twin T → List (Operation T) → Type 0
  AreAllowed = EachInTurn after IsAllowed

  -- the twin after all of them, in order
  abbrev pub after_all : Twin T → List (Operation T) → Twin T
  after_all = fold after

  -- the operation doesn't drop the node
  abbrev pub Leaves : Twin T → ℕ → Operation T → Type 0
  Leaves t node (Reserve nodes chains) = ⊤
  Leaves t node (Push chain value other) = ⊤
  Leaves t node Drop = option_map (λ e. e.node) (oldest t.ages) ≢ Some node

  -- none of them does
  abbrev pub AllLeave : Twin T → ℕ → List (Operation T) → Type 0
  AllLeave t node = EachInTurn after (λ s o. Leaves s node o) t

-- the first stands before the second in the list
abbrev pub IsBefore : {X : Type 0} → List X → X → X → Type 0
IsBefore xs x y = (i : ℕ) × (j : ℕ) × (i < j) × (slice_get xs i ≡ Some x) × (slice_get xs j ≡ Some y)

-- each node of the list by age is on the list of its chain, which exists, each node of a chain is in the list by age,
-- each is there once, and two nodes of a chain stand there in the order that they have on the chain
pub record IsMergeOfChains {T : Type 0} (t : Twin T) : Type 0 where
  pub each : (e : Entry T) → Contains t.ages e → (e.chain < t.chains) × Contains (on_chain e.chain t.ages) e
  pub only : (chain : ℕ) (e : Entry T) → Contains (on_chain chain t.ages) e → (e.chain ≡ chain) × Contains t.ages e
  pub once : IsDistinct nat_eq (map (λ e. e.node) t.ages)
  pub ordered : (chain : ℕ) (newer older : Entry T) → IsBefore (on_chain chain t.ages) newer older → IsBefore t.ages newer older

-- a sound twin is sound after any operations that are allowed in their order, and a sound one is the merge of its chains
pub record MergesChains (T : Type 0) : Type 0 where
  pub sound : (t : Twin T) (os : List (Operation T)) → IsSound t → AreAllowed t os → IsSound (after_all t os)
  pub merges : (t : Twin T) → IsSound t → IsMergeOfChains t

-- a push lengthens the list of its chain at the new end, and no other
abbrev pub PushLengthensOneChain : Type 0 → Type 0
PushLengthensOneChain T =
    (t : Twin T) (chain node : ℕ) (value : T)
    → (on_chain chain (after_push t chain value node).ages ≡ record { node = node; chain = chain; value = value } ∷ on_chain chain t.ages)
    × ((other : ℕ) → other ≢ chain → on_chain other (after_push t chain value node).ages ≡ on_chain other t.ages)

-- a drop shortens the list of one chain at the old end, and no other
abbrev pub DropShortensOneChain : Type 0 → Type 0
DropShortensOneChain T =
    (t : Twin T) (e : Entry T) → oldest t.ages ≡ Some e
    → (on_chain e.chain t.ages ≡ on_chain e.chain (after_drop t).ages ++ e ∷ [])
    × ((other : ℕ) → other ≢ e.chain → on_chain other (after_drop t).ages ≡ on_chain other t.ages)

-- a push leaves each node in use as it is
abbrev pub PushKeepsNodes : Type 0 → Type 0
PushKeepsNodes T =
    (t : Twin T) (chain node : ℕ) (value : T) → entry_of node t.ages ≡ None
    → (other : ℕ) → IsInUse t other → entry_of other (after_push t chain value node).ages ≡ entry_of other t.ages

-- and so does a drop, but for the node that it drops, which is in use no more
abbrev pub DropKeepsNodes : Type 0 → Type 0
DropKeepsNodes T =
    (t : Twin T) → IsSound t → (e : Entry T) → oldest t.ages ≡ Some e
    → (entry_of e.node (after_drop t).ages ≡ None)
    × ((other : ℕ) → other ≢ e.node → entry_of other (after_drop t).ages ≡ entry_of other t.ages)

-- so a node in use stays as it is until it is dropped itself
abbrev pub NodesInUseStay : Type 0 → Type 0
NodesInUseStay T =
    (t : Twin T) (os : List (Operation T)) (node : ℕ) (e : Entry T)
    → IsSound t → AreAllowed t os → AllLeave t node os → entry_of node t.ages ≡ Some e
    → entry_of node (after_all t os).ages ≡ Some e

-- the newest node of a chain is the first of its list, and the older node of one is the next there
pub record IsWalkOf {T : Type 0} (t : Twin T) (chain : ℕ) : Type 0 where
  pub first : newest_on chain t.ages ≡ option_map (λ e. e.node) (slice_get (on_chain chain t.ages) 0)
  pub there : (k : ℕ) (e : Entry T) → slice_get (on_chain chain t.ages) k ≡ Some e → entry_of e.node t.ages ≡ Some e
  pub next : (k : ℕ) (e : Entry T) → slice_get (on_chain chain t.ages) k ≡ Some e → older_than e.node t.ages ≡ option_map (λ e. e.node) (slice_get (on_chain chain t.ages) (k + 1))

abbrev pub WalksChains : Type 0 → Type 0
WalksChains T = (t : Twin T) → IsSound t → (chain : ℕ) → IsWalkOf t chain
