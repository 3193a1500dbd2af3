-- How a twin keeps its nodes: in a queue, newest first. No public clause cites this module.
use Rattle.std.specs.Prelude.{◌≡◌, ◌≢◌, ℕ, zero, suc, ◌+◌, ◌-◌, ◌%◌, ◌^◌, ◌<◌, ◌≤◌, ◌==◌, Bool, false, if◌then◌else◌, List, [], ◌∷◌, length, Option, Some, None, slice_index_or, slice_set}
use Rattle.pol_arena.specs.declared.node.ChainNode.{ChainNode}
use Rattle.pol_arena.specs.Twin.{Entry, newest_on}

-- the index so many places behind another: indices count up, and go on from 2^32 - 1 with 0
abbrev pub behind : ℕ → ℕ → ℕ
behind index places = (index + (2 ^ 32 - places)) % 2 ^ 32

-- the node is the newest of a chain
abbrev pub is_newest : Option ℕ → ℕ → Bool
is_newest None node = false
is_newest (Some newest) node = newest == node

-- the newest nodes of the chains after this node of a chain was dropped
abbrev pub without_node : List (Option ℕ) → ℕ → ℕ → List (Option ℕ)
without_node newest chain node =
    if is_newest (slice_index_or newest chain None) node then slice_set newest chain None else newest

-- how many nodes are newer than this one, the newest of a chain, or how many there are, where the chain is empty
abbrev pub gap_before : Option ℕ → ℕ → ℕ → ℕ
gap_before None last len = len
gap_before (Some newest) last len = behind last newest

module _ {T : Type 0} where
  -- the list by age, where the newest node has this index
  abbrev pub ages_of : ℕ → List (ChainNode T) → List (Entry T)
  ages_of last [] = []
  ages_of last (n ∷ ns) = record { node = last; chain = n.chain; value = n.value } ∷ ages_of (behind last 1) ns

  -- so many nodes lie before the first of this chain, or the nodes are all before it
  abbrev pub IsGap : ℕ → List (ChainNode T) → ℕ → Type 0
  IsGap chain [] gap = Unit {0}
  IsGap chain (n ∷ ns) zero = n.chain ≡ chain
  IsGap chain (n ∷ ns) (suc gap) = (n.chain ≢ chain) × IsGap chain ns gap

  -- each node tells the gap to the next older one of its chain
  abbrev pub AllLinked : List (ChainNode T) → Type 0
  AllLinked [] = Unit {0}
  AllLinked (n ∷ ns) = IsGap n.chain ns n.gap × AllLinked ns

  -- the gaps and the newest nodes of the chains are right, and the queue has room for the spare nodes
  pub record IsKept (nodes : List (ChainNode T)) (newest : List (Option ℕ)) (last spare capacity : ℕ) : Type 0 where
    pub linked : AllLinked nodes
    pub heads : (chain : ℕ) → slice_index_or newest chain None ≡ newest_on chain (ages_of last nodes)
    pub in_range : last < 2 ^ 32
    pub fits : length nodes + spare < 2 ^ 32
    pub room : length nodes + spare ≤ capacity
