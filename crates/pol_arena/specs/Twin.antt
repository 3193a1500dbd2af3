-- What a contract sees of a `Twin`: its nodes in one list by age, of which the list of each chain is a part.
use Rattle.std.specs.Prelude.{ℕ, ◌+◌, ◌-◌, ◌^◌, ◌<◌, ◌==◌, nat_eq, IsSome, if◌then◌else◌, List, [], ◌∷◌, length, map, take, filter, find, slice_get, Option, None, option_map, All, refl}
use Rattle.std.specs.List.{IsDistinct}
use Rattle.std.specs.Coded.{Coded, code_by, coded×, coded_ℕ, coded_list}

-- a node in use, its chain and its value
pub record Entry (T : Type 0) : Type 0 where
  pub node : ℕ
  pub chain : ℕ
  pub value : T

-- the nodes in use, newest first, how many chains exist, and how many pushes need no memory
pub record Twin (T : Type 0) : Type 0 where
  pub ages : List (Entry T)
  pub chains : ℕ
  pub spare : ℕ

-- an entry is stored as the tuple of its fields
abbrev pub entry_code : {T : Type 0} → Coded T → Coded (Entry T)
entry_code {T} code =
    code_by
    (ℕ × (ℕ × T))
    (coded× coded_ℕ (coded× coded_ℕ code))
    (λ e. (e.node, (e.chain, e.value)))
    (λ p. record { node = p.0; chain = p.1.0; value = p.1.1 })
    (λ _. refl)

-- and so is a twin
abbrev pub twin_code : {T : Type 0} → Coded T → Coded (Twin T)
twin_code {T} code =
    code_by
    (List (Entry T) × (ℕ × ℕ))
    (coded× (coded_list (entry_code code)) (coded× coded_ℕ coded_ℕ))
    (λ t. (t.ages, (t.chains, t.spare)))
    (λ p. record { ages = p.0; chains = p.1.0; spare = p.1.1 })
    (λ _. refl)

module _ {T : Type 0} where
  -- a twin without nodes and chains
  abbrev pub empty_twin : Twin T
  empty_twin = record { ages = []; chains = 0; spare = 0 }

  -- the list of a chain, newest first
  abbrev pub on_chain : ℕ → List (Entry T) → List (Entry T)
  on_chain chain ages = filter (λ e. e.chain == chain) ages

  -- the newest node of a chain
  abbrev pub newest_on : ℕ → List (Entry T) → Option ℕ
  newest_on chain ages = option_map (λ e. e.node) (find (λ e. e.chain == chain) ages)

  -- the entry of a node
  abbrev pub entry_of : ℕ → List (Entry T) → Option (Entry T)
  entry_of node ages = find (λ e. e.node == node) ages

  -- the value of a node
  abbrev pub value_of : ℕ → List (Entry T) → Option T
  value_of node ages = option_map (λ e. e.value) (entry_of node ages)

  -- the node is in use
  abbrev pub IsInUse : Twin T → ℕ → Type 0
  IsInUse t node = IsSome (entry_of node t.ages)

  -- the node of its chain that was pushed before it
  abbrev pub older_than : ℕ → List (Entry T) → Option ℕ
  older_than node [] = None
  older_than node (e ∷ es) = if e.node == node then newest_on e.chain es else older_than node es

  -- the last in the list by age
  abbrev pub oldest : List (Entry T) → Option (Entry T)
  oldest ages = slice_get ages (length ages - 1)

  -- the list by age without its last
  abbrev pub without_oldest : List (Entry T) → List (Entry T)
  without_oldest ages = take (length ages - 1) ages

  -- the twin after a push that gave this node
  abbrev pub after_push : Twin T → ℕ → T → ℕ → Twin T
  after_push t chain value node =
      record t { ages = record { node = node; chain = chain; value = value } ∷ t.ages; spare = t.spare - 1 }

  -- the twin after its oldest node was dropped
  abbrev pub after_drop : Twin T → Twin T
  after_drop t = record t { ages = without_oldest t.ages; spare = t.spare + 1 }

  -- each node is there once, on a chain that exists, and there are fewer than 2^32, with those to come
  pub record IsSound (t : Twin T) : Type 0 where
    pub distinct : IsDistinct nat_eq (map (λ e. e.node) t.ages)
    pub placed : All (λ e. e.chain < t.chains) t.ages
    pub fits : length t.ages + t.spare < 2 ^ 32
