-- How the parts of an `Interner` fit together. No public clause cites this module.
use Rattle.std.specs.Prelude.{ℕ, ◌≡◌, ◌+◌, ◌<◌, ◌≤◌, ◌^◌, ◌&&◌, nat_eq, nat_lt, is_none, is_some, Bool, if◌then◌else◌, List, map, length, count_by, slice_get, slice_index_or, Option, Some, None, option_map}
use Rattle.std.specs.BinaryHeap.{IsHeap}
use Rattle.std.specs.Ordering.{nat_cmp}
use Rattle.std.specs.declared.cmp.Ordering.{Ordering}
use Rattle.std.specs.declared.cmp.Reverse.{Reverse}
use Rattle.pol_interner.specs.declared.interner.Held.{Held}
use Rattle.pol_interner.specs.Slots.{Slot}

-- the slot is taken, and its key has this index
abbrev pub IsIndexOf : ℕ → Option Held → Type 0
IsIndexOf index None = ⊥
IsIndexOf index (Some held) = held.index ≡ index

-- the slot with another index of its key
abbrev pub with_index : ℕ → Option Held → Option Held
with_index index None = None
with_index index (Some held) = Some (record held { index = index })

module _ {K : Type 0} where
  -- what a place holds: the key at its index, and its count
  abbrev pub shown : List (K × ℕ) → Option Held → Slot K
  shown entries None = None
  shown entries (Some held) = option_map (λ entry. (entry.0, held.holders)) (slice_get entries held.index)

  abbrev pub all_shown : List (K × ℕ) → List (Option Held) → List (Slot K)
  all_shown entries slots = map (shown entries) slots

  -- each place that is taken names its key's entry, and each entry names its key's place
  pub record IsTied (entries : List (K × ℕ)) (slots : List (Option Held)) : Type 0 where
    pub entry : (place : ℕ) (held : Held) → slice_index_or slots place None ≡ Some held → (key : K) × (slice_get entries held.index ≡ Some (key, place))
    pub slot : (index : ℕ) (key : K) (place : ℕ) → slice_get entries index ≡ Some (key, place) → (held : Held) × (slice_index_or slots place None ≡ Some held) × (held.index ≡ index)

-- of two places the least comes first
abbrev pub least_first : Reverse ℕ → Reverse ℕ → Ordering
least_first x y = nat_cmp y.0 x.0

module _ {X : Type 0} where
  -- the place isn't past the last, and isn't taken
  abbrev pub empty_at : List (Option X) → ℕ → Bool
  empty_at slots place = nat_lt place (length slots) && is_none (slice_index_or slots place None)

  -- the free places, each once, in the order of a heap whose first is the least
  pub record IsFreeOf (free : List (Reverse ℕ)) (slots : List (Option X)) : Type 0 where
    pub heap : IsHeap least_first free
    pub once : (place : ℕ) → count_by (λ other. nat_eq place other.0) free ≡ (if empty_at slots place then 1 else 0)
    pub counted : count_by is_some slots + length free ≡ length slots

  -- and there is room for each place that is given back
  pub record HasRoom (slots : List (Option X)) (capacity : ℕ) : Type 0 where
    pub covered : length slots ≤ capacity
    pub fits : length slots < 2 ^ 32
