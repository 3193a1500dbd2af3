-- What a contract sees of `Interner`: by each place from 0 on nothing, or a key with its count of holders.
use Rattle.std.specs.Prelude.{ℕ, ◌≡◌, ◌+◌, ◌-◌, Bool, true, false, nat_le, if◌then◌else◌, List, [], ◌∷◌, Option, Some, None, suc, zero, slice_index_or}

abbrev pub Slot : Type 0 → Type 0
Slot K = Option (K × ℕ)

-- the least place without a key
abbrev pub free_place : {X : Type 0} → List (Option X) → ℕ
free_place [] = 0
free_place (None ∷ slots) = 0
free_place (Some held ∷ slots) = free_place slots + 1

module _ {K : Type 0} where
  -- the slot at a place; past the last one there is nothing
  abbrev pub slot_at : List (Slot K) → ℕ → Slot K
  slot_at slots place = slice_index_or slots place None

  -- the key has the place
  abbrev pub HasPlace : (K → K → Bool) → K → List (Slot K) → ℕ → Type 0
  HasPlace eq key slots place = (own : K × ℕ) × (slot_at slots place ≡ Some own) × (eq key own.0 ≡ true)

  -- the key has no place
  abbrev pub HasNone : (K → K → Bool) → K → List (Slot K) → Type 0
  HasNone eq key slots = (place : ℕ) (own : K × ℕ) → slot_at slots place ≡ Some own → eq key own.0 ≡ false

  -- the slots with this one at the least place without a key
  abbrev pub filled : K × ℕ → List (Slot K) → List (Slot K)
  filled new [] = Some new ∷ []
  filled new (None ∷ slots) = Some new ∷ slots
  filled new (Some held ∷ slots) = Some held ∷ filled new slots

  -- the slots with this change of the one at a place
  abbrev pub changed : (Slot K → Slot K) → ℕ → List (Slot K) → List (Slot K)
  changed change place [] = []
  changed change zero (slot ∷ slots) = change slot ∷ slots
  changed change (suc place) (slot ∷ slots) = slot ∷ changed change place slots

  -- one holder more
  abbrev pub one_more : Slot K → Slot K
  one_more None = None
  one_more (Some held) = Some (held.0, held.1 + 1)

  -- one holder less; the key goes with its last holder
  abbrev pub one_less : Slot K → Slot K
  one_less None = None
  one_less (Some held) = if nat_le held.1 1 then None else Some (held.0, held.1 - 1)

-- the numbers from `first` on of the places that are taken
abbrev pub numbers_from : {X : Type 0} → ℕ → List (Option X) → List ℕ
numbers_from first [] = []
numbers_from first (None ∷ slots) = numbers_from (first + 1) slots
numbers_from first (Some held ∷ slots) = first ∷ numbers_from (first + 1) slots

-- the numbers from `first` on of the places whose key meets the test
abbrev pub numbers_where : {K : Type 0} → ℕ → (K → Bool) → List (Slot K) → List ℕ
numbers_where first test [] = []
numbers_where first test (None ∷ slots) = numbers_where (first + 1) test slots
numbers_where first test (Some own ∷ slots) = if test own.0 then first ∷ numbers_where (first + 1) test slots else numbers_where (first + 1) test slots
