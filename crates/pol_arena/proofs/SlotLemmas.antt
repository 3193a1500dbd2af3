-- What a change of a pool's slots does to what a contract sees.
use Rattle.std.proofs.Common.{◌≡◌, ◌≢◌, ℕ, zero, suc, ◌+◌, ◌-◌, ◌^◌, ◌<◌, ◌≤◌, Bool, true, false, List, ◌∷◌, map, length, get_or, set, None, IsSome, cond, count_by, refl, sym, ap, ◌∙◌, inl, inr, arith, eqb}
use Rattle.std.proofs.lemmas.Bool.{eq-eqb}
use Rattle.std.proofs.lemmas.Bool.Decides.{eqb_tells}
use Rattle.std.proofs.lemmas.List.{get_or-set_same, get_or-set_other, get_or_default, length-map, map-set}
use Rattle.std.proofs.lemmas.List.Sums.{sum_by-cons}
use Rattle.std.proofs.Math.ListN.{get_or-map}
use Rattle.pol_arena.specs.Pool.{IsInUse, nodes_in_use, next_node, after_put, after_take, with_value, IsSound, Updates}
use Rattle.pol_arena.specs.declared.slot.PoolSlot.{PoolSlot}
use Rattle.pol_arena.specs.declared.slot.PoolSlot.TheVariants.{Used, Free}
use Rattle.pol_arena.specs.Room.{IsKept}
use Rattle.pol_arena.specs.Slots.{value_of, named_by, free_from, pool_of}
use Rattle.pol_arena.proofs.PoolLemmas.{empty_at, in_use_within, in_use_not_empty, first_is_free, empty_within, empty_is_none, count-empty, Updates-set}

-- what a list has at most once, and first, it has no more
once : (first : ℕ) (rest : List ℕ) (n : ℕ) → count_by (eqb first) (first ∷ rest) ≡ n → n ≤ 1 → count_by (eqb first) rest ≡ 0
once first rest n is few =
    omega (arith, sum_by-cons (λ x. cond (eqb first x) 1 0) first rest, ap {B = ℕ} (λ b. cond b 1 0) (eq-eqb first first refl))

at_most_one : (b : Bool) → cond b 1 0 ≤ 1
at_most_one true = omega arith
at_most_one false = omega arith

module _ {T : Type 0} where
  -- the slot of a node, or one that is free
  abbrev slot_at : List (PoolSlot T) → ℕ → PoolSlot T
  slot_at slots node = get_or slots node (Free 0)

  pub value_at : (slots : List (PoolSlot T)) (node : ℕ) → get_or (map value_of slots) node None ≡ value_of (slot_at slots node)
  value_at slots node = get_or-map value_of slots node (Free 0)

  -- what an index call reads is the slot of the node
  pub read_is : (slots : List (PoolSlot T)) (node : ℕ) (read : PoolSlot T) → node < length slots → read ≡ get_or slots node read → read ≡ slot_at slots node
  read_is slots node read within is = is ∙ get_or_default slots node read (Free 0) within

  pub used_within : (slots : List (PoolSlot T)) (node : ℕ) → IsSome (get_or (map value_of slots) node None) → node < length slots
  used_within slots node used = omega (arith, in_use_within (map value_of slots) node used, length-map slots value_of)

  -- there are so many free nodes
  pub length-free_from : (count first : ℕ) (slots : List (PoolSlot T)) → length (free_from count first slots) ≡ count
  length-free_from zero first slots = refl
  length-free_from (suc count) first slots = ap suc (length-free_from count (named_by (slot_at slots first)) slots)

  -- a write at a node that isn't among them leaves them
  pub free_from-set : (count first : ℕ) (slots : List (PoolSlot T)) (at : ℕ) (slot : PoolSlot T) → count_by (eqb at) (free_from count first slots) ≡ 0 → free_from count first (set slots at slot) ≡ free_from count first slots
  free_from-set zero first slots at slot absent = refl
  free_from-set (suc count) first slots at slot absent =
      let counted = sum_by-cons (λ x. cond (eqb at x) 1 0) first (free_from count (named_by (slot_at slots first)) slots) in
      elim (eqb_tells at first) [
        | inl same ↦ absurd (omega (arith, rw same.0 at counted))
        | inr differs ↦
            rw (get_or-set_other slots at first slot (Free 0) (λ e. differs.1 (sym e)))
            (ap (λ rest. first ∷ rest) (free_from-set count (named_by (slot_at slots first)) slots at slot (omega (arith, rw differs.0 at counted))))
      ]

  -- the first free node gets a value, and the one that its slot named is the first
  pub put_again : (slots : List (PoolSlot T)) (first free spare next : ℕ) (value : T) → IsSound (pool_of slots first free spare) → free ≢ 0 → slot_at slots first ≡ Free next → pool_of (set slots first (Used value)) next (free - 1) (spare - 1) ≡ after_put (pool_of slots first free spare) value
  put_again slots first zero spare next value sound some named = absurd (some refl)
  put_again slots first (suc free) spare next value sound some named =
      let alone = once first (free_from free (named_by (slot_at slots first)) slots) _ (sound.free_once first) (at_most_one (empty_at (map value_of slots) first)) in
      let kept = free_from-set free (named_by (slot_at slots first)) slots first (Used value) alone in
      let stays : free_from free next (set slots first (Used value)) ≡ free_from free (named_by (slot_at slots first)) slots =
      ap (λ n. free_from free n (set slots first (Used value))) (sym (ap named_by named)) ∙ kept in
      let less : suc free - 1 ≡ free = omega arith in
      rw (map-set value_of slots first (Used value), less, stays) refl

  -- a node that is in use is taken, and is the first free one
  pub taken : (slots : List (PoolSlot T)) (first free spare node : ℕ) → IsSound (pool_of slots first free spare) → IsInUse (pool_of slots first free spare) node → pool_of (set slots node (Free first)) node (free + 1) (spare + 1) ≡ after_take (pool_of slots first free spare) node
  taken slots first free spare node sound used =
      let within = used_within slots node used in
      let absent : count_by (eqb node) (free_from free first slots) ≡ 0 = sound.free_once node ∙ ap (λ b. cond b 1 0) (in_use_not_empty (map value_of slots) node used) in
      let more : free + 1 ≡ suc free = omega arith in
      rw (more, map-set value_of slots node (Free first), get_or-set_same slots node (Free first) (Free 0) within, free_from-set free first slots node (Free first) absent) refl

  -- a value is written
  pub written : (slots : List (PoolSlot T)) (first free spare node : ℕ) (value : T) → IsSound (pool_of slots first free spare) → IsInUse (pool_of slots first free spare) node → pool_of (set slots node (Used value)) first free spare ≡ with_value (pool_of slots first free spare) node value
  written slots first free spare node value sound used =
      let absent : count_by (eqb node) (free_from free first slots) ≡ 0 = sound.free_once node ∙ ap (λ b. cond b 1 0) (in_use_not_empty (map value_of slots) node used) in
      rw (map-set value_of slots node (Used value), free_from-set free first slots node (Used value) absent) refl

  -- the first free node, where there is one, is the one that a put gives, and has no value
  pub first_is_next : (slots : List (PoolSlot T)) (first free spare : ℕ) → free ≢ 0 → next_node (pool_of slots first free spare) ≡ first
  first_is_next slots first zero spare some = absurd (some refl)
  first_is_next slots first (suc free) spare some = refl

  pub first_is_empty : (slots : List (PoolSlot T)) (first free spare : ℕ) → IsSound (pool_of slots first free spare) → free ≢ 0 → empty_at (map value_of slots) first ≡ true
  first_is_empty slots first zero spare sound some = absurd (some refl)
  first_is_empty slots first (suc free) spare sound some =
      first_is_free (map value_of slots) first (free_from free (named_by (slot_at slots first)) slots) spare sound

  pub empty_below : (slots : List (PoolSlot T)) (node : ℕ) → empty_at (map value_of slots) node ≡ true → node < length slots
  empty_below slots node empty = omega (arith, empty_within (map value_of slots) node empty, length-map slots value_of)

  pub empty_slot : (slots : List (PoolSlot T)) (node : ℕ) → empty_at (map value_of slots) node ≡ true → value_of (slot_at slots node) ≡ None
  empty_slot slots node empty = sym (value_at slots node) ∙ empty_is_none (map value_of slots) node empty

  -- how many slots there are
  pub slots_counted : (slots : List (PoolSlot T)) (first free spare : ℕ) → IsSound (pool_of slots first free spare) → nodes_in_use (pool_of slots first free spare) + free ≡ length slots
  slots_counted slots first free spare sound =
      omega (arith, sound.counted, length-free_from free first slots, length-map slots value_of)

  pub free_covered : (slots : List (PoolSlot T)) (first free spare : ℕ) → IsSound (pool_of slots first free spare) → free ≤ spare
  free_covered slots first free spare sound = omega (arith, sound.covered, length-free_from free first slots)

  -- one node more may be free, where one is in use
  pub free_fits : (slots : List (PoolSlot T)) (first free spare node : ℕ) → IsSound (pool_of slots first free spare) → IsInUse (pool_of slots first free spare) node → free + 1 < 2 ^ 32
  free_fits slots first free spare node sound used =
      omega (arith, sound.fits, free_covered slots first free spare sound, count-empty (map value_of slots) node used)

  -- the same slots, with room for so many
  pub kept_room : (slots same : List (PoolSlot T)) (first free spare nodes old capacity : ℕ) → same ≡ slots → IsKept (pool_of slots first free spare) old → spare ≤ nodes → nodes_in_use (pool_of slots first free spare) + nodes < 2 ^ 32 → length slots + (nodes - free) ≤ capacity → IsKept (pool_of same first free nodes) capacity
  kept_room slots same first free spare nodes old capacity is kept more fits room =
      let counted = slots_counted slots first free spare kept.sound in
      let covered = free_covered slots first free spare kept.sound in
      let many = length-free_from free first slots in
      rw is (record {
        sound = record { free_once = kept.sound.free_once; counted = kept.sound.counted; covered = omega arith; fits = fits };
        room = omega arith;
      })

  -- a slot's write is a write at its node
  pub Updates-slot : (slots : List (PoolSlot T)) (first free spare next left room node : ℕ) (slot : PoolSlot T) → node < length slots → Updates (pool_of slots first free spare) (pool_of (set slots node slot) next left room) node (value_of slot)
  Updates-slot slots first free spare next left room node slot within =
      Updates-set _ _ node (value_of slot) (omega (arith, within, length-map slots value_of)) (map-set value_of slots node slot)
