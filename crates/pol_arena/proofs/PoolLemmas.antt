-- How each change of a pool keeps it sound.
use Rattle.std.proofs.Common.{◌≡◌, ℕ, ◌+◌, ◌-◌, ◌<◌, ◌≤◌, Bool, true, false, ◌&&◌, List, [], ◌∷◌, ◌++◌, length, get_or, set, Option, Some, None, is_some, IsSome, cond, count_by, refl, sym, ap, ◌∙◌, inl, inr, arith, eqb, ltb}
use Rattle.std.specs.Prelude.{is_none}
use Rattle.std.proofs.lemmas.Bool.{eq-eqb, lt-ltb, le-ltb}
use Rattle.std.proofs.lemmas.Bool.Decides.{eqb_tells}
use Rattle.std.proofs.lemmas.Grind.{common_steps}
use Rattle.std.proofs.lemmas.List.{get_or-set_same, get_or-set_other, get_or_past, get_or_append_left, length-set, length_push}
use Rattle.std.proofs.lemmas.List.Sums.{sum_by-cons, sum_by-set, sum_by_push}
use Rattle.std.proofs.Math.Seq.{get_or-append_seam}
use Rattle.pol_arena.specs.Pool.{Pool, IsInUse, nodes_in_use, next_of, after_put, after_take, with_value, IsSound, Updates}
use Rattle.pol_arena.specs.Room.{IsKept}

module _ {T : Type 0} where
  -- the index lies below the length and has no value
  abbrev pub empty_at : List (Option T) → ℕ → Bool
  empty_at slots node = ltb node (length slots) && is_none (get_or slots node None)

  -- an index past the end is not empty
  pub empty_at-past : (slots : List (Option T)) (node : ℕ) → length slots ≤ node → empty_at slots node ≡ false
  empty_at-past slots node past = rw (le-ltb node (length slots) past)

  -- an index below the end is empty where it has no value
  empty_at-within : (slots : List (Option T)) (node : ℕ) → node < length slots → empty_at slots node ≡ is_none (get_or slots node None)
  empty_at-within slots node within = rw (lt-ltb node (length slots) within)

  -- a value at the end is at no empty index
  empty_at-push : (slots : List (Option T)) (value : T) (node : ℕ) → empty_at (slots ++ Some value ∷ []) node ≡ empty_at slots node
  empty_at-push slots value node = grind (arith, common_steps, empty_at-past, empty_at-within, get_or_append_left, get_or-append_seam, length_push)

  -- a write changes this of no other index
  empty_at-set : (slots : List (Option T)) (at node : ℕ) (slot : Option T) → at < length slots → empty_at (set slots at slot) node ≡ cond (eqb node at) (is_none slot) (empty_at slots node)
  empty_at-set slots at node slot within =
      elim (eqb_tells node at) [
        | inl same ↦ rw (same.1, eq-eqb at at refl, length-set, lt-ltb at (length slots) within, get_or-set_same slots at slot None within)
        | inr differs ↦ rw (length-set, get_or-set_other slots at node slot None differs.1, differs.0)
      ]

  -- the same, where the index was not empty and is not
  empty_at-set_value : (slots : List (Option T)) (at node : ℕ) (value : T) → at < length slots → empty_at slots at ≡ false → empty_at (set slots at (Some value)) node ≡ empty_at slots node
  empty_at-set_value slots at node value within used =
      elim (eqb_tells node at) [
        | inl same ↦ empty_at-set slots at node (Some value) within ∙ rw (same.1, eq-eqb at at refl) (sym used)
        | inr differs ↦ empty_at-set slots at node (Some value) within ∙ rw differs.0
      ]

  -- a node in use lies below the length
  pub in_use_within : (slots : List (Option T)) (node : ℕ) → IsSome (get_or slots node None) → node < length slots
  in_use_within slots node used = grind (arith, get_or_past)

  -- a node in use is not empty
  pub in_use_not_empty : (slots : List (Option T)) (node : ℕ) → IsSome (get_or slots node None) → empty_at slots node ≡ false
  in_use_not_empty slots node used = grind arith

  -- the first of the free nodes is used and empty
  pub first_is_free : (slots : List (Option T)) (node : ℕ) (rest : List ℕ) (spare : ℕ) → IsSound (record { slots = slots; free = node ∷ rest; spare = spare }) → empty_at slots node ≡ true
  first_is_free slots node rest spare sound =
      let once = sound.free_once node in
      let counted = sum_by-cons (λ x. cond (eqb node x) 1 0) node rest in
      let same = eq-eqb node node refl in
      grind arith

  -- an empty index lies below the length, and has no value
  pub empty_within : (slots : List (Option T)) (node : ℕ) → empty_at slots node ≡ true → node < length slots
  empty_within slots node empty = grind (arith, empty_at-past)

  pub empty_is_none : (slots : List (Option T)) (node : ℕ) → empty_at slots node ≡ true → get_or slots node None ≡ None
  empty_is_none slots node empty = grind (arith, empty_at-past, empty_at-within)

  pub empty_from_none : (slots : List (Option T)) (node : ℕ) → node < length slots → get_or slots node None ≡ None → empty_at slots node ≡ true
  empty_from_none slots node within none = empty_at-within slots node within ∙ ap is_none none

  -- how many nodes are in use after an empty slot is filled, a full one is emptied, and a full one is written
  pub count-fill : (slots : List (Option T)) (node : ℕ) (value : T) → node < length slots → get_or slots node None ≡ None → count_by is_some (set slots node (Some value)) ≡ count_by is_some slots + 1
  count-fill slots node value within none =
      omega (arith, rw none at (sum_by-set (λ o. cond (is_some o) 1 0) slots node (Some value) None within))

  pub count-empty : (slots : List (Option T)) (node : ℕ) → IsSome (get_or slots node None) → count_by is_some (set slots node None) + 1 ≡ count_by is_some slots
  count-empty slots node used =
      omega (arith, rw used at (sum_by-set (λ o. cond (is_some o) 1 0) slots node None None (in_use_within slots node used)))

  pub count-write : (slots : List (Option T)) (node : ℕ) (value : T) → IsSome (get_or slots node None) → count_by is_some (set slots node (Some value)) ≡ count_by is_some slots
  count-write slots node value used =
      omega (arith, rw used at (sum_by-set (λ o. cond (is_some o) 1 0) slots node (Some value) None (in_use_within slots node used)))

  -- without the first free node, the others are still there once each
  once_less : (slots : List (Option T)) (node other : ℕ) (rest : List ℕ) (value : T) → node < length slots → empty_at slots node ≡ true → count_by (eqb other) (node ∷ rest) ≡ cond (empty_at slots other) 1 0 → count_by (eqb other) rest ≡ cond (empty_at (set slots node (Some value)) other) 1 0
  once_less slots node other rest value within empty once =
      let counted = sum_by-cons (λ x. cond (eqb other x) 1 0) node rest in
      let written = empty_at-set slots node other (Some value) within in
      grind (arith, eqb_tells)

  -- with one more free node, each is there once
  once_more : (slots : List (Option T)) (node other : ℕ) (free : List ℕ) → node < length slots → empty_at slots node ≡ false → count_by (eqb other) free ≡ cond (empty_at slots other) 1 0 → count_by (eqb other) (node ∷ free) ≡ cond (empty_at (set slots node None) other) 1 0
  once_more slots node other free within used once =
      let counted = sum_by-cons (λ x. cond (eqb other x) 1 0) node free in
      let written = empty_at-set slots node other None within in
      grind (arith, eqb_tells)

  -- a put at the end of full slots keeps the pool sound
  pub IsSound-put_new : (slots : List (Option T)) (spare : ℕ) (value : T) → IsSound (record { slots = slots; free = []; spare = spare }) → 1 ≤ spare → IsSound (record { slots = slots ++ Some value ∷ []; free = []; spare = spare - 1 })
  IsSound-put_new slots spare value sound some =
      let pushed = sum_by_push (λ o. cond (is_some o) 1 0) slots (Some value) in
      let longer = length_push slots (Some value) in
      let counted = sound.counted in
      let fits = sound.fits in
      record {
        free_once = λ node. rw (empty_at-push slots value node) (sound.free_once node);
        counted = omega arith;
        covered = omega arith;
        fits = omega arith;
      }

  -- a put at the first of the free nodes keeps the pool sound
  pub IsSound-put_again : (slots : List (Option T)) (node : ℕ) (rest : List ℕ) (spare : ℕ) (value : T) → IsSound (record { slots = slots; free = node ∷ rest; spare = spare }) → IsSound (record { slots = set slots node (Some value); free = rest; spare = spare - 1 })
  IsSound-put_again slots node rest spare value sound =
      let first = first_is_free slots node rest spare sound in
      let within = empty_within slots node first in
      let counted = sound.counted in
      let fits = sound.fits in
      let in_use = count-fill slots node value within (empty_is_none slots node first) in
      let same_length = length-set slots node (Some value) in
      record {
        free_once = λ other. once_less slots node other rest value within first (sound.free_once other);
        counted = omega arith;
        covered = omega arith;
        fits = omega arith;
      }

  -- a taken node keeps the pool sound
  pub IsSound-take : (slots : List (Option T)) (free : List ℕ) (spare node : ℕ) → IsSome (get_or slots node None) → IsSound (record { slots = slots; free = free; spare = spare }) → IsSound (record { slots = set slots node None; free = node ∷ free; spare = spare + 1 })
  IsSound-take slots free spare node used sound =
      let within = in_use_within slots node used in
      let counted = sound.counted in
      let fits = sound.fits in
      let in_use = count-empty slots node used in
      let same_length : length (set slots node None) ≡ length slots = length-set slots node None in
      record {
        free_once = λ other. once_more slots node other free within (in_use_not_empty slots node used) (sound.free_once other);
        counted = omega arith;
        covered = omega arith;
        fits = omega arith;
      }

  -- a write at a node in use keeps the pool sound
  pub IsSound-write : (slots : List (Option T)) (free : List ℕ) (spare node : ℕ) (value : T) → IsSome (get_or slots node None) → IsSound (record { slots = slots; free = free; spare = spare }) → IsSound (record { slots = set slots node (Some value); free = free; spare = spare })
  IsSound-write slots free spare node value used sound =
      let within = in_use_within slots node used in
      let counted = sound.counted in
      let fits = sound.fits in
      let in_use = count-write slots node value used in
      let same_length = length-set slots node (Some value) in
      record {
        free_once = λ other. rw (empty_at-set_value slots node other value within (in_use_not_empty slots node used)) (sound.free_once other);
        counted = omega arith;
        covered = omega arith;
        fits = omega arith;
      }

  -- the node that a put gives has no value
  pub next_is_free : (slots : List (Option T)) (free : List ℕ) (spare : ℕ) → IsSound (record { slots = slots; free = free; spare = spare }) → get_or slots (next_of free slots) None ≡ None
  next_is_free slots [] spare sound = get_or_past slots (length slots) None (omega arith)
  next_is_free slots (node ∷ rest) spare sound = empty_is_none slots node (first_is_free slots node rest spare sound)

  -- a put keeps a pool sound, and uses one node more
  pub IsSound-put : (slots : List (Option T)) (free : List ℕ) (spare : ℕ) (value : T) → IsSound (record { slots = slots; free = free; spare = spare }) → 1 ≤ spare → IsSound (after_put (record { slots = slots; free = free; spare = spare }) value)
  IsSound-put slots [] spare value sound some = IsSound-put_new slots spare value sound some
  IsSound-put slots (node ∷ rest) spare value sound some = IsSound-put_again slots node rest spare value sound

  pub count-put : (slots : List (Option T)) (free : List ℕ) (spare : ℕ) (value : T) → IsSound (record { slots = slots; free = free; spare = spare }) → nodes_in_use (after_put (record { slots = slots; free = free; spare = spare }) value) ≡ count_by is_some slots + 1
  count-put slots [] spare value sound = sum_by_push (λ o. cond (is_some o) 1 0) slots (Some value)
  count-put slots (node ∷ rest) spare value sound =
      let first = first_is_free slots node rest spare sound in
      count-fill slots node value (empty_within slots node first) (empty_is_none slots node first)

  -- each change keeps what the pool keeps
  pub IsKept-put : (p : Pool T) (value : T) (capacity : ℕ) → 1 ≤ p.spare → IsKept p capacity → IsKept (after_put p value) capacity
  IsKept-put p value capacity some kept =
      let in_use = count-put p.slots p.free p.spare value kept.sound in
      let room = kept.room in
      record { sound = IsSound-put p.slots p.free p.spare value kept.sound some; room = omega arith }

  pub IsKept-take : (p : Pool T) (node capacity : ℕ) → IsInUse p node → IsKept p capacity → IsKept (after_take p node) capacity
  IsKept-take p node capacity used kept =
      let in_use = count-empty p.slots node used in
      let room = kept.room in
      record { sound = IsSound-take p.slots p.free p.spare node used kept.sound; room = omega arith }

  pub IsKept-write : (p : Pool T) (node : ℕ) (value : T) (capacity : ℕ) → IsInUse p node → IsKept p capacity → IsKept (with_value p node value) capacity
  IsKept-write p node value capacity used kept =
      let in_use = count-write p.slots node value used in
      let room = kept.room in
      record { sound = IsSound-write p.slots p.free p.spare node value used kept.sound; room = omega arith }

  -- a write of one slot changes what that node has, and no other
  pub Updates-set : (old new : Pool T) (node : ℕ) (slot : Option T) → node < length old.slots → new.slots ≡ set old.slots node slot → Updates old new node slot
  Updates-set old new node slot within written =
      record {
        changed = rw written (get_or-set_same old.slots node slot None within);
        others = λ other differs. rw written (get_or-set_other old.slots node other slot None differs);
      }
