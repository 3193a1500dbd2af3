-- What holds after any operations on a pool.
use Rattle.std.proofs.Common.{◌≡◌, ◌≢◌, ◌↔◌, ℕ, zero, suc, ◌<◌, ◌≤◌, Bool, true, false, List, [], ◌∷◌, length, get_or, Option, Some, None, is_some, cond, count_by, refl, sym, ap, ◌∙◌, inl, inr, arith, eqb, Contains}
use Rattle.std.proofs.lemmas.Bool.{eq-eqb}
use Rattle.std.proofs.lemmas.Bool.Decides.{eqb_tells}
use Rattle.std.proofs.lemmas.List.{get_or-set_other, get_or_append_left}
use Rattle.std.proofs.lemmas.List.Sums.{sum_by-cons}
use Rattle.pol_arena.specs.Pool.{Pool, node_at, filled, IsSound, with_value}
use Rattle.pol_arena.specs.PoolRuns.{Operation, Reserve, Put, Take, Write, IsAllowed, after, AreAllowed, after_all, Leaves, AllLeave, WriteChangesOneNode}
use Rattle.pol_arena.proofs.RunLemmas.{kept_through, both_in_turn, in_turn_from_every}
use Rattle.pol_arena.proofs.PoolLemmas.{empty_at, empty_within, empty_is_none, empty_from_none, first_is_free, in_use_within, IsSound-put, IsSound-take, IsSound-write, count-write, Updates-set}

-- a number that a list has is counted
pub counted_where_listed : (xs : List ℕ) (x k : ℕ) → k < length xs → get_or xs k x ≡ x → 1 ≤ count_by (eqb x) xs
counted_where_listed [] x k within found = absurd (omega arith)
counted_where_listed (y ∷ ys) x zero within found =
    let same = eq-eqb x y (sym found) in
    let counted = sum_by-cons (λ z. cond (eqb x z) 1 0) y ys in
    grind arith
counted_where_listed (y ∷ ys) x (suc k) within found =
    omega (arith, sum_by-cons (λ z. cond (eqb x z) 1 0) y ys, counted_where_listed ys x k (omega arith) found)

-- a number that is counted is in the list
pub listed_where_counted : (xs : List ℕ) (x : ℕ) → 1 ≤ count_by (eqb x) xs → Contains xs x
listed_where_counted [] x counted = absurd (omega arith)
listed_where_counted (y ∷ ys) x counted =
    elim (eqb_tells x y) [
      | inl same ↦ (0, omega arith, sym same.1)
      | inr differs ↦
          let split = sum_by-cons (λ z. cond (eqb x z) 1 0) y ys in
          let later = listed_where_counted ys x (grind arith) in
          (suc later.0, omega (arith, later.1), later.2)
    ]

empty_where_counted : (b : Bool) (n : ℕ) → n ≡ cond b 1 0 → 1 ≤ n → b ≡ true
empty_where_counted true n is some = refl
empty_where_counted false n is some = absurd (omega arith)

counted_where_empty : (b : Bool) (n : ℕ) → n ≡ cond b 1 0 → b ≡ true → 1 ≤ n
counted_where_empty b n is empty = grind arith

module _ {T : Type 0} where
  -- an allowed operation keeps a pool sound
  pub IsSound-after : (p : Pool T) (o : Operation T) → IsSound p → IsAllowed p o → IsSound (after p o)
  IsSound-after p (Reserve nodes) sound allowed =
      let fits = sound.fits in
      let covered = sound.covered in
      record { free_once = sound.free_once; counted = sound.counted; covered = omega arith; fits = omega arith }
  IsSound-after p (Put value) sound allowed = IsSound-put p.slots p.free p.spare value sound allowed
  IsSound-after p (Take node) sound allowed = IsSound-take p.slots p.free p.spare node allowed sound
  IsSound-after p (Write node value) sound allowed = IsSound-write p.slots p.free p.spare node value allowed sound

  -- allowed operations keep a pool sound
  pub IsSound-after_all : (p : Pool T) (os : List (Operation T)) → IsSound p → AreAllowed p os → IsSound (after_all p os)
  IsSound-after_all = kept_through after IsAllowed (λ p. IsSound p) IsSound-after

  -- a write changes one node
  pub write_changes_one : WriteChangesOneNode T
  write_changes_one p node value sound used = (
    Updates-set p (with_value p node value) node (Some value) (in_use_within p.slots node used) refl,
    count-write p.slots node value used,
    IsSound-write p.slots p.free p.spare node value used sound,
  )

  -- a put leaves a node in use as it is
  stays_in_put : (slots : List (Option T)) (free : List ℕ) (spare : ℕ) (put : T) (node : ℕ) (value : T) → IsSound (record { slots = slots; free = free; spare = spare }) → get_or slots node None ≡ Some value → get_or (filled free slots put) node None ≡ Some value
  stays_in_put slots [] spare put node value sound at =
      get_or_append_left slots (Some put ∷ []) None node (in_use_within slots node (ap is_some at)) ∙ at
  stays_in_put slots (first ∷ rest) spare put node value sound at =
      let none = empty_is_none slots first (first_is_free slots first rest spare sound) in
      let differs : node ≢ first = λ same. differ (sym at ∙ ap (λ n. get_or slots n None) same ∙ none) in
      get_or-set_other slots first node (Some put) None differs ∙ at
    where
      differ : {value : T} → Some value ≡ None → ⊥
      differ e = cc

  -- an operation that leaves the node leaves its value
  stays_after : (p : Pool T) (o : Operation T) (node : ℕ) (value : T) → IsSound p → Leaves node o → node_at p node ≡ Some value → node_at (after p o) node ≡ Some value
  stays_after p (Reserve nodes) node value sound leaves at = at
  stays_after p (Put put) node value sound leaves at = stays_in_put p.slots p.free p.spare put node value sound at
  stays_after p (Take other) node value sound leaves at = get_or-set_other p.slots other node None None leaves ∙ at
  stays_after p (Write other written) node value sound leaves at = get_or-set_other p.slots other node (Some written) None leaves ∙ at

  pub stays_after_all : (p : Pool T) (os : List (Operation T)) (node : ℕ) (value : T) → IsSound p → AreAllowed p os → AllLeave node os → node_at p node ≡ Some value → node_at (after_all p os) node ≡ Some value
  stays_after_all p os node value sound allowed leave at =
      (kept_through after (λ q o. IsAllowed q o × Leaves node o) (λ q. IsSound q × (node_at q node ≡ Some value))
      (λ q o good each. (IsSound-after q o good.0 each.0, stays_after q o node value good.0 each.1 good.1))
      p os (sound, at) (both_in_turn after IsAllowed (λ _ o. Leaves node o) p os allowed (in_turn_from_every after (Leaves node) p os leave))).1

  -- the free list has a node exactly where it is empty
  pub Contains-free : (p : Pool T) (node : ℕ) → IsSound p → Contains p.free node ↔ ((node < length p.slots) × (node_at p node ≡ None))
  Contains-free p node sound = (
    λ listed. let empty = empty_where_counted (empty_at p.slots node) (count_by (eqb node) p.free) (sound.free_once node) (counted_where_listed p.free node listed.0 listed.1 listed.2) in
        (empty_within p.slots node empty, empty_is_none p.slots node empty),
    λ found. listed_where_counted p.free node (counted_where_empty (empty_at p.slots node) (count_by (eqb node) p.free) (sound.free_once node) (empty_from_none p.slots node found.0 found.1)),
  )
