-- Elements in the order of a number: how many stand below a bound, which one has a number, and the last one.
use Rattle.std.proofs.Common.{zero, suc, ◌≡◌, ℕ, ◌+◌, ◌-◌, ◌<◌, ◌≤◌, ◌==◌, ◌≢◌, Bool, true, false, cond, nat_lt, List, [], ◌∷◌, length, map, find, count_by, slice_get, get_or, Option, None, Some, inl, inr, refl, sym, ap, ◌∙◌, arith}
use Rattle.std.specs.List.{AllByRecursion, slice_index_or}
use Rattle.std.specs.List.Sorted.{IsNonDecreasingBy, IsPartitionPoint}
use Rattle.std.specs.Option.{option_map_or}
use Rattle.std.proofs.lemmas.Bool.{cases_lt, eq-eqb, le-ltb, lt-ltb, ne_eqb}
use Rattle.pol_data.proofs.Counts.{count_by-cons}
use Rattle.pol_model.specs.declared.row.Endpoint.{Endpoint}
use Rattle.pol_model.specs.Ascending.{Ascends}
use Rattle.pol_model.specs.Committed.{slots_of}
use Rattle.pol_tables.specs.Tables.{endpoint_in}

module _ {X : Type 0} (p : X → Bool) where
  count_nothing : (xs : List X) → ((k : ℕ) (d : X) → k < length xs → p (slice_index_or xs k d) ≡ false) → count_by p xs ≡ 0
  count_nothing [] none = refl
  count_nothing (x ∷ xs) none =
      count_by-cons p x xs ∙ rw (none 0 x (omega arith)) (omega (arith, count_nothing xs (λ k d below. none (suc k) d (omega arith))))

  -- where the first so many pass and the others fail, so many pass
  pub count_to_point : (xs : List X) (i : ℕ) → i ≤ length xs → IsPartitionPoint (λ x. p x ≡ true) (λ x. p x ≡ false) xs i → count_by p xs ≡ i
  count_to_point xs zero within point = count_nothing xs (λ k d below. point.1 k d (omega arith) below)
  count_to_point [] (suc i) within point = absurd (omega arith)
  count_to_point (x ∷ xs) (suc i) within point =
      count_by-cons p x xs
      ∙ rw (point.0 0 x (omega arith) (omega arith))
      (omega (arith, count_to_point xs i (omega arith) (λ k d low below. point.0 (suc k) d (omega arith) (omega arith), λ k d low below. point.1 (suc k) d (omega arith) (omega arith))))

-- the option, where it passes
abbrev pub if_passes : {X : Type 0} → (X → Bool) → Option X → Option X
if_passes p None = None
if_passes p (Some x) = cond (p x) (Some x) None

module _ {X : Type 0} (number : X → ℕ) where
  above_at : (m : ℕ) (xs : List X) (j : ℕ) (d : X) → AllByRecursion (λ n. m < n) (map number xs) → j < length xs → m < number (get_or xs j d)
  above_at m [] j d above within = absurd (omega arith)
  above_at m (x ∷ xs) zero d above within = above.0
  above_at m (x ∷ xs) (suc j) d above within = above_at m xs j d above.1 (omega arith)

  pub rises : (xs : List X) → Ascends (map number xs) → IsNonDecreasingBy number xs
  rises [] ascends i j d less within = absurd (omega arith)
  rises (x ∷ xs) ascends zero zero d less within = omega arith
  rises (x ∷ xs) ascends zero (suc j) d less within = let above = above_at (number x) xs j d ascends.0 (omega arith) in omega arith
  rises (x ∷ xs) ascends (suc i) zero d less within = absurd (omega arith)
  rises (x ∷ xs) ascends (suc i) (suc j) d less within = rises xs ascends.1 i j d (omega arith) (omega arith)

  abbrev lesser : ℕ → List X → ℕ
  lesser n xs = count_by (λ x. nat_lt (number x) n) xs

  none_lesser : (n m : ℕ) (xs : List X) → n ≤ m → AllByRecursion (λ k. m < k) (map number xs) → lesser n xs ≡ 0
  none_lesser n m [] less above = refl
  none_lesser n m (x ∷ xs) less above =
      let here = above.0 in
      count_by-cons (λ y. nat_lt (number y) n) x xs
      ∙ rw (le-ltb (number x) n (omega arith)) (omega (arith, none_lesser n m xs less above.1))

  none_equal : (n m : ℕ) (xs : List X) → n ≤ m → AllByRecursion (λ k. m < k) (map number xs) → find (λ x. number x == n) xs ≡ None
  none_equal n m [] less above = refl
  none_equal n m (x ∷ xs) less above =
      let here = above.0 in
      let differs : number x == n ≡ false = ne_eqb (number x) n (λ same. (let is : number x ≡ n = same in omega arith)) in
      rw differs (none_equal n m xs less above.1)

  -- the element of a number stands behind those of a lesser one
  pub found_in_order : (n : ℕ) (xs : List X) → Ascends (map number xs) → find (λ x. number x == n) xs ≡ if_passes (λ x. number x == n) (slice_get xs (lesser n xs))
  found_in_order n [] ascends = refl
  found_in_order n (x ∷ xs) ascends =
      elim (cases_lt (number x) n) [
        | inl below ↦
            let counted : lesser n (x ∷ xs) ≡ suc (lesser n xs) = count_by-cons (λ y. nat_lt (number y) n) x xs ∙ rw (lt-ltb (number x) n below) (omega arith) in
            let differs : number x == n ≡ false = ne_eqb (number x) n (λ same. (let is : number x ≡ n = same in omega arith)) in
            ap (λ b. cond b (Some x) (find (λ y. number y == n) xs)) differs
            ∙ found_in_order n xs ascends.1
            ∙ sym (ap (λ i. if_passes (λ y. number y == n) (slice_get (x ∷ xs) i)) counted)
        | inr above ↦
            let counted : lesser n (x ∷ xs) ≡ 0 = count_by-cons (λ y. nat_lt (number y) n) x xs ∙ rw (le-ltb (number x) n above) (omega (arith, none_lesser n (number x) xs above ascends.0)) in
            ap (λ o. cond (number x == n) (Some x) o) (none_equal n (number x) xs above ascends.0)
            ∙ sym (ap (λ i. if_passes (λ y. number y == n) (slice_get (x ∷ xs) i)) counted)
      ]

-- ---- the last slot
slots_above : (m : ℕ) (endpoint : Endpoint) (others : List Endpoint) → m < endpoint.slot → m + 1 < slots_of (endpoint ∷ others)
slots_above m endpoint others less = omega arith

pub last_slot : (endpoints : List Endpoint) → Ascends (map (λ endpoint. endpoint.slot) endpoints)
    → slots_of endpoints ≡ option_map_or (λ endpoint. endpoint.slot + 1) (slice_get endpoints (length endpoints - 1)) 0
last_slot [] ascends = refl
last_slot (endpoint ∷ []) ascends = omega arith
last_slot (endpoint ∷ other ∷ others) ascends =
    let rest = last_slot (other ∷ others) ascends.1 in
    let above = slots_above endpoint.slot other others ascends.0.0 in
    let greater : slots_of (endpoint ∷ other ∷ others) ≡ slots_of (other ∷ others) = omega arith in
    let last : length (endpoint ∷ other ∷ others) - 1 ≡ suc (length (other ∷ others) - 1) = omega arith in
    greater ∙ rest ∙ sym (ap (λ i. option_map_or (λ (e : Endpoint). e.slot + 1) (slice_get (endpoint ∷ other ∷ others) i) 0) last)

-- ---- the element at the place of a number
module _ (n : ℕ) (endpoints : List Endpoint) (ascends : Ascends (map (λ endpoint. endpoint.slot) endpoints)) where
  abbrev lower : ℕ
  lower = count_by (λ endpoint. nat_lt endpoint.slot n) endpoints

  stands : (o : Option Endpoint) → slice_get endpoints lower ≡ o → find (λ endpoint. endpoint.slot == n) endpoints ≡ if_passes (λ endpoint. endpoint.slot == n) o
  stands o at = found_in_order (λ endpoint. endpoint.slot) n endpoints ascends ∙ ap (if_passes (λ endpoint. endpoint.slot == n)) at

  pub slot_there : (endpoint : Endpoint) → slice_get endpoints lower ≡ Some endpoint → endpoint.slot ≡ n → endpoint_in n endpoints ≡ Some endpoint
  slot_there endpoint at same = stands (Some endpoint) at ∙ ap (λ b. cond b (Some endpoint) None) (eq-eqb endpoint.slot n same)

  pub slot_other : (endpoint : Endpoint) → slice_get endpoints lower ≡ Some endpoint → endpoint.slot ≢ n → endpoint_in n endpoints ≡ None
  slot_other endpoint at differs = stands (Some endpoint) at ∙ ap (λ b. cond b (Some endpoint) None) (ne_eqb endpoint.slot n differs)

  pub slot_nowhere : slice_get endpoints lower ≡ None → endpoint_in n endpoints ≡ None
  slot_nowhere at = stands None at

-- what a slice's `get` tells
pub read_at : {X : Type 0} (xs : List X) (i : ℕ) (x : X) → i < length xs → x ≡ get_or xs i x → slice_get xs i ≡ Some x
read_at [] i x within is = absurd (omega arith)
read_at (y ∷ ys) zero x within is = ap Some (sym is)
read_at (y ∷ ys) (suc i) x within is = read_at ys i x (omega arith) is

pub read_past : {X : Type 0} (xs : List X) (i : ℕ) → length xs ≤ i → slice_get xs i ≡ None
read_past [] i past = refl
read_past (y ∷ ys) zero past = absurd (omega arith)
read_past (y ∷ ys) (suc i) past = read_past ys i (omega arith)
