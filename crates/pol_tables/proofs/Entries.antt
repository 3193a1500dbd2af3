-- Entries that stand under keys of their values: what is found and removed among them, as lists of values.
use Rattle.std.proofs.Common.{zero, suc, ◌≡◌, ℕ, Bool, true, false, not, cond, List, [], ◌∷◌, ◌++◌, length, filter, find, slice_get, None, Some, inl, inr, refl, sym, ap, ◌∙◌}
use Rattle.std.specs.List.{AllByRecursion, IsDistinct, insert, remove}
use Rattle.std.specs.Map.{IsKeyTest, keys_of, lookup, remove_entry, values_of}
use Rattle.std.proofs.lemmas.Bool.{both_ways, cases_Bool}
use Rattle.indexmap.specs.IndexMap.{IndexMap, get, insert_entry, insert_index, move_index}
use Rattle.indexmap.proofs.CallerLemmas.{insert_entry-new}
use Rattle.indexmap.proofs.MapLemmas.{absent_from_lookup, or_len-absent}
use Rattle.pol_data.proofs.Members.{In, every-in}
use Rattle.pol_tables.specs.Numbered.{PassOnce}
use Rattle.pol_tables.specs.Tied.{IsKeyed}

-- ---- lists
module _ {X : Type 0} (p : X → Bool) where
  pub kept_all : (xs : List X) → AllByRecursion (λ x. p x ≡ false) xs → filter (λ x. not (p x)) xs ≡ xs
  kept_all [] none = refl
  kept_all (x ∷ xs) none =
      let others = kept_all xs none.1 in
      rw (none.0, others) refl

  pub find-no : (xs : List X) → AllByRecursion (λ x. p x ≡ false) xs → find p xs ≡ None
  find-no [] none = refl
  find-no (x ∷ xs) none = rw none.0 (find-no xs none.1)

  pub not_found : (x : X) (xs : List X) → find p (x ∷ xs) ≡ None → (p x ≡ false) × (find p xs ≡ None)
  not_found x xs none = by (p x) none
    where
      by : (b : Bool) → cond b (Some x) (find p xs) ≡ None → (b ≡ false) × (find p xs ≡ None)
      by true is = absurd cc
      by false is = (refl, is)

  -- what is put in is found where none was found
  pub find-inserted : (i : ℕ) (x : X) (xs : List X) → (p x ≡ true → find p xs ≡ None) → find p (insert xs i x) ≡ cond (p x) (Some x) (find p xs)
  find-inserted zero x xs free = refl
  find-inserted (suc i) x [] free = refl
  find-inserted (suc i) x (y ∷ ys) free =
      elim (cases_Bool (p x)) [
        | inl here ↦
            let parts = not_found y ys (free here) in
            rw parts.0 (find-inserted i x ys (λ _. parts.1))
        | inr other ↦
            let later = find-inserted i x ys (λ here. absurd (let wrong : ⊥ = cc in wrong)) in
            rw (other) (ap (λ o. cond (p y) (Some y) o) (later ∙ ap (λ b. cond b (Some x) (find p ys)) other))
      ]

-- what passes the one test fails the other
pub find-kept : {X : Type 0} (p q : X → Bool) (xs : List X) → ((x : X) → In x xs → p x ≡ true → q x ≡ false) → find q (filter (λ x. not (p x)) xs) ≡ find q xs
find-kept p q [] apart = refl
find-kept p q (x ∷ xs) apart =
    let others = find-kept p q xs (λ y there. apart y (inr there)) in
    elim (cases_Bool (p x)) [
      | inl here ↦ rw (here, apart x (inl refl) here) others
      | inr other ↦ rw other (ap (λ o. cond (q x) (Some x) o) others)
    ]

-- what passes isn't left
pub find-left : {X : Type 0} (p : X → Bool) (xs : List X) → find p (filter (λ x. not (p x)) xs) ≡ None
find-left p [] = refl
find-left p (x ∷ xs) =
    elim (cases_Bool (p x)) [
      | inl here ↦ rw here (find-left p xs)
      | inr other ↦ rw (other, other) (find-left p xs)
    ]

module _ {X : Type 0} (x : X) where
  last_is : (xs : List X) → slice_get (xs ++ x ∷ []) (length xs) ≡ Some x
  last_is [] = refl
  last_is (y ∷ ys) = last_is ys

  last_gone : (xs : List X) → remove (xs ++ x ∷ []) (length xs) ≡ xs
  last_gone [] = refl
  last_gone (y ∷ ys) = ap (λ zs. y ∷ zs) (last_gone ys)

  -- the last element, moved
  pub last_moved : (xs : List X) (i : ℕ) → move_index (xs ++ x ∷ []) (length xs) i ≡ insert xs i x
  last_moved xs i = rw (last_is xs, last_gone xs) refl

-- ---- entries
module _ {K V : Type 0} where
  pub values-insert : (es : List (K × V)) (i : ℕ) (e : K × V) → values_of (insert es i e) ≡ insert (values_of es) i e.1
  values-insert es zero e = refl
  values-insert [] (suc i) e = refl
  values-insert (f ∷ es) (suc i) e = ap (λ vs. f.1 ∷ vs) (values-insert es i e)

  pub inserted_at : {S : Type 0} (eq : K → K → Bool) (m : IndexMap K V S) (k : K) (v : V) (i : ℕ) → get eq m k ≡ None
      → move_index (insert_entry eq m.entries k v) (insert_index eq m k) i ≡ insert m.entries i (k, v)
  inserted_at eq m k v i none =
      (λ j. move_index (insert_entry-new eq m k v none j) (or_len-absent (eq k) m.entries (absent_from_lookup (eq k) m.entries none) j) i)
      ∙ last_moved (k, v) m.entries i

  keyed_removed : {X : Type 0} (shown : K → X) (key : V → X) (b : Bool) (e : K × V) (es fs : List (K × V))
      → IsKeyed shown key (e ∷ es) → IsKeyed shown key fs → IsKeyed shown key (cond b es (e ∷ fs))
  keyed_removed shown key true e es fs all less = all.1
  keyed_removed shown key false e es fs all less = (all.0, less)

  pub keyed-remove : {X : Type 0} (shown : K → X) (key : V → X) (test : K → Bool) (es : List (K × V)) → IsKeyed shown key es → IsKeyed shown key (remove_entry test es)
  keyed-remove shown key test [] all = tt
  keyed-remove shown key test (e ∷ es) all = keyed_removed shown key (test e.0) e es (remove_entry test es) all (keyed-remove shown key test es all.1)

-- one value at most passes
module _ {V : Type 0} (passes : V → Bool) where
  -- which is the one that is found
  pub one_passes : (v w : V) (vs : List V) → PassOnce passes vs → find passes vs ≡ Some w → In v vs → passes v ≡ true → v ≡ w
  one_passes v w [] once is there here = elim there [ ]
  one_passes v w (x ∷ vs) once is there here =
      elim (cases_Bool (passes x)) [
        | inl first ↦
            let found : Some x ≡ Some w = rw first at is in
            let own : x ≡ w = cc in
            elim there [
              | inl same ↦ sym same ∙ own
              | inr later ↦ absurd (both_ways (passes v) (every-in (λ y. passes y ≡ false) vs (once.0 first) v later) here)
            ]
        | inr other ↦
            let found : find passes vs ≡ Some w = rw other at is in
            elim there [
              | inl same ↦ absurd (both_ways (passes x) other (ap passes same ∙ here))
              | inr later ↦ one_passes v w vs once.1 found later here
            ]
      ]

module _ {K V : Type 0} (test : K → Bool) (passes : V → Bool) where
  -- each key passes where its value does
  abbrev pub Agree : List (K × V) → Type 0
  Agree es = AllByRecursion (λ e. test e.0 ≡ passes e.1) es

  pub agree-keyed : {X : Type 0} (shown : K → X) (key : V → X) → ((k : K) (v : V) → shown k ≡ key v → test k ≡ passes v) → (es : List (K × V)) → IsKeyed shown key es → Agree es
  agree-keyed shown key same [] all = tt
  agree-keyed shown key same (e ∷ es) all = (same e.0 e.1 all.0, agree-keyed shown key same es all.1)

  pub found_by : (es : List (K × V)) → Agree es → lookup test es ≡ find passes (values_of es)
  found_by [] agree = refl
  found_by (e ∷ es) agree =
      ap (λ b. cond b (Some e.1) (lookup test es)) agree.0 ∙ ap (λ o. cond (passes e.1) (Some e.1) o) (found_by es agree.1)

  module _ {eq : K → K → Bool} (laws : IsKeyTest eq test) where
    others_fail : (k : K) → test k ≡ true → (es : List (K × V)) → Agree es → AllByRecursion (λ other. eq k other ≡ false) (keys_of es) → AllByRecursion (λ v. passes v ≡ false) (values_of es)
    others_fail k here [] agree apart = tt
    others_fail k here (e ∷ es) agree apart = (sym agree.0 ∙ laws k e.0 here ∙ apart.0, others_fail k here es agree.1 apart.1)

    pub pass_once : (es : List (K × V)) → Agree es → IsDistinct eq (keys_of es) → PassOnce passes (values_of es)
    unfolding IsDistinct
    pass_once [] agree apart = tt
    pass_once (e ∷ es) agree apart = (λ here. others_fail e.0 (agree.0 ∙ here) es agree.1 apart.0, pass_once es agree.1 apart.1)

  pub removed_by : (es : List (K × V)) → Agree es → PassOnce passes (values_of es) → values_of (remove_entry test es) ≡ filter (λ v. not (passes v)) (values_of es)
  removed_by [] agree once = refl
  removed_by (e ∷ es) agree once =
      elim (cases_Bool (passes e.1)) [
        | inl here ↦
            let key : test e.0 ≡ true = agree.0 ∙ here in
            rw (key, here) (sym (kept_all passes (values_of es) (once.0 here)))
        | inr other ↦
            let key : test e.0 ≡ false = agree.0 ∙ other in
            rw (key, other) (ap (λ vs. e.1 ∷ vs) (removed_by es agree.1 once.1))
      ]
