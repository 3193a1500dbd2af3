-- Values with the numbers of their arrival beside them: which number the value that passes has, and where it stands.
use Rattle.std.proofs.Common.{zero, suc, ◌≡◌, ℕ, ◌+◌, ◌<◌, ◌≤◌, Bool, true, false, not, cond, List, [], ◌∷◌, ◌++◌, length, filter, find, count_by, nat_lt, remove, slice_get, slice_set, Option, None, Some, option_map, inl, inr, refl, sym, ap, ◌∙◌, subst, arith}
use Rattle.std.specs.List.{AllByRecursion}
use Rattle.std.proofs.lemmas.Bool.{both_ways, cases_Bool, le-ltb, lt-ltb}
use Rattle.std.proofs.lemmas.List.{length-append}
use Rattle.pol_data.proofs.Counts.{count_by-cons}
use Rattle.pol_model.specs.Ascending.{Ascends}
use Rattle.pol_tables.specs.Numbered.{PassOnce, number_of, place_of}

-- ---- the numbers
all_remove : {X : Type 0} (P : X → Type 0) (xs : List X) (i : ℕ) → AllByRecursion P xs → AllByRecursion P (remove xs i)
all_remove P [] zero all = tt
all_remove P [] (suc i) all = tt
all_remove P (x ∷ xs) zero all = all.1
all_remove P (x ∷ xs) (suc i) all = (all.0, all_remove P xs i all.1)

pub less_remove : (next : ℕ) (ns : List ℕ) (i : ℕ) → AllByRecursion (λ n. n < next) ns → AllByRecursion (λ n. n < next) (remove ns i)
less_remove next = all_remove (λ n. n < next)

pub ascends-remove : (ns : List ℕ) (i : ℕ) → Ascends ns → Ascends (remove ns i)
ascends-remove [] zero ascends = tt
ascends-remove [] (suc i) ascends = tt
ascends-remove (n ∷ ns) zero ascends = ascends.1
ascends-remove (n ∷ ns) (suc i) ascends = (all_remove (λ m. n < m) ns i ascends.0, ascends-remove ns i ascends.1)

pub less_push : (next : ℕ) (ns : List ℕ) → AllByRecursion (λ n. n < next) ns → AllByRecursion (λ n. n < next + 1) (ns ++ next ∷ [])
less_push next [] less = (omega arith, tt)
less_push next (n ∷ ns) less = let here = less.0 in (omega arith, less_push next ns less.1)

above_push : (m next : ℕ) (ns : List ℕ) → m < next → AllByRecursion (λ n. m < n) ns → AllByRecursion (λ n. m < n) (ns ++ next ∷ [])
above_push m next [] here above = (here, tt)
above_push m next (n ∷ ns) here above = (above.0, above_push m next ns here above.1)

pub ascends-push : (next : ℕ) (ns : List ℕ) → AllByRecursion (λ n. n < next) ns → Ascends ns → Ascends (ns ++ next ∷ [])
ascends-push next [] less ascends = (tt, tt)
ascends-push next (n ∷ ns) less ascends = (above_push n next ns less.0 ascends.0, ascends-push next ns less.1 ascends.1)

none_less : (m : ℕ) (ns : List ℕ) (n : ℕ) → n ≤ m → AllByRecursion (λ k. m < k) ns → count_by (λ k. nat_lt k n) ns ≡ 0
none_less m [] n least above = refl
none_less m (k ∷ ns) n least above =
    let here = above.0 in
    count_by-cons (λ j. nat_lt j n) k ns ∙ rw (le-ltb k n (omega arith)) (omega (arith, none_less m ns n least above.1))

module _ {X : Type 0} (p : X → Bool) where
  number_above : (m n : ℕ) (xs : List X) (ns : List ℕ) → AllByRecursion (λ k. m < k) ns → number_of p xs ns ≡ Some n → m < n
  number_above m n [] ns above is = absurd cc
  number_above m n (x ∷ xs) [] above is = absurd cc
  number_above m n (x ∷ xs) (k ∷ ns) above is = by (p x) is (number_above m n xs ns above.1)
    where
      by : (b : Bool) → cond b (Some k) (number_of p xs ns) ≡ Some n → (number_of p xs ns ≡ Some n → m < n) → m < n
      by true is later = let same : k ≡ n = cc in subst (λ j. m < j) same above.0
      by false is later = later is

  -- so many numbers are less as stand before it
  pub place_by_number : (xs : List X) (ns : List ℕ) → length ns ≡ length xs → Ascends ns → option_map (λ n. count_by (λ k. nat_lt k n) ns) (number_of p xs ns) ≡ place_of p xs
  place_by_number [] ns long ascends = refl
  place_by_number (x ∷ xs) [] long ascends = absurd (omega arith)
  place_by_number (x ∷ xs) (m ∷ ns) long ascends = by (p x) (place_by_number xs ns (omega (arith, long)) ascends.1)
    where
      counted : ℕ → ℕ
      counted n = count_by (λ k. nat_lt k n) (m ∷ ns)

      later : (o : Option ℕ) → number_of p xs ns ≡ o → option_map counted o ≡ option_map suc (option_map (λ n. count_by (λ k. nat_lt k n) ns) o)
      later None is = refl
      later (Some n) is =
          ap Some (count_by-cons (λ k. nat_lt k n) m ns ∙ rw (lt-ltb m n (number_above m n xs ns ascends.0 is)) (omega arith))

      by : (b : Bool) → option_map (λ n. count_by (λ k. nat_lt k n) ns) (number_of p xs ns) ≡ place_of p xs → option_map counted (cond b (Some m) (number_of p xs ns)) ≡ cond b (Some 0) (option_map suc (place_of p xs))
      by true others = ap Some (count_by-cons (λ k. nat_lt k m) m ns ∙ rw (le-ltb m m (omega arith)) (omega (arith, none_less m ns m (omega arith) ascends.0)))
      by false others = later (number_of p xs ns) refl ∙ ap (option_map suc) others

  -- ---- the value at the place
  suc_of : (o : Option ℕ) (i : ℕ) → option_map suc o ≡ Some (suc i) → o ≡ Some i
  suc_of None i is = absurd cc
  suc_of (Some j) i is = cc

  none_of : (o : Option ℕ) → option_map suc o ≡ None → o ≡ None
  none_of None is = refl
  none_of (Some j) is = absurd cc

  pub zero_of : (b : Bool) (o : Option ℕ) → cond b (Some 0) (option_map suc o) ≡ Some 0 → b ≡ true
  zero_of true o is = refl
  zero_of false None is = absurd cc
  zero_of false (Some j) is = absurd cc

  pub later_of : (b : Bool) (o : Option ℕ) (i : ℕ) → cond b (Some 0) (option_map suc o) ≡ Some (suc i) → (b ≡ false) × (o ≡ Some i)
  later_of true o i is = absurd cc
  later_of false o i is = (refl, suc_of o i is)

  nowhere_of : (b : Bool) (o : Option ℕ) → cond b (Some 0) (option_map suc o) ≡ None → (b ≡ false) × (o ≡ None)
  nowhere_of true o is = absurd cc
  nowhere_of false o is = (refl, none_of o is)

  pub place_within : (xs : List X) (i : ℕ) → place_of p xs ≡ Some i → i < length xs
  place_within [] i is = absurd cc
  place_within (x ∷ xs) zero is = omega arith
  place_within (x ∷ xs) (suc i) is = let below = place_within xs i (later_of (p x) (place_of p xs) i is).1 in omega arith

  pub found_at : (xs : List X) (i : ℕ) → place_of p xs ≡ Some i → slice_get xs i ≡ find p xs
  found_at [] i is = absurd cc
  found_at (x ∷ xs) zero is = sym (ap (λ b. cond b (Some x) (find p xs)) (zero_of (p x) (place_of p xs) is))
  found_at (x ∷ xs) (suc i) is =
      let other = later_of (p x) (place_of p xs) i is in
      found_at xs i other.1 ∙ sym (ap (λ b. cond b (Some x) (find p xs)) other.0)

  pub nobody : (xs : List X) → place_of p xs ≡ None → AllByRecursion (λ x. p x ≡ false) xs
  nobody [] is = tt
  nobody (x ∷ xs) is = let other = nowhere_of (p x) (place_of p xs) is in (other.0, nobody xs other.1)

  pub none_found : (xs : List X) → AllByRecursion (λ x. p x ≡ false) xs → find p xs ≡ None
  none_found [] none = refl
  none_found (x ∷ xs) none = rw none.0 (none_found xs none.1)

  pub none_filtered : (xs : List X) → AllByRecursion (λ x. p x ≡ false) xs → filter (λ x. not (p x)) xs ≡ xs
  none_filtered [] none = refl
  none_filtered (x ∷ xs) none = rw none.0 (ap (λ ys. x ∷ ys) (none_filtered xs none.1))

  no_number : (xs : List X) (ns : List ℕ) → AllByRecursion (λ x. p x ≡ false) xs → number_of p xs ns ≡ None
  no_number [] ns none = refl
  no_number (x ∷ xs) [] none = refl
  no_number (x ∷ xs) (n ∷ ns) none = rw none.0 (no_number xs ns none.1)

  pub once-remove : (xs : List X) (i : ℕ) → PassOnce p xs → PassOnce p (remove xs i)
  once-remove [] zero once = tt
  once-remove [] (suc i) once = tt
  once-remove (x ∷ xs) zero once = once.1
  once-remove (x ∷ xs) (suc i) once = (λ here. all_remove (λ y. p y ≡ false) xs i (once.0 here), once-remove xs i once.1)

  -- what is removed there is all that passes
  pub removed_at : (xs : List X) (i : ℕ) → place_of p xs ≡ Some i → PassOnce p xs → remove xs i ≡ filter (λ x. not (p x)) xs
  removed_at [] i is once = absurd cc
  removed_at (x ∷ xs) zero is once =
      let here = zero_of (p x) (place_of p xs) is in
      rw here (sym (none_filtered xs (once.0 here)))
  removed_at (x ∷ xs) (suc i) is once =
      let other = later_of (p x) (place_of p xs) i is in
      rw other.0 (ap (λ ys. x ∷ ys) (removed_at xs i other.1 once.1))

  pub number_gone : (xs : List X) (ns : List ℕ) (i : ℕ) → place_of p xs ≡ Some i → PassOnce p xs → number_of p (remove xs i) (remove ns i) ≡ None
  number_gone [] ns i is once = absurd cc
  number_gone (x ∷ xs) ns zero is once = no_number xs (remove ns 0) (once.0 (zero_of (p x) (place_of p xs) is))
  number_gone (x ∷ xs) [] (suc i) is once = refl
  number_gone (x ∷ xs) (n ∷ ns) (suc i) is once =
      let other = later_of (p x) (place_of p xs) i is in
      rw other.0 (number_gone xs ns i other.1 once.1)

  -- ---- another test
  module _ (q : X → Bool) where
    pub number_stays : (xs : List X) (ns : List ℕ) (i : ℕ) → length ns ≡ length xs → place_of p xs ≡ Some i → ((x : X) → p x ≡ true → q x ≡ false) → number_of q (remove xs i) (remove ns i) ≡ number_of q xs ns
    number_stays [] ns i long is apart = absurd cc
    number_stays (x ∷ xs) [] i long is apart = absurd (omega arith)
    number_stays (x ∷ xs) (n ∷ ns) zero long is apart = rw (apart x (zero_of (p x) (place_of p xs) is)) refl
    number_stays (x ∷ xs) (n ∷ ns) (suc i) long is apart =
        let other = later_of (p x) (place_of p xs) i is in
        ap (λ o. cond (q x) (Some n) o) (number_stays xs ns i (omega (arith, long)) other.1 apart)

    pub number_set : (new : X) (xs : List X) (ns : List ℕ) (i : ℕ) → place_of p xs ≡ Some i → ((x : X) → p x ≡ true → q new ≡ q x) → number_of q (slice_set xs i new) ns ≡ number_of q xs ns
    number_set new [] ns i is same = absurd cc
    number_set new (x ∷ xs) [] zero is same = refl
    number_set new (x ∷ xs) [] (suc i) is same = refl
    number_set new (x ∷ xs) (n ∷ ns) zero is same = ap (λ b. cond b (Some n) (number_of q xs ns)) (same x (zero_of (p x) (place_of p xs) is))
    number_set new (x ∷ xs) (n ∷ ns) (suc i) is same =
        let other = later_of (p x) (place_of p xs) i is in
        ap (λ o. cond (q x) (Some n) o) (number_set new xs ns i other.1 same)

    none-set : (new : X) (xs : List X) (i : ℕ) → place_of p xs ≡ Some i → ((x : X) → p x ≡ true → q new ≡ q x) → AllByRecursion (λ x. q x ≡ false) xs → AllByRecursion (λ x. q x ≡ false) (slice_set xs i new)
    none-set new [] i is same none = tt
    none-set new (x ∷ xs) zero is same none = (same x (zero_of (p x) (place_of p xs) is) ∙ none.0, none.1)
    none-set new (x ∷ xs) (suc i) is same none = (none.0, none-set new xs i (later_of (p x) (place_of p xs) i is).1 same none.1)

    pub once-set : (new : X) (xs : List X) (i : ℕ) → place_of p xs ≡ Some i → ((x : X) → p x ≡ true → q new ≡ q x) → PassOnce q xs → PassOnce q (slice_set xs i new)
    once-set new [] i is same once = tt
    once-set new (x ∷ xs) zero is same once = (λ here. once.0 (sym (same x (zero_of (p x) (place_of p xs) is)) ∙ here), once.1)
    once-set new (x ∷ xs) (suc i) is same once =
        let other = later_of (p x) (place_of p xs) i is in
        (λ here. none-set new xs i other.1 same (once.0 here), once-set new xs i other.1 same once.1)

    pub number_push : (new : X) (next : ℕ) (xs : List X) (ns : List ℕ) → length ns ≡ length xs → (q new ≡ true → AllByRecursion (λ x. q x ≡ false) xs)
        → number_of q (xs ++ new ∷ []) (ns ++ next ∷ []) ≡ cond (q new) (Some next) (number_of q xs ns)
    number_push new next [] [] long free = refl
    number_push new next [] (n ∷ ns) long free = absurd (omega arith)
    number_push new next (x ∷ xs) [] long free = absurd (omega arith)
    number_push new next (x ∷ xs) (n ∷ ns) long free =
        ap (λ o. cond (q x) (Some n) o) (number_push new next xs ns (omega (arith, long)) (λ here. (free here).1))
        ∙ by (q new) (q x) (λ here. (free here).0)
      where
        by : (b c : Bool) → (b ≡ true → c ≡ false) → cond c (Some n) (cond b (Some next) (number_of q xs ns)) ≡ cond b (Some next) (cond c (Some n) (number_of q xs ns))
        by true c apart = rw (apart refl) refl
        by false c apart = refl

    none-push : (new : X) (xs : List X) → q new ≡ false → AllByRecursion (λ x. q x ≡ false) xs → AllByRecursion (λ x. q x ≡ false) (xs ++ new ∷ [])
    none-push new [] here none = (here, tt)
    none-push new (x ∷ xs) here none = (none.0, none-push new xs here none.1)

    pub once-push : (new : X) (xs : List X) → (q new ≡ true → AllByRecursion (λ x. q x ≡ false) xs) → PassOnce q xs → PassOnce q (xs ++ new ∷ [])
    once-push new [] free once = (λ here. tt, tt)
    once-push new (x ∷ xs) free once =
        (λ here. none-push new xs (other here) (once.0 here), once-push new xs (λ passes. (free passes).1) once.1)
      where
        other : q x ≡ true → q new ≡ false
        other here =
            elim (cases_Bool (q new)) [
              | inl passes ↦ absurd (both_ways (q x) (free passes).0 here)
              | inr fails ↦ fails
            ]

pub length-push : {X : Type 0} (x : X) (xs : List X) → length (xs ++ x ∷ []) ≡ length xs + 1
length-push x xs = omega (arith, length-append xs (x ∷ []))

pub length-gone : {X Y : Type 0} (xs : List X) (ys : List Y) (i : ℕ) → length xs ≡ length ys → length (remove xs i) ≡ length (remove ys i)
length-gone [] [] zero long = refl
length-gone [] [] (suc i) long = refl
length-gone [] (y ∷ ys) i long = absurd (omega arith)
length-gone (x ∷ xs) [] i long = absurd (omega arith)
length-gone (x ∷ xs) (y ∷ ys) zero long = omega (arith, long)
length-gone (x ∷ xs) (y ∷ ys) (suc i) long = ap suc (length-gone xs ys i (omega (arith, long)))
