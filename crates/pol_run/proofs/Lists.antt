-- What holds of every element of a list, and the least and the greatest of numbers.
use Rattle.std.proofs.Common.{◌≡◌, ℕ, suc, ◌≤◌, Bool, true, false, cond, IsTrue, List, [], ◌∷◌, ◌++◌, length, map, filter, flat_map, Contains, refl, sym, subst, arith}
use Rattle.std.specs.List.{AllByRecursion}
use Rattle.std.proofs.lemmas.List.Elements.{All-contains, All-from_recursion}
use Rattle.pol_run.specs.Moments.{least, greatest}

module _ {X : Type 0} (P : X → Type 0) where
  pub every_append : (xs ys : List X) → AllByRecursion P xs → AllByRecursion P ys → AllByRecursion P (xs ++ ys)
  every_append [] ys front back = back
  every_append (x ∷ xs) ys front back = (front.0, every_append xs ys front.1 back)

  -- what holds of every element holds of one that the list contains
  pub every_contained : (xs : List X) (x : X) → AllByRecursion P xs → Contains xs x → P x
  every_contained xs x every found = All-contains P xs x (All-from_recursion P xs every) found

  every_chosen : (passes : Bool) (x : X) (xs : List X) → (IsTrue passes → P x) → AllByRecursion P xs
      → AllByRecursion P (cond passes (x ∷ xs) xs)
  every_chosen true x xs here others = (here refl, others)
  every_chosen false x xs here others = others

  -- of a filter it is enough that those that pass have it
  pub every_filtered : (p : X → Bool) (xs : List X) → AllByRecursion (λ x. IsTrue (p x) → P x) xs → AllByRecursion P (filter p xs)
  every_filtered p [] every = tt
  every_filtered p (x ∷ xs) every = every_chosen (p x) x (filter p xs) every.0 (every_filtered p xs every.1)

  pub every_mapped : {Y : Type 0} (f : Y → X) (ys : List Y) → AllByRecursion (λ y. P (f y)) ys → AllByRecursion P (map f ys)
  every_mapped f [] every = tt
  every_mapped f (y ∷ ys) every = (every.0, every_mapped f ys every.1)

  pub every_flat : {Y : Type 0} (f : Y → List X) (ys : List Y) → AllByRecursion (λ y. AllByRecursion P (f y)) ys
      → AllByRecursion P (flat_map f ys)
  every_flat f [] every = tt
  every_flat f (y ∷ ys) every = every_append (f y) (flat_map f ys) every.0 (every_flat f ys every.1)

pub every_weaker : {X : Type 0} (P Q : X → Type 0) → ((x : X) → P x → Q x) → (xs : List X) → AllByRecursion P xs → AllByRecursion Q xs
every_weaker P Q weaker [] every = tt
every_weaker P Q weaker (x ∷ xs) every = (weaker x every.0, every_weaker P Q weaker xs every.1)

none_chosen : {X : Type 0} (passes : Bool) (x : X) (xs : List X) → (IsTrue passes → ⊥) → cond passes (x ∷ xs) xs ≡ xs
none_chosen true x xs never = absurd (never refl)
none_chosen false x xs never = refl

-- a filter that nothing passes
pub filter_none : {X : Type 0} (p : X → Bool) (xs : List X) → AllByRecursion (λ x. IsTrue (p x) → ⊥) xs → length (filter p xs) ≤ 0
filter_none p [] never = omega arith
filter_none p (x ∷ xs) never =
    subst (λ (ys : List _). length ys ≤ 0) (sym (none_chosen (p x) x (filter p xs) never.0)) (filter_none p xs never.1)

pub length_chosen : {X : Type 0} (passes : Bool) (x : X) (xs : List X) (n : ℕ) → length xs ≤ n → length (cond passes (x ∷ xs) xs) ≤ suc n
length_chosen true x xs n short = omega arith
length_chosen false x xs n short = omega arith

-- where nothing in the back passes, no more pass than the front has
pub filter_front : {X : Type 0} (p : X → Bool) (front back : List X) → AllByRecursion (λ x. IsTrue (p x) → ⊥) back
    → length (filter p (front ++ back)) ≤ length front
filter_front p [] back never = filter_none p back never
filter_front p (x ∷ xs) back never = length_chosen (p x) x (filter p (xs ++ back)) (length xs) (filter_front p xs back never)

pub greatest_bound : (n : ℕ) (ns : List ℕ) → AllByRecursion (λ k. k ≤ n) ns → greatest ns ≤ n
greatest_bound n [] every = omega arith
greatest_bound n (k ∷ ks) every = let others : greatest ks ≤ n = greatest_bound n ks every.1 in omega (arith, every.0)

pub least_bound : (n limit : ℕ) (ns : List ℕ) → n ≤ limit → AllByRecursion (λ k. n ≤ k) ns → n ≤ least limit ns
least_bound n limit [] within every = within
least_bound n limit (k ∷ ks) within every = let others : n ≤ least limit ks = least_bound n limit ks within every.1 in omega (arith, every.0)

pub least_within : (limit : ℕ) (ns : List ℕ) → least limit ns ≤ limit
least_within limit [] = omega arith
least_within limit (k ∷ ks) = let others : least limit ks ≤ limit = least_within limit ks in omega arith
