-- Sums over the first n numbers, and the sum over a list of what is split among n kinds.
use Rattle.std.proofs.Common.{◌≡◌, ◌≢◌, ℕ, zero, suc, ◌+◌, ◌<◌, ◌≤◌, inl, inr, List, [], ◌∷◌, length, slice_get, Option, None, Some, refl, sym, subst, arith}
use Rattle.std.specs.Prelude.{sum_by}
use Rattle.std.specs.List.{AllByRecursion, filter_map, cons_option}
use Rattle.std.proofs.lemmas.Bool.{cases_eq}
use Rattle.std.proofs.lemmas.List.Sums.{sum_by-cons}

-- f 0 + .. + f (n - 1)
abbrev pub sum_to : (ℕ → ℕ) → ℕ → ℕ
sum_to f zero = 0
sum_to f (suc n) = sum_to f n + f n

sum_to-add : (f g h : ℕ → ℕ) (n : ℕ) → ((k : ℕ) → h k ≡ f k + g k) → sum_to h n ≡ sum_to f n + sum_to g n
sum_to-add f g h zero same = refl
sum_to-add f g h (suc n) same = omega (arith, sum_to-add f g h n same, same n)

pub sum_to-same : (f g : ℕ → ℕ) (n : ℕ) → ((k : ℕ) → f k ≡ g k) → sum_to f n ≡ sum_to g n
sum_to-same f g zero same = refl
sum_to-same f g (suc n) same = omega (arith, sum_to-same f g n same, same n)

pub sum_to-none : (f : ℕ → ℕ) (n : ℕ) → ((k : ℕ) → f k ≡ 0) → sum_to f n ≡ 0
sum_to-none f zero none = refl
sum_to-none f (suc n) none = omega (arith, sum_to-none f n none, none n)

sum_to-below : (f : ℕ → ℕ) (n k : ℕ) → n ≤ k → ((j : ℕ) → j ≢ k → f j ≡ 0) → sum_to f n ≡ 0
sum_to-below f zero k within others = refl
sum_to-below f (suc n) k within others =
    omega (arith, sum_to-below f n k (omega (arith, within)) others, others n (λ same. omega (arith, within, same)))

-- one of them is 1, and the others are 0
pub sum_to-one : (f : ℕ → ℕ) (n k : ℕ) → k < n → f k ≡ 1 → ((j : ℕ) → j ≢ k → f j ≡ 0) → sum_to f n ≡ 1
sum_to-one f zero k less one others = absurd (omega (arith, less))
sum_to-one f (suc n) k less one others =
    elim (cases_eq k n) [
      | inl last ↦
          let here : f n ≡ 1 = subst (λ (j : ℕ). f j ≡ 1) last one in
          omega (arith, here, sum_to-below f n k (omega (arith, last)) others)
      | inr apart ↦ omega (arith, sum_to-one f n k (omega (arith, less, apart)) one others, others n (λ same. apart (sym same)))
    ]

-- where each element's share of the kinds is all that it has, so is that of the list
pub sum_of_kinds : {X : Type 0} (share : ℕ → X → ℕ) (all : X → ℕ) (n : ℕ) (xs : List X)
    → AllByRecursion (λ x. sum_to (λ k. share k x) n ≡ all x) xs → sum_to (λ k. sum_by (share k) xs) n ≡ sum_by all xs
sum_of_kinds share all n [] every = sum_to-none (λ k. sum_by (share k) []) n (λ k. refl)
sum_of_kinds share all n (x ∷ xs) every =
    omega (
      arith,
      sum_to-add (λ k. share k x) (λ k. sum_by (share k) xs) (λ k. sum_by (share k) (x ∷ xs)) n (λ k. sum_by-cons (share k) x xs),
      every.0,
      sum_of_kinds share all n xs every.1,
      sum_by-cons all x xs,
    )

-- ---- what a list gives

-- how many there are, none or one
abbrev pub count_in : {Y : Type 0} → Option Y → ℕ
count_in None = 0
count_in (Some y) = 1

length-cons_option : {Y : Type 0} (o : Option Y) (ys : List Y) → length (cons_option o ys) ≡ count_in o + length ys
length-cons_option None ys = omega arith
length-cons_option (Some y) ys = omega arith

pub length-filter_map : {X Y : Type 0} (pick : X → Option Y) (xs : List X) → length (filter_map pick xs) ≡ sum_by (λ x. count_in (pick x)) xs
length-filter_map pick [] = refl
length-filter_map pick (x ∷ xs) =
    omega (
      arith,
      length-cons_option (pick x) (filter_map pick xs),
      length-filter_map pick xs,
      sum_by-cons (λ y. count_in (pick y)) x xs,
    )

-- what holds of each element by its index holds of every element
pub every_at : {X : Type 0} (P : X → Type 0) (xs : List X) → ((i : ℕ) (x : X) → slice_get xs i ≡ Some x → P x) → AllByRecursion P xs
every_at P [] each = tt
every_at P (x ∷ xs) each = (each 0 x refl, every_at P xs (λ i y there. each (suc i) y there))
