-- Lists whose elements' numbers ascend: what is kept, filtered or placed in them ascends again.
use Rattle.std.proofs.Common.{zero, suc, ◌≡◌, ℕ, ◌+◌, ◌==◌, ◌<◌, Bool, true, false, cond, List, [], ◌∷◌, ◌++◌, take, drop, map, filter, count_by, nat_lt, refl, ap, ◌∙◌, inl, inr, arith}
use Rattle.std.specs.List.{AllByRecursion, insert, list_any}
use Rattle.std.proofs.lemmas.List.Sums.{sum_by-cons}
use Rattle.std.proofs.lemmas.Bool.{cases_lt, or_parts, lt-ltb, le-ltb, eqb-false, true≢false, false≢true}
use Rattle.pol_model.specs.Ascending.{Ascends}
use Rattle.pol_model.specs.Numbers.{placed_by}
use Rattle.pol_model.proofs.LeastFree.{above_more}

-- one number more before the first
pub one_before : (x y : ℕ) (ys : List ℕ) → x < y → Ascends (y ∷ ys) → Ascends (x ∷ y ∷ ys)
one_before x y ys less ascends = ((less, above_more y x ys less ascends.0), ascends)

module _ {X : Type 0} (number : X → ℕ) where
  -- each of these has a number above m
  abbrev AllAbove : ℕ → List X → Type 0
  AllAbove m xs = AllByRecursion (λ n. m < n) (map number xs)

  kept_above : (b : Bool) (m : ℕ) (x : X) (xs : List X) → m < number x → AllAbove m xs → AllAbove m (cond b (x ∷ xs) xs)
  kept_above true m x xs first others = (first, others)
  kept_above false m x xs first others = others

  filter_above : (passes : X → Bool) (m : ℕ) (xs : List X) → AllAbove m xs → AllAbove m (filter passes xs)
  filter_above passes m [] all = tt
  filter_above passes m (x ∷ xs) all =
      kept_above (passes x) m x (filter passes xs) all.0 (filter_above passes m xs all.1)

  kept_ascends : (b : Bool) (x : X) (xs : List X) → AllAbove (number x) xs → Ascends (map number xs) → Ascends (map number (cond b (x ∷ xs) xs))
  kept_ascends true x xs above ascends = (above, ascends)
  kept_ascends false x xs above ascends = ascends

  pub filter_ascends : (passes : X → Bool) (xs : List X) → Ascends (map number xs) → Ascends (map number (filter passes xs))
  filter_ascends passes [] ascends = tt
  filter_ascends passes (x ∷ xs) ascends =
      kept_ascends (passes x) x (filter passes xs) (filter_above passes (number x) xs ascends.0) (filter_ascends passes xs ascends.1)

  inserted_above : (m : ℕ) (x : X) (xs : List X) (i : ℕ) → m < number x → AllAbove m xs → AllAbove m (take i xs ++ x ∷ drop i xs)
  inserted_above m x xs zero first others = (first, others)
  inserted_above m x [] (suc i) first others = (first, tt)
  inserted_above m x (y ∷ ys) (suc i) first others = (others.0, inserted_above m x ys i first others.1)

  -- how many of these have a number below that of x
  abbrev lesser : X → List X → ℕ
  lesser x xs = count_by (λ y. nat_lt (number y) (number x)) xs

  lesser-cons : (x y : X) (ys : List X) → lesser x (y ∷ ys) ≡ cond (nat_lt (number y) (number x)) 1 0 + lesser x ys
  lesser-cons x y ys = sum_by-cons (λ z. cond (nat_lt (number z) (number x)) 1 0) y ys

  one_if : (b : Bool) (n : ℕ) → b ≡ true → cond b 1 0 + n ≡ suc n
  one_if true n below = omega arith
  one_if false n below = absurd (false≢true below)

  none_if : (b : Bool) (n : ℕ) → b ≡ false → cond b 1 0 + n ≡ n
  none_if true n above = absurd (true≢false above)
  none_if false n above = omega arith

  none_lesser : (x : X) (xs : List X) → AllAbove (number x) xs → lesser x xs ≡ zero
  none_lesser x [] above = refl
  none_lesser x (y ∷ ys) above =
      lesser-cons x y ys
      ∙ none_if (nat_lt (number y) (number x)) (lesser x ys) (le-ltb (number y) (number x) (omega (arith, above.0)))
      ∙ none_lesser x ys above.1

  pub placed_later : (x y : X) (ys : List X) → number y < number x → placed_by number x (y ∷ ys) ≡ y ∷ placed_by number x ys
  placed_later x y ys less =
      ap (λ i. insert (y ∷ ys) i x)
      (lesser-cons x y ys ∙ one_if (nat_lt (number y) (number x)) (lesser x ys) (lt-ltb (number y) (number x) less))

  placed_first : (x : X) (xs : List X) → AllAbove (number x) xs → placed_by number x xs ≡ x ∷ xs
  placed_first x xs above = ap (λ i. insert xs i x) (none_lesser x xs above)

  pub placed_ascends : (x : X) (xs : List X) → Ascends (map number xs) → list_any (λ n. n == number x) (map number xs) ≡ false → Ascends (map number (placed_by number x xs))
  placed_ascends x [] ascends free = (tt, tt)
  placed_ascends x (y ∷ ys) ascends free =
      let (here, others) = or_parts (number y == number x) _ free in
      elim (cases_lt (number y) (number x)) [
        | inl below ↦
            rw (placed_later x y ys below)
            (inserted_above (number y) x ys (count_by (λ z. nat_lt (number z) (number x)) ys) below ascends.0, placed_ascends x ys ascends.1 others)
        | inr above ↦
            let less : number x < number y = omega (arith, above, eqb-false (number y) (number x) here) in
            rw (placed_first x (y ∷ ys) (less, above_more (number y) (number x) (map number ys) less ascends.0))
            (one_before (number x) (number y) (map number ys) less ascends)
      ]
