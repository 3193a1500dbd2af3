-- Values with numbers beside them, that ascend: the number and the place of the one that passes. No public clause cites this module.
use Rattle.std.specs.Prelude.{ℕ, suc, ◌≡◌, Bool, true, false, cond, List, [], ◌∷◌, Option, None, Some, option_map}
use Rattle.std.specs.List.{AllByRecursion}

module _ {X : Type 0} (passes : X → Bool) where
  -- one value at most passes
  abbrev pub PassOnce : List X → Type 0
  PassOnce [] = Unit {0}
  PassOnce (x ∷ xs) = (passes x ≡ true → AllByRecursion (λ y. passes y ≡ false) xs) × PassOnce xs

  -- the number beside the first value that passes
  abbrev pub number_of : List X → List ℕ → Option ℕ
  number_of [] ns = None
  number_of (x ∷ xs) [] = None
  number_of (x ∷ xs) (n ∷ ns) = cond (passes x) (Some n) (number_of xs ns)

  -- the place of the first value that passes
  abbrev pub place_of : List X → Option ℕ
  place_of [] = None
  place_of (x ∷ xs) = cond (passes x) (Some 0) (option_map suc (place_of xs))
