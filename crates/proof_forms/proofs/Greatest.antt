-- The greatest number of two lists.
use Rattle.std.proofs.Common.{◌≡◌, ◌++◌, ℕ, List, [], ◌∷◌, max, arith}
use Rattle.proof_forms.specs.Lists.{greatest}

pub greatest-append : (one other : List ℕ) → greatest (one ++ other) ≡ max (greatest one) (greatest other)
greatest-append [] other = omega arith
greatest-append (number ∷ numbers) other = let rest = greatest-append numbers other in omega arith
