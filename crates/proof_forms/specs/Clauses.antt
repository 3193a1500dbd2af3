-- What calls do to a list of numbers, and what they may answer.
use Rattle.std.specs.Prelude.{◌≡◌, ◌+◌, ℕ, false, IsTrue, List, [], ◌∷◌, ◌++◌, length, Option, None, Some}
use Rattle.std.specs.List.{Contains, list_any}
use Rattle.proof_forms.specs.Lists.{is_over}

-- one number more
pub record Adds (old new : List ℕ) (number : ℕ) : Type 0 where
  pub behind : new ≡ old ++ number ∷ []
  pub one_more : length new ≡ length old + 1

-- two numbers more
pub record AddsTwo (old new : List ℕ) (one other : ℕ) : Type 0 where
  pub behind : new ≡ old ++ one ∷ other ∷ []
  pub two_more : length new ≡ length old + 2

-- a number over the limit, or that there is none
abbrev pub IsOneOver : ℕ → List ℕ → Option ℕ → Type 0
IsOneOver limit numbers None = list_any (is_over limit) numbers ≡ false
IsOneOver limit numbers (Some number) = Contains numbers number × IsTrue (is_over limit number)

-- the second where there is one
abbrev pub later_of : Option ℕ → Option ℕ → Option ℕ
later_of one None = one
later_of one (Some number) = Some number
