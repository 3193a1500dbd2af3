-- The first fault of a list of numbers, and what an answer says of it.
use Rattle.std.specs.Prelude.{◌≡◌, ℕ, List, [], ◌∷◌, Option, None, Some, Result, Ok, Err, if◌then◌else◌, nat_lt}
use Rattle.proof_forms.specs.declared.faults.CopyError.{CopyError}
use Rattle.proof_forms.specs.declared.faults.CopyError.TheVariants.{Memory, TooLarge}

-- the first number over the limit
abbrev pub first_fault : ℕ → List ℕ → Option ℕ
first_fault limit [] = None
first_fault limit (number ∷ numbers) = if nat_lt limit number then Some number else first_fault limit numbers

-- the answer is that there is no fault, or this first one; want of memory is always allowed
abbrev pub Finds : {X : Type 0} → Option ℕ → Result X CopyError → Type 0
Finds found (Ok _) = found ≡ None
Finds found (Err Memory) = Unit {0}
Finds found (Err (TooLarge number)) = found ≡ Some number

-- a copy where there is no fault, else none
abbrev pub IsFoundIn : Option ℕ → List ℕ → Option (List ℕ) → Type 0
IsFoundIn None numbers found = found ≡ Some numbers
IsFoundIn (Some fault) numbers found = found ≡ None
