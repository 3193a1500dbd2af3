-- Steps that may be refused. Each is taken where the one before it gave a value, so the first fault is the answer.
use Rattle.std.specs.Prelude.{Bool, if◌then◌else◌, List, [], ◌∷◌, Option, None, Some, option_map, option_and_then, Result, Ok, Err}

infixl 10 ◌>>=◌
abbrev pub ◌>>=◌ : {A B F : Type 0} → Result A F → (A → Result B F) → Result B F
Ok x >>= next = next x
Err fault >>= next = Err fault

-- a fault of another kind, as one of this kind
abbrev pub fault_as : {A E F : Type 0} → (E → F) → Result A E → Result A F
fault_as kind (Ok x) = Ok x
fault_as kind (Err fault) = Err (kind fault)

-- a value, where it passes the test
abbrev pub only : {A : Type 0} → (A → Bool) → Option A → Option A
only test found = option_and_then (λ x. if test x then Some x else None) found

-- what each item reads as, none where one of them reads as nothing
abbrev pub each : {A B : Type 0} → (A → Option B) → List A → Option (List B)
each read [] = Some []
each read (x ∷ xs) = option_and_then (λ y. option_map (λ ys. y ∷ ys) (each read xs)) (read x)
