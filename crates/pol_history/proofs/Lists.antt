-- Elements by index, beginnings of a list, and lists that grow at the end.
use Rattle.std.proofs.Common.{zero, suc, ◌≡◌, ℕ, ◌+◌, ◌<◌, ◌⊎◌, inl, inr, List, [], ◌∷◌, ◌++◌, length, take, None, Some, refl, sym, ap, ◌∙◌, subst, arith, append-nil, append_assoc}
use Rattle.std.specs.List.{slice_get}

pub no_element : {X : Type 0} (x : X) → None ≡ Some x → ⊥
no_element x same = cc

pub get_front : {X : Type 0} (xs ys : List X) (i : ℕ) → i < length xs → slice_get (xs ++ ys) i ≡ slice_get xs i
get_front [] ys i below = absurd (omega arith)
get_front (x ∷ xs) ys zero below = refl
get_front (x ∷ xs) ys (suc i) below = get_front xs ys i (omega (arith, below))

pub get_seam : {X : Type 0} (xs : List X) (y : X) (ys : List X) → slice_get (xs ++ y ∷ ys) (length xs) ≡ Some y
get_seam [] y ys = refl
get_seam (x ∷ xs) y ys = get_seam xs y ys

pub get_behind : {X : Type 0} (xs ys : List X) (i : ℕ) → slice_get (xs ++ ys) (length xs + i) ≡ slice_get ys i
get_behind [] ys i = let same : 0 + i ≡ i = omega arith in ap (slice_get ys) same
get_behind (x ∷ xs) ys i = let same : suc (length xs) + i ≡ suc (length xs + i) = omega arith in ap (slice_get (x ∷ xs ++ ys)) same ∙ get_behind xs ys i

pub get_take : {X : Type 0} (n : ℕ) (xs : List X) (i : ℕ) → i < n → slice_get (take n xs) i ≡ slice_get xs i
get_take zero xs i below = absurd (omega arith)
get_take (suc n) [] i below = refl
get_take (suc n) (x ∷ xs) zero below = refl
get_take (suc n) (x ∷ xs) (suc i) below = get_take n xs i (omega (arith, below))

-- an element of a list with one more is an element of the list, or the new one
pub get_cases : {X : Type 0} (xs : List X) (new x : X) (i : ℕ) → slice_get (xs ++ new ∷ []) i ≡ Some x
    → ((i < length xs) × (slice_get xs i ≡ Some x)) ⊎ ((i ≡ length xs) × (new ≡ x))
get_cases [] new x zero there = inr (refl, (cc))
get_cases [] new x (suc i) there = absurd (cc)
get_cases (y ∷ xs) new x zero there = inl ((omega arith), there)
get_cases (y ∷ xs) new x (suc i) there =
    elim (get_cases xs new x i there) [ inl old ↦ inl ((omega (arith, old.0)), old.1) | inr last ↦ inr ((omega (arith, last.0)), last.1) ]

grown : {X : Type 0} (P : List X → Type 0) → ((xs : List X) (x : X) → P xs → P (xs ++ x ∷ [])) → (front back : List X) → P front → P (front ++ back)
grown P more front [] here = subst P (sym (append-nil front)) here
grown P more front (x ∷ back) here = subst P (append_assoc front (x ∷ []) back) (grown P more (front ++ x ∷ []) back (more front x here))

-- what holds of the empty list, and of each list with one more, holds of every list
pub by_growth : {X : Type 0} (P : List X → Type 0) → P [] → ((xs : List X) (x : X) → P xs → P (xs ++ x ∷ [])) → (xs : List X) → P xs
by_growth P none more xs = grown P more [] xs none
