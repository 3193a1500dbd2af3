-- How many slots there are after a change, and after a key came.
use Rattle.std.proofs.Common.{zero, suc, ◌≡◌, ℕ, ◌-◌, ◌<◌, ◌≤◌, List, [], ◌∷◌, length, None, Some, refl, ap, arith}
use Rattle.pol_interner.specs.Slots.{Slot, changed, filled, free_place}

pub length-changed : {K : Type 0} (change : Slot K → Slot K) (place : ℕ) (slots : List (Slot K)) → length (changed change place slots) ≡ length slots
length-changed change place [] = refl
length-changed change zero (slot ∷ slots) = refl
length-changed change (suc place) (slot ∷ slots) = ap suc (length-changed change place slots)

pub length-filled : {K : Type 0} (limit : ℕ) (new : K × ℕ) (slots : List (Slot K)) → free_place slots < limit → length slots ≤ limit → length (filled new slots) ≤ limit
length-filled limit new [] free few = omega (arith, free)
length-filled limit new (None ∷ slots) free few = few
length-filled limit new (Some own ∷ slots) free few = omega (arith, length-filled (limit - 1) new slots (omega (arith, free)) (omega (arith, few)), few)
