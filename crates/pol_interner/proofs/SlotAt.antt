-- The slot at a place, after a key came or one slot changed.
use Rattle.std.proofs.Common.{zero, suc, ◌≡◌, ◌≢◌, ℕ, ◌+◌, List, [], ◌∷◌, None, Some, refl, sym, ap, ◌∙◌, arith}
use Rattle.pol_interner.specs.Slots.{Slot, changed, filled, free_place, slot_at}

next : (n : ℕ) → n + 1 ≡ suc n
next n = omega arith

module _ {K : Type 0} where
  -- the key has the least place that had none
  pub none-free : (slots : List (Slot K)) → slot_at slots (free_place slots) ≡ None
  none-free [] = refl
  none-free (None ∷ slots) = refl
  none-free (Some own ∷ slots) = ap (slot_at (Some own ∷ slots)) (next (free_place slots)) ∙ none-free slots

  pub filled-here : (new : K × ℕ) (slots : List (Slot K)) → slot_at (filled new slots) (free_place slots) ≡ Some new
  filled-here new [] = refl
  filled-here new (None ∷ slots) = refl
  filled-here new (Some own ∷ slots) = ap (slot_at (Some own ∷ filled new slots)) (next (free_place slots)) ∙ filled-here new slots

  pub filled-other : (new : K × ℕ) (slots : List (Slot K)) (place : ℕ) → place ≢ free_place slots → slot_at (filled new slots) place ≡ slot_at slots place
  filled-other new [] zero differs = absurd (differs refl)
  filled-other new [] (suc place) differs = refl
  filled-other new (None ∷ slots) zero differs = absurd (differs refl)
  filled-other new (None ∷ slots) (suc place) differs = refl
  filled-other new (Some own ∷ slots) zero differs = refl
  filled-other new (Some own ∷ slots) (suc place) differs = filled-other new slots place (λ same. differs (ap suc same ∙ sym (next (free_place slots))))

  -- one slot changed
  pub changed-here : (change : Slot K → Slot K) (place : ℕ) (slots : List (Slot K)) → change None ≡ None → slot_at (changed change place slots) place ≡ change (slot_at slots place)
  changed-here change place [] stays = sym stays
  changed-here change zero (slot ∷ slots) stays = refl
  changed-here change (suc place) (slot ∷ slots) stays = changed-here change place slots stays

  pub changed-other : (change : Slot K → Slot K) (place other : ℕ) (slots : List (Slot K)) → other ≢ place → slot_at (changed change place slots) other ≡ slot_at slots other
  changed-other change place other [] differs = refl
  changed-other change zero zero (slot ∷ slots) differs = absurd (differs refl)
  changed-other change zero (suc other) (slot ∷ slots) differs = refl
  changed-other change (suc place) zero (slot ∷ slots) differs = refl
  changed-other change (suc place) (suc other) (slot ∷ slots) differs = changed-other change place other slots (λ same. differs (ap suc same))
