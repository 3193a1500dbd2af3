-- Entries that come to the last block, and go from the first one.
use Rattle.std.proofs.Common.{zero, suc, ◌≡◌, ℕ, ◌-◌, ◌<◌, List, [], ◌∷◌, ◌++◌, length, drop, get_or, set, refl, sym, ap, ◌∙◌, append_assoc, append-nil, arith}
use Rattle.pol_phases.specs.Blocks.{entries_in}

module _ {X : Type 0} where
  pub pushed_last : (i : ℕ) (blocks : List (List X)) (own new : List X) (entry : X) → 0 < length blocks → i ≡ length blocks - 1 → own ≡ get_or blocks i own → new ≡ own ++ entry ∷ []
      → entries_in (set blocks i new) ≡ entries_in blocks ++ entry ∷ []
  pushed_last i [] own new entry some last at pushed = absurd (omega (arith, some))
  pushed_last zero (block ∷ []) own new entry some last at pushed =
      append-nil new ∙ pushed ∙ ap (λ (xs : List X). xs ++ entry ∷ []) (at ∙ sym (append-nil block))
  pushed_last zero (block ∷ next ∷ blocks) own new entry some last at pushed = absurd (omega (arith, last))
  pushed_last (suc i) (block ∷ blocks) own new entry some last at pushed =
      ap (λ (xs : List X). block ++ xs) (pushed_last i blocks own new entry (omega (arith, last)) (omega (arith, last)) at pushed)
      ∙ sym (append_assoc block (entries_in blocks) (entry ∷ []))

  none_in : (xs ys : List X) → xs ++ ys ≡ [] → xs ≡ []
  none_in [] ys none = refl
  none_in (x ∷ xs) ys none = absurd (omega (arith, ap length none))

  -- what holds where the block at the place has no entry, holds where no block behind those before it has one
  pub block_in : (Q : Type 0) (i : ℕ) (blocks : List (List X)) (own : List X) → i < length blocks → own ≡ get_or blocks i own → (own ≡ [] → Q) → entries_in (drop i blocks) ≡ [] → Q
  block_in Q i [] own within at then none = absurd (omega (arith, within))
  block_in Q zero (block ∷ blocks) own within at then none = then (at ∙ none_in block (entries_in blocks) none)
  block_in Q (suc i) (block ∷ blocks) own within at then none = block_in Q i blocks own (omega (arith, within)) at then none
