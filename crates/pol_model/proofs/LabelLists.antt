-- Equal lists of labels are as long.
use Rattle.std.proofs.Common.{◌≡◌, false, List, [], ◌∷◌, length, refl, arith}
use Rattle.std.proofs.lemmas.Bool.{and_right}
use Rattle.pol_labels.specs.declared.label.Label.{Label}
use Rattle.pol_labels.specs.Same.{same_label, same_labels}

pub lengths_differ : (a b : List Label) → (length a ≡ length b → ⊥) → same_labels a b ≡ false
lengths_differ [] [] differ = absurd (differ refl)
lengths_differ [] (y ∷ ys) differ = refl
lengths_differ (x ∷ xs) [] differ = refl
lengths_differ (x ∷ xs) (y ∷ ys) differ = and_right (same_label x y) _ (lengths_differ xs ys (λ e. differ (omega arith)))
