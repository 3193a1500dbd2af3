-- Two tests that decide whether two values are one give the same, from either side.
use Rattle.std.proofs.Common.{◌≡◌, Bool, inl, inr, sym, ◌∙◌}
use Rattle.std.specs.Bool.{Decides}
use Rattle.std.proofs.lemmas.Bool.{cases_Bool, both_ways, false_from_ne_true}

module _ {X : Type 0} {e f : X → X → Bool} (one : (a b : X) → Decides (e a b) (a ≡ b)) where
  pub same_tests : ((a b : X) → Decides (f a b) (a ≡ b)) → (a b : X) → e a b ≡ f a b
  same_tests other a b =
      elim (cases_Bool (f a b)) [
        | inl same ↦ (one a b).1 ((other a b).0 same) ∙ sym same
        | inr differ ↦ false_from_ne_true (e a b) (λ same. both_ways (f a b) differ ((other a b).1 ((one a b).0 same))) ∙ sym differ
      ]

  pub turned : ((a b : X) → Decides (f a b) (a ≡ b)) → (a b : X) → e a b ≡ f b a
  turned other a b =
      elim (cases_Bool (f b a)) [
        | inl same ↦ (one a b).1 (sym ((other b a).0 same)) ∙ sym same
        | inr differ ↦ false_from_ne_true (e a b) (λ same. both_ways (f b a) differ ((other b a).1 (sym ((one a b).0 same)))) ∙ sym differ
      ]
