-- Texts that are appended one after another.
use Rattle.std.proofs.Common.{◌≡◌, ◌++◌, List, ℕ, refl, ap, ◌∙◌, append_assoc}
use Rattle.std.specs.Prelude.{Result, Ok, Err, OnOk}

module _ {E : Type 0} where
  -- two fields and an end
  pub two_fields : (r : Result (Unit {0}) E) (o o1 o2 out a b d e end text : List ℕ)
      → o1 ≡ o ++ a ++ d → o2 ≡ o1 ++ b ++ e → OnOk r (out ≡ o2 ++ end) → end ≡ text
      → OnOk r (out ≡ o ++ (a ++ d ++ b ++ e ++ text))
  two_fields (Ok done) o o1 o2 out a b d e end text first second last is = last ∙ simp (second, first, is, append_assoc) refl
  two_fields (Err error) o o1 o2 out a b d e end text first second last is = tt

  -- three fields and an end
  pub three_fields : (r : Result (Unit {0}) E) (o o1 o2 o3 out a b c d e f end : List ℕ)
      → o1 ≡ o ++ a ++ d → o2 ≡ o1 ++ b ++ e → o3 ≡ o2 ++ c ++ f → OnOk r (out ≡ o3 ++ end)
      → OnOk r (out ≡ o ++ (a ++ d ++ b ++ e ++ c ++ f ++ end))
  three_fields (Ok done) o o1 o2 o3 out a b c d e f end first second third last = last ∙ simp (third, second, first, append_assoc) refl
  three_fields (Err error) o o1 o2 o3 out a b c d e f end first second third last = tt

  -- two parts
  pub two_parts : (r : Result (Unit {0}) E) (o o1 out a b : List ℕ) → o1 ≡ o ++ a → OnOk r (out ≡ o1 ++ b) → OnOk r (out ≡ o ++ (a ++ b))
  two_parts (Ok done) o o1 out a b first last = last ∙ ap (λ (xs : List ℕ). xs ++ b) first ∙ append_assoc o a b
  two_parts (Err error) o o1 out a b first last = tt
