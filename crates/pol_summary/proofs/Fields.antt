-- Texts that are appended one after another.
use Rattle.std.proofs.Common.{◌≡◌, ◌++◌, List, ℕ, refl, ◌∙◌, append_assoc}
use Rattle.std.specs.Prelude.{Result, Ok, Err, OnOk}

-- five fields and an end
pub five_fields : {E : Type 0} (r : Result (Unit {0}) E) (o o1 o2 o3 o4 o5 out a b c d e n1 n2 n3 n4 n5 end : List ℕ)
    → o1 ≡ o ++ a ++ n1 → o2 ≡ o1 ++ b ++ n2 → o3 ≡ o2 ++ c ++ n3 → o4 ≡ o3 ++ d ++ n4 → o5 ≡ o4 ++ e ++ n5 → OnOk r (out ≡ o5 ++ end)
    → OnOk r (out ≡ o ++ (a ++ n1 ++ b ++ n2 ++ c ++ n3 ++ d ++ n4 ++ e ++ n5 ++ end))
five_fields (Ok done) o o1 o2 o3 o4 o5 out a b c d e n1 n2 n3 n4 n5 end e1 e2 e3 e4 e5 last = last ∙ simp (e5, e4, e3, e2, e1, append_assoc) refl
five_fields (Err error) o o1 o2 o3 o4 o5 out a b c d e n1 n2 n3 n4 n5 end e1 e2 e3 e4 e5 last = tt
