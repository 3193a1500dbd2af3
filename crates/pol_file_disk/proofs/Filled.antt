-- Bytes that are written to an empty disk.
use Rattle.std.proofs.Common.{◌≡◌, ℕ, zero, suc, List, [], ◌++◌, ◌+◌, length, drop, refl, ap, ◌∙◌, append-nil}
use Rattle.pol_disk.specs.Images.{overwritten}

drop_none : (n : ℕ) → drop {A = ℕ} n [] ≡ []
drop_none zero = refl
drop_none (suc n) = refl

pub filled : (bytes : List ℕ) → overwritten [] 0 bytes ≡ bytes
filled bytes = ap (λ (rest : List ℕ). bytes ++ rest) (drop_none (0 + length bytes)) ∙ append-nil bytes
