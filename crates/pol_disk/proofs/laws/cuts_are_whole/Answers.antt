use Rattle.std.proofs.Common.{◌≡◌, inl, inr, ℕ, List, [], ◌∷◌, length, refl, ap, arith}
use Rattle.pol_disk.specs.Images.{CutShort}
use Rattle.pol_disk.proofs.laws.cuts_are_whole.Goals as goal

halfway : CutShort 1 (1 ∷ 2 ∷ 3 ∷ []) (1 ∷ 2 ∷ []) → ⊥
halfway (inl is) = let lengths : 2 ≡ 3 = ap (λ (bytes : List ℕ). length bytes) is in omega (arith, lengths)
halfway (inr is) = let lengths : 2 ≡ 1 = ap (λ (bytes : List ℕ). length bytes) is in omega (arith, lengths)

pub returns : goal.returns
returns c = record {
  not_yet = inl refl;
  cut = inr refl;
  halfway = halfway;
}
