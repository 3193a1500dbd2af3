use Rattle.std.proofs.Common.{◌≡◌, ℕ, List, [], ◌∷◌, length, refl, ap, inl, arith}
use Rattle.kept_example.proofs.laws.disks_hold_still.Goals as goal

pub returns-clause-is : goal.returns-clause-is
returns-clause-is c = λ disk. record { same = refl; any_moment = record { later = omega arith; each = λ c left. left; before = λ t c within left. inl left } }

nothing_is_one : ◌≡◌ {A = List ℕ} [] (1 ∷ []) → ⊥
nothing_is_one is = let wrong : 0 ≡ 1 = ap (λ (bytes : List ℕ). length bytes) is in omega (arith, wrong)

pub returns-clause-other_bytes : goal.returns-clause-other_bytes
returns-clause-other_bytes c = λ it. nothing_is_one it.same

pub returns-clause-left_otherwise : goal.returns-clause-left_otherwise
returns-clause-left_otherwise c = λ it. nothing_is_one (it.any_moment.each [] refl)
