use Rattle.std.proofs.Common.{◌≡◌, ◌+◌, ℕ, zero, suc, [], ◌∷◌, take, refl, arith}
use Rattle.pol_disk.specs.Calls.{Reads, Syncs, Runs}
use Rattle.kept_example.specs.Counting.{CountsOne, NeverFails}
use Rattle.kept_example.proofs.laws.openings_that_fail.Goals as goal

pub returns-clause-damaged : goal.returns-clause-damaged
returns-clause-damaged c = (1, refl, (2, refl, refl))

pub returns-clause-damaged_unread : goal.returns-clause-damaged_unread
returns-clause-damaged_unread c = λ it.
    let one : it.0 ≡ 0 + 1 = it.1 in
    let two : it.2.0 ≡ it.0 + 1 = it.2.1 in
    let all : 1 ≡ it.2.0 = it.2.2 in
    omega (arith, one, two, all)

pub returns-clause-no_memory : goal.returns-clause-no_memory
returns-clause-no_memory c = (1, (1, refl, refl))

-- of two calls no three are made
two_are_no_three : (one two : ℕ) → one ≡ 0 + 1 → two ≡ one + 1 → 3 ≡ two → ⊥
two_are_no_three one two first second all = omega (arith, first, second, all)

no_three : (count : ℕ) → Runs CountsOne NeverFails 0 (take count (Syncs ∷ Reads 0 2 ∷ [])) 3 → ⊥
no_three zero it = let wrong : 3 ≡ 0 = it in omega (arith, wrong)
no_three (suc zero) it =
    let one : it.0 ≡ 0 + 1 = it.1 in
    let all : 3 ≡ it.0 = it.2 in
    omega (arith, one, all)
no_three (suc (suc zero)) it = two_are_no_three it.0 it.2.0 it.1 it.2.1 it.2.2
no_three (suc (suc (suc count))) it = two_are_no_three it.0 it.2.0 it.1 it.2.1 it.2.2

pub returns-clause-no_memory_behind : goal.returns-clause-no_memory_behind
returns-clause-no_memory_behind c = λ it. no_three it.0 it.1
