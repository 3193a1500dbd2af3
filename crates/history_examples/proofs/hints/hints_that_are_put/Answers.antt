use Rattle.std.proofs.Common.{◌≡◌, ℕ, suc, ◌<◌, List, [], ◌∷◌, length, refl, ap, subst, sym, arith}
use Rattle.std.specs.List.{AllByRecursion}
use Rattle.history_examples.proofs.hints.hints_that_are_put.Goals as goal

pub returns-clause-is : goal.returns-clause-is
returns-clause-is c = λ queue share. record { put = 1 ∷ []; below = (omega arith, tt); puts = refl; takes_none = refl }

pub returns-clause-of_a_slot_above : goal.returns-clause-of_a_slot_above
returns-clause-of_a_slot_above c = λ queue share it.
    let one : 1 ∷ [] ≡ it.put = it.puts in
    let below : 1 < 1 = (subst (λ (put : List ℕ). AllByRecursion (λ slot. slot < 1) put) (sym one) it.below).0 in
    omega (arith, below)

pub returns-clause-one_is_taken : goal.returns-clause-one_is_taken
returns-clause-one_is_taken c = λ queue share it.
    let wrong : 1 ≡ 0 = ap (λ (slots : List ℕ). length slots) it.takes_none in omega (arith, wrong)

pub returns-clause-one_is_forgotten : goal.returns-clause-one_is_forgotten
returns-clause-one_is_forgotten c = λ queue share it.
    let wrong : 0 ≡ suc (length it.put) = ap (λ (slots : List ℕ). length slots) it.puts in omega (arith, wrong)
