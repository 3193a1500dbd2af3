use Rattle.std.proofs.Common.{◌≡◌, suc, List, [], ◌∷◌, ◌++◌, length, refl, ap, ◌∙◌, arith}
use Rattle.pol_hints.specs.declared.turn.Turn.{Turn}
use Rattle.pol_hints.specs.declared.turn.Turn.TheVariants.{Put}
use Rattle.history_examples.proofs.hints.calls_that_add.Goals as goal

pub returns-clause-is : goal.returns-clause-is
returns-clause-is c = λ queue share. record { so_far = []; past = ([], refl); last = refl; own = refl; only = λ _. refl }

pub returns-clause-not_its_own : goal.returns-clause-not_its_own
returns-clause-not_its_own c = λ queue share it. let wrong : 0 ≡ 1 = it.own in omega (arith, wrong)

-- of one turn there is nothing in front
nothing_in_front : (turns : List Turn) (last one : Turn) → one ∷ [] ≡ turns ++ last ∷ [] → turns ≡ []
nothing_in_front [] last one is = refl
nothing_in_front (turn ∷ []) last one is =
    let wrong : 1 ≡ 2 = ap (λ (ts : List Turn). length ts) is in absurd (omega (arith, wrong))
nothing_in_front (turn ∷ other ∷ turns) last one is =
    let wrong : 1 ≡ suc (suc (length (turns ++ last ∷ []))) = ap (λ (ts : List Turn). length ts) is in absurd (omega (arith, wrong))

other_turn : Put 2 ∷ [] ≡ Put 1 ∷ [] → ⊥
other_turn is = cc

pub returns-clause-another_turn : goal.returns-clause-another_turn
returns-clause-another_turn c = λ queue share it.
    other_turn (it.last ∙ ap (λ (ts : List Turn). ts ++ Put 1 ∷ []) (nothing_in_front it.so_far (Put 1) (Put 2) it.last))

too_few : (rest : List Turn) → Put 2 ∷ rest ≡ [] → ⊥
too_few rest is = let wrong : suc (length rest) ≡ 0 = ap (λ (ts : List Turn). length ts) is in omega (arith, wrong)

pub returns-clause-goes_back : goal.returns-clause-goes_back
returns-clause-goes_back c = λ queue share it. too_few it.past.0 (it.past.1 ∙ nothing_in_front it.so_far (Put 1) (Put 1) it.last)

two_are_one : (turns : List Turn) → turns ≡ [] → Put 2 ∷ Put 1 ∷ [] ≡ turns ++ Put 1 ∷ [] → ⊥
two_are_one turns none is =
    let wrong : 2 ≡ 1 = ap (λ (ts : List Turn). length ts) (is ∙ ap (λ (ts : List Turn). ts ++ Put 1 ∷ []) none) in omega (arith, wrong)

pub returns-clause-between : goal.returns-clause-between
returns-clause-between c = λ queue it. two_are_one it.so_far (it.only refl) it.last
