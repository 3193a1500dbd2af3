use Rattle.std.proofs.Common.{◌≡◌, suc, List, [], ◌∷◌, length, refl, ap, arith}
use Rattle.pol_hints.specs.declared.turn.Turn.{Turn}
use Rattle.pol_hints.specs.declared.turn.Turn.TheVariants.{Put}
use Rattle.history_examples.proofs.hints.refused_calls.Goals as goal

pub returns-clause-is : goal.returns-clause-is
returns-clause-is c = λ queue. record { past = (Put 1 ∷ [], refl); so = refl; own = refl; only = λ all. absurd (let wrong : 1 ≡ 2 = all in omega (arith, wrong)) }

pub returns-clause-not_so : goal.returns-clause-not_so
returns-clause-not_so c = λ queue share it. let wrong : 1 ≡ 0 = ap length it.so in omega (arith, wrong)

pub returns-clause-it_added : goal.returns-clause-it_added
returns-clause-it_added c = λ queue share it. let wrong : 1 ≡ 0 = it.own in omega (arith, wrong)

other_first : (rest : List Turn) → Put 2 ∷ rest ≡ Put 1 ∷ [] → ⊥
other_first rest is = cc

pub returns-clause-goes_back : goal.returns-clause-goes_back
returns-clause-goes_back c = λ queue share it. other_first it.past.0 it.past.1

pub returns-clause-between : goal.returns-clause-between
returns-clause-between c = λ queue it. let wrong : 1 ≡ 0 = ap (λ (ts : List Turn). length ts) (it.only refl) in omega (arith, wrong)
