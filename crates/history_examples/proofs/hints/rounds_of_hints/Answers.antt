use Rattle.std.proofs.Common.{◌≡◌, ◌+◌, ◌⊎◌, [], ◌∷◌, length, refl, ap, inl, inr, ⊎_elim, arith}
use Rattle.pol_hints.specs.Passes.{one_round}
use Rattle.pol_hints.proofs.Below.{round_length}
use Rattle.history_examples.proofs.hints.rounds_of_hints.Goals as goal

pub returns-clause-all : goal.returns-clause-all
returns-clause-all c = λ queue share. record {
  so_far = [];
  past = ([], refl);
  first = 1;
  within = omega arith;
  put = 1 ∷ 0 ∷ [];
  begun = ([], refl);
  last = refl;
  own = refl;
  all = inl refl;
  only = λ only. refl;
}

pub returns-clause-until_full : goal.returns-clause-until_full
returns-clause-until_full c = λ queue share. record {
  so_far = [];
  past = ([], refl);
  first = 0;
  within = omega arith;
  put = 0 ∷ [];
  begun = (1 ∷ [], refl);
  last = refl;
  own = refl;
  all = inr refl;
  only = λ only. refl;
}

pub returns-clause-one_is_left_out : goal.returns-clause-one_is_left_out
returns-clause-one_is_left_out c = λ queue share it.
    let own : 1 ≡ 0 + length it.put = it.own in
    let slots : length (one_round it.first 2) ≡ 2 = round_length it.first 2 it.within in
    ⊎_elim (λ (same : it.put ≡ one_round it.first 2). let many : length it.put ≡ length (one_round it.first 2) = ap length same in omega (arith, own, slots, many))
    (λ (full : 1 ≡ 4). omega (arith, full)) it.all

pub returns-clause-none_is_put : goal.returns-clause-none_is_put
returns-clause-none_is_put c = λ queue share it.
    let own : 0 ≡ 0 + length it.put = it.own in
    let slots : length (one_round it.first 2) ≡ 2 = round_length it.first 2 it.within in
    ⊎_elim (λ (same : it.put ≡ one_round it.first 2). let many : length it.put ≡ length (one_round it.first 2) = ap length same in omega (arith, own, slots, many))
    (λ (full : 0 ≡ 4). omega (arith, full)) it.all

pub returns-clause-not_its_own : goal.returns-clause-not_its_own
returns-clause-not_its_own c = λ queue share it.
    let own : 0 ≡ 0 + length it.put = it.own in
    let slots : length (one_round it.first 2) ≡ 2 = round_length it.first 2 it.within in
    ⊎_elim (λ (same : it.put ≡ one_round it.first 2). let many : length it.put ≡ length (one_round it.first 2) = ap length same in omega (arith, own, slots, many))
    (λ (full : 2 ≡ 4). omega (arith, full)) it.all
