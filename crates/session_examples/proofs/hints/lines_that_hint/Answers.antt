use Rattle.std.proofs.Common.{◌≡◌, ◌≤◌, ◌+◌, [], ◌∷◌, length, refl, sym, ap, ◌∙◌, subst, inl, ⊎_elim, arith}
use Rattle.pol_hints.specs.Passes.{Pass as HintState, PutsRound, one_round}
use Rattle.pol_hints.specs.declared.turn.Turn.TheVariants.{Put}
use Rattle.pol_hints.proofs.Below.{round_length}
use Rattle.session_examples.specs.Hints.{pass}
use Rattle.session_examples.proofs.hints.lines_that_hint.Goals as goal

pub returns-clause-is : goal.returns-clause-is
returns-clause-is c = λ queue share. (
  pass queue share (Put 0 ∷ []) 1,
  record {
    within = (let one : 1 ≤ 1 = omega arith in one);
    puts = record {
      so_far = [];
      past = ([], refl);
      first = 0;
      within = omega arith;
      put = 0 ∷ [];
      begun = ([], refl);
      last = refl;
      own = refl;
      all = inl refl;
      only = λ only. refl;
    };
  },
  (pass queue share (Put 0 ∷ []) 1, refl, refl),
)

pub returns-clause-none_is_put : goal.returns-clause-none_is_put
returns-clause-none_is_put c = λ queue share it.
    let before = pass queue share [] 0 in
    let puts = subst (λ (after : HintState). PutsRound 4 1 before after) (sym it.2) it.1.puts in
    let own : 0 ≡ 0 + length puts.put = puts.own in
    let slots : length (one_round puts.first 1) ≡ 1 = round_length puts.first 1 puts.within in
    ⊎_elim (λ (same : puts.put ≡ one_round puts.first 1). let many : length puts.put ≡ length (one_round puts.first 1) = ap length same in omega (arith, own, slots, many))
    (λ (full : 0 ≡ 4). omega (arith, full)) puts.all

pub returns-clause-no_commit : goal.returns-clause-no_commit
returns-clause-no_commit c = λ queue share it. let within : 1 ≤ 0 = it.1.within in omega (arith, within)

pub returns-clause-put_unasked : goal.returns-clause-put_unasked
returns-clause-put_unasked c = λ queue share it.
    let own : 1 ≡ 0 = ap (λ (s : HintState). s.own) (it.2 ∙ it.1) in omega (arith, own)

pub returns-clause-put_for_no_line : goal.returns-clause-put_for_no_line
returns-clause-put_for_no_line c = λ queue share it. let own : 1 ≡ 0 = ap (λ (s : HintState). s.own) it in omega (arith, own)
