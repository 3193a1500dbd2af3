use Rattle.std.proofs.Common.{◌≡◌, ◌+◌, ◌≤◌, ℕ, List, [], ◌∷◌, ◌++◌, length, refl, sym, ap, ◌∙◌, arith}
use Rattle.std.specs.List.{AllByRecursion}
use Rattle.std.proofs.lemmas.List.{length-append}
use mathlib.Core.List.{IsPrefix}
use Rattle.pol_hints.specs.declared.standing.Share.{Share}
use Rattle.pol_hints.specs.declared.turn.Turn.{Turn}
use Rattle.pol_hints.specs.declared.turn.Turn.TheVariants.{Put, Taken}
use Rattle.pol_hints.specs.Passes.{Name, Pass}
use Rattle.pol_hints.specs.Serving.{TakesEach}
use Rattle.pol_hints.proofs.Serving.{takes_go_on}
use Rattle.history_examples.specs.Hints.{pass}
use Rattle.history_examples.proofs.hints.workers_that_stop.Goals as goal

pub returns-clause-is : goal.returns-clause-is
returns-clause-is c = λ queue share. record {
  done = 1 ∷ [];
  last = 2;
  takes = (
    pass queue share (Put 1 ∷ Put 2 ∷ Taken 1 ∷ []) 1,
    record { so_far = Put 1 ∷ Put 2 ∷ []; past = ([], refl); last = refl; own = refl; only = λ all. refl },
    refl,
    (
      pass queue share (Put 1 ∷ Put 2 ∷ Taken 1 ∷ Taken 2 ∷ []) 2,
      record { so_far = Put 1 ∷ Put 2 ∷ Taken 1 ∷ []; past = ([], refl); last = refl; own = refl; only = λ all. refl },
      refl,
      record { past = ([], refl); own = refl; share = refl; only = λ all. refl },
    ),
  );
  each = (refl, tt);
}

longer : (xs ys : List Turn) → IsPrefix xs ys → length xs ≤ length ys
longer xs ys begins =
    let whole = ap (λ (turns : List Turn). length turns) begins.1 in
    let both = length-append xs begins.0 in
    omega (arith, whole, both)

-- a pass that took hints has seen as many turns more, or more
as_many : (slots : List ℕ) (a b : Pass) → TakesEach slots a b → length a.seen + length slots ≤ length b.seen
as_many [] a b it = let behind = longer a.seen b.seen it.past in omega (arith, behind)
as_many (slot ∷ slots) a b it =
    let first = longer a.seen it.1.so_far it.1.past in
    let turn = ap (λ (turns : List Turn). length turns) it.1.last ∙ length-append it.1.so_far (Taken slot ∷ []) in
    let more = as_many slots it.0 b it.3 in
    omega (arith, first, turn, more)

-- of four turns, the third is the first that is taken behind two, where one comes behind it
third : (between : List Turn) (slot : ℕ) (rest : List Turn) → 1 ≤ length rest
    → ((Put 1 ∷ Put 2 ∷ []) ++ between ++ Taken slot ∷ []) ++ rest ≡ Put 1 ∷ Put 2 ∷ Taken 1 ∷ Taken 2 ∷ [] → slot ≡ 1
third [] slot rest some is = cc
third (turn ∷ between) slot rest some is =
    let all = ap (λ (turns : List Turn). length turns) is in
    let both = length-append (turn ∷ between ++ Taken slot ∷ []) rest in
    let front = length-append between (Taken slot ∷ []) in
    absurd (omega (arith, some, all, both, front))

not_run : (queue : Name) (share : Share) (done : List ℕ) (last : ℕ)
    → TakesEach (done ++ last ∷ []) (pass queue share (Put 1 ∷ Put 2 ∷ []) 0) (pass queue share (Put 1 ∷ Put 2 ∷ Taken 1 ∷ Taken 2 ∷ []) 2)
    → AllByRecursion (λ slot. slot ≡ 2) done → ⊥
not_run queue share [] last it each =
    let one : it.0.own ≡ 0 + 1 = it.1.own in
    let all : 2 ≡ it.0.own = it.3.own in
    omega (arith, one, all)
not_run queue share (slot ∷ done) last it each =
    let new = pass queue share (Put 1 ∷ Put 2 ∷ Taken 1 ∷ Taken 2 ∷ []) 2 in
    let goes = takes_go_on (done ++ last ∷ []) it.0 new it.3 in
    let many = as_many (done ++ last ∷ []) it.0 new it.3 in
    let ends = length-append done (last ∷ []) in
    let whole = ap (λ (turns : List Turn). length turns) goes.1 in
    let both = length-append it.0.seen goes.0 in
    let some : 1 ≤ length goes.0 = omega (arith, many, ends, whole, both) in
    let seen : (Put 1 ∷ Put 2 ∷ []) ++ it.1.past.0 ++ Taken slot ∷ [] ≡ it.0.seen =
    ap (λ (turns : List Turn). turns ++ Taken slot ∷ []) it.1.past.1 ∙ sym it.1.last
    in
    let is = third it.1.past.0 slot goes.0 some (ap (λ (turns : List Turn). turns ++ goes.0) seen ∙ goes.1) in
    let wrong : slot ≡ 2 = each.0 in
    omega (arith, is, wrong)

pub returns-clause-job_not_run : goal.returns-clause-job_not_run
returns-clause-job_not_run c = λ queue share it. not_run queue share it.done it.last it.takes it.each
