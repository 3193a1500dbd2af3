use Rattle.std.proofs.Common.{◌-◌, ◌<◌, ◌≤◌, ◌∷◌, [], ◌++◌, List, length, drop, refl, sym, ap, ◌∙◌, arith}
use Rattle.pol_answer.specs.declared.answer.Answer.{Answer}
use Rattle.pol_run_laws.specs.Cut.{first_answer}
use Rattle.pol_phases.proofs.CutLines.{on_ok, session-changed, session-none, session-past, session-there}
use Rattle.pol_phases.proofs.back.push_next.Goals as goal

pub returns-then-place-len-clause-answer : goal.returns-then-place-len-clause-answer
returns-then-place-len-clause-answer c =
    let past : length c.args.lists.now.items ≤ c.args.session - 1 = omega (arith, c.if-place-len.true, c.len.ensures, c.args.lists.now.ok.0) in
    let none = session-none c.args.session (c.args.session - 1) c.args.lists.now.items c.if-session-eq0.false refl past in
    on_ok _ _ c.push_none-then-place-len.result
    (λ pushed. pushed ∙ ap (λ (told : List Answer). c.args.answers.now.items ++ first_answer told ∷ []) (sym none))
    c.push_none-then-place-len.ensures

pub returns-then-place-len-clause-rest : goal.returns-then-place-len-clause-rest
returns-then-place-len-clause-rest c =
    let past : length c.args.lists.now.items ≤ c.args.session - 1 = omega (arith, c.if-place-len.true, c.len.ensures, c.args.lists.now.ok.0) in
    sym (session-past c.args.session (c.args.session - 1) (λ answers. drop 1 answers) c.args.lists.now.items c.if-session-eq0.false refl past)

pub returns-clause-answer : goal.returns-clause-answer
returns-clause-answer c =
    let less : c.args.session - 1 < length c.args.lists.now.items = omega (arith, c.if-place-len.false, c.len.ensures, c.args.lists.now.ok.0) in
    let there = session-there c.args.session (c.args.session - 1) c.args.lists.now.items c.index_mut.result.now c.if-session-eq0.false refl less c.index_mut.ensures.value in
    on_ok _ _ c.push_first.result
    (λ pushed. pushed ∙ ap (λ (told : List Answer). c.args.answers.now.items ++ first_answer told ∷ []) (sym there))
    c.push_first.ensures.answer

pub returns-clause-rest : goal.returns-clause-rest
returns-clause-rest c =
    let less : c.args.session - 1 < length c.args.lists.now.items = omega (arith, c.if-place-len.false, c.len.ensures, c.args.lists.now.ok.0) in
    session-changed c.args.session (c.args.session - 1) (λ answers. drop 1 answers) c.args.lists.now.items c.index_mut.result.now c.push_first.new.own c.if-session-eq0.false refl less
    c.index_mut.ensures.value c.push_first.ensures.rest
