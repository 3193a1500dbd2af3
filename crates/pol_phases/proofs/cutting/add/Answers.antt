use Rattle.std.proofs.Common.{◌-◌, ◌<◌, ◌≤◌, ◌∷◌, [], ◌++◌, length, refl, sym, arith}
use Rattle.pol_phases.proofs.CutLines.{on_ok, session-changed, session-past}
use Rattle.pol_phases.proofs.cutting.add.Goals as goal

pub returns-then-place-len : goal.returns-then-place-len
returns-then-place-len c =
    let past : length c.args.lists.now.items ≤ c.args.session - 1 = omega (arith, c.if-place-len.true, c.len.ensures, c.args.lists.now.ok.0) in
    sym (session-past c.args.session (c.args.session - 1) (λ commands. commands ++ c.args.command ∷ []) c.args.lists.now.items c.if-session-eq0.false refl past)

pub returns : goal.returns
returns c =
    let less : c.args.session - 1 < length c.args.lists.now.items = omega (arith, c.if-place-len.false, c.len.ensures, c.args.lists.now.ok.0) in
    on_ok _ _ c.push.result
    (λ made. session-changed c.args.session (c.args.session - 1) (λ commands. commands ++ c.args.command ∷ []) c.args.lists.now.items c.index_mut.result.now c.push.new.self
    c.if-session-eq0.false refl less c.index_mut.ensures.value made)
    c.push.ensures.pushed
