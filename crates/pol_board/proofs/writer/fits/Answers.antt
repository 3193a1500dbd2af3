use Rattle.std.proofs.Common.{rules, ◌≡◌, sym, ◌∙◌, subst}
use mathlib.Core.List.{IsPrefix}
use Rattle.pol_history.specs.Commits.{commits_by}
use Rattle.pol_history.specs.Grows.{PassState}
use Rattle.pol_history.proofs.Own.{same-own}
use Rattle.pol_board.proofs.writer.fits.Goals as goal

pub returns-clause-own : goal.returns-clause-own
returns-clause-own g c says =
    let n = c.pass.inside.number in
    let begins : IsPrefix c.pass.inside.own c.args.seen.now = search (rules, says) in
    let same = same-own n c.pass.inside.own c.args.seen.now begins (sym (c.requires.counted.each n c.if-number-counts.false) ∙ (c.if-counts-number.false ∙ c.pass.invariant.0)) in
    subst (λ (p : PassState). commits_by p.number c.args.seen.now ≡ p.has.mine) c.pass.view_is (sym same)
