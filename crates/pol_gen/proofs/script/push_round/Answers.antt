use Rattle.std.proofs.Common.{◌≡◌, ◌+◌, ◌++◌, ◌∙◌, ℕ, List, ap, ap₂, sym, subst, append-nil}
use Rattle.std.specs.Prelude.{OnOk}
use Rattle.std.specs.String.{string_bytes}
use Rattle.pol_gen.specs.Draws.{after}
use Rattle.pol_gen.specs.Generated.{apply_line, check, draws_before}
use Rattle.pol_gen.proofs.Rounds.{after-more, draws_with_check, draws_without_check, check_at_tenth, no_check}
use Rattle.pol_gen.proofs.Texts.{two_parts}
use Rattle.pol_gen.proofs.script.push_round.Goals as goal

pub returns-then-round-eq0-clause-draws : goal.returns-then-round-eq0-clause-draws
returns-then-round-eq0-clause-draws c =
    let applied = c.in_ok-push_apply.ensures.draws ∙ ap (after 6) c.requires.before ∙ after-more (draws_before c.args.round) 6 c.args.n in
    let checked = ap (after 64) applied ∙ after-more (draws_before c.args.round + 6) 64 c.args.n
    ∙ ap (λ (draws : ℕ). after draws c.args.n) (draws_with_check c.args.round c.if-round-eq0.true) in
    subst (λ (x : ℕ). OnOk c.push_check.result (c.push_check.new.draws.x ≡ x)) checked c.push_check.ensures.draws

pub returns-then-round-eq0-clause-lines : goal.returns-then-round-eq0-clause-lines
returns-then-round-eq0-clause-lines c =
    let applied = c.in_ok-push_apply.ensures.draws ∙ ap (after 6) c.requires.before ∙ after-more (draws_before c.args.round) 6 c.args.n in
    let texts = ap₂ (λ (a b : List ℕ). a ++ b) (ap apply_line c.requires.before)
    (ap check applied ∙ sym (check_at_tenth c.args.n c.args.round c.if-round-eq0.true)) in
    subst (λ (text : List ℕ). OnOk c.push_check.result (string_bytes c.push_check.new.out ≡ string_bytes c.args.out.now ++ text)) texts
    (two_parts c.push_check.result _ _ _ _ _ c.in_ok-push_apply.ensures.line c.push_check.ensures.lines)

pub returns-else-round-eq0-clause-draws : goal.returns-else-round-eq0-clause-draws
returns-else-round-eq0-clause-draws c =
    c.in_ok-push_apply.ensures.draws ∙ ap (after 6) c.requires.before ∙ after-more (draws_before c.args.round) 6 c.args.n
    ∙ ap (λ (draws : ℕ). after draws c.args.n) (draws_without_check c.args.round c.if-round-eq0.false)

pub returns-else-round-eq0-clause-lines : goal.returns-else-round-eq0-clause-lines
returns-else-round-eq0-clause-lines c =
    c.in_ok-push_apply.ensures.line
    ∙ ap (λ (text : List ℕ). string_bytes c.args.out.now ++ text)
    (ap apply_line c.requires.before ∙ sym (append-nil _)
    ∙ ap (λ (text : List ℕ). apply_line (after (draws_before c.args.round) c.args.n) ++ text) (sym (no_check c.args.n c.args.round c.if-round-eq0.false)))
