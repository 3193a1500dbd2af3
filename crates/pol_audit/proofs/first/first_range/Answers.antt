use Rattle.std.proofs.Common.{sym, ◌∙◌}
use Rattle.std.proofs.lemmas.Result.{IfOk-weaker}
use Rattle.pol_audit.proofs.Firsts.{by_egress, by_ingress}
use Rattle.pol_audit.proofs.first.first_range.Goals as goal

pub returns-then-is_some-clause-first : goal.returns-then-is_some-clause-first
returns-then-is_some-clause-first g c =
    by_ingress c.args.left.now c.args.right.now c.in_ok-ingress.ensures.small_left c.in_ok-ingress.ensures.small_right c.in_ok-ingress.ingress
    (sym c.is_some.ensures ∙ c.if-is_some.true) c.in_ok-ingress.ensures.first

pub returns-clause-first : goal.returns-clause-first
returns-clause-first g c =
    IfOk-weaker c.first_of_direction-2.result _ _ (λ first found.
    by_egress c.args.left.now c.args.right.now c.in_ok-ingress.ingress first (sym c.is_some.ensures ∙ c.if-is_some.false) c.in_ok-ingress.ensures.first found)
    c.first_of_direction-2.ensures.first
