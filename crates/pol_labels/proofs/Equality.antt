-- The derived `==` of operators and requirements is true exactly where both are one value.
use Rattle.std.proofs.Common.{◌≡◌, ap, rules}
use Rattle.std.specs.Bool.{Decides}
use Rattle.std.specs.Cmp.{booleans_Decides}
use Rattle.std.specs.Cmp.Lexicographic.{pointwise_decides, bytes_decides}
use Rattle.std.proofs.lemmas.Bool.Decides.{Decides-like, Decides-and}
use Rattle.pol_labels.specs.declared.requirement.Operator.{Operator}
use Rattle.pol_labels.specs.declared.requirement.Requirement.{Requirement}
use Rattle.pol_labels.specs.contracts.requirement.OperatorPartialEq.TheImpl as operator
use Rattle.pol_labels.specs.contracts.requirement.RequirementPartialEq.TheImpl as requirement

pub operator_eq-Decides : (a b : Operator) → Decides (operator.ghosts.eq a b) (a ≡ b)
operator_eq-Decides a b = search rules

pub requirement_eq-Decides : (a b : Requirement) → Decides (requirement.ghosts.eq a b) (a ≡ b)
requirement_eq-Decides a b =
    Decides-like _ (λ same i. record { any_source = same.0 i; source = same.1.0 i; key = same.1.1.0 i; op = same.1.1.1.0 i; values = same.1.1.1.1 i })
    (λ e. (ap (λ r. r.any_source) e, (ap (λ r. r.source) e, (ap (λ r. r.key) e, (ap (λ r. r.op) e, ap (λ r. r.values) e)))))
    (Decides-and _ _ (booleans_Decides a.any_source b.any_source)
    (Decides-and _ _ (bytes_decides a.source b.source)
    (Decides-and _ _ (bytes_decides a.key b.key)
    (Decides-and _ _ (operator_eq-Decides a.op b.op) (pointwise_decides bytes_decides a.values b.values)))))
