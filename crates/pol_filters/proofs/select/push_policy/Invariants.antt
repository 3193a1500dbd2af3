use Rattle.std.proofs.Common.{◌≡◌, ◌++◌, ◌&&◌, ◌||◌, ℕ, List, drop}
use Rattle.std.specs.List.{list_any}
use Rattle.pol_labels.specs.Match.{matches}
use Rattle.pol_labels.specs.declared.label.Label.{Label}
use Rattle.pol_ports.specs.declared.Direction.{Direction}
use Rattle.pol_ports.specs.declared.Direction.TheVariants.{Ingress, Egress}
use Rattle.pol_rule.specs.declared.policy.Rule.{Rule}
use Rattle.pol_model.specs.Enforced.{rule_says}
use Rattle.pol_model.specs.declared.row.Stamped.{Stamped}
use Rattle.pol_filters.specs.Resolved.{policy_filters, policy_says}
use Rattle.pol_filters.specs.declared.select.Said.{Said}
use Rattle.pol_filters.proofs.select.push_policy.Given as goal

-- what is said so far and what is left are all that the policy says
pub record Adds (stamped : Stamped) (labels : List Label) (dir : Direction) (i : ℕ) (before now : Said) : Type 0 where
  pub filters : now.filters.items ++ policy_filters stamped labels dir i (drop i stamped.policy.rules)
      ≡ before.filters.items ++ policy_filters stamped labels dir 0 stamped.policy.rules
  pub some : (now.some || list_any (λ (rule : Rule). matches rule.subject labels && rule_says dir rule) (drop i stamped.policy.rules))
      ≡ (before.some || policy_says labels dir stamped)

abbrev pub invariant-loop-i : goal.invariant-loop-i
invariant-loop-i l = Adds l.stamped l.labels Ingress l.i l.initial.ingress l.ingress × Adds l.stamped l.labels Egress l.i l.initial.egress l.egress
