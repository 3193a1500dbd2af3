use Rattle.std.proofs.Common.{sym, subst, ◌∙◌}
use Rattle.std.specs.List.{IsDistinct}
use Rattle.pol_addr.specs.Prefix.{same_prefix}
use Rattle.pol_model.specs.Policies.{policy_at}
use Rattle.pol_requests.proofs.PolicySteps.{once_each}
use Rattle.pol_requests.proofs.policies.prepare_no_policy.Goals as goal

pub plan_prefixes-requires-clause-once : goal.plan_prefixes-requires-clause-once
plan_prefixes-requires-clause-once g c =
    subst (IsDistinct same_prefix) (sym (c.as_slice.ensures ∙ c.in_ok-old.ensures.prefixes)) (once_each (policy_at c.args.key.now c.args.store.now.state.policies))
