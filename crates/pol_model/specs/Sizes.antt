-- A policy has fewer than 2 ^ 32 rules, and each of their sections fewer than 2 ^ 32 entries, so that a place
-- fits its numbers.
use Rattle.std.specs.Prelude.{◌<◌, ◌^◌, length}
use Rattle.std.specs.List.{AllByRecursion}
use Rattle.pol_rule.specs.declared.policy.Policy.{Policy}
use Rattle.pol_rule.specs.declared.policy.Rule.{Rule}
use Rattle.pol_model.specs.declared.request.Request.{Request}
use Rattle.pol_model.specs.declared.request.Request.TheVariants.{AddEndpoint, RemoveEndpoint, AddIdentity, RemoveIdentity, Apply, Remove, SetMode}

pub record HasShortSections (rule : Rule) : Type 0 where
  pub ingress : length rule.ingress < 2 ^ 32
  pub ingress_deny : length rule.ingress_deny < 2 ^ 32
  pub egress : length rule.egress < 2 ^ 32
  pub egress_deny : length rule.egress_deny < 2 ^ 32

pub record IsShortPolicy (policy : Policy) : Type 0 where
  pub rules : length policy.rules < 2 ^ 32
  pub sections : AllByRecursion HasShortSections policy.rules

abbrev pub IsShort : Request → Type 0
IsShort (AddEndpoint name labels address) = Unit {0}
IsShort (RemoveEndpoint name) = Unit {0}
IsShort (AddIdentity name labels) = Unit {0}
IsShort (RemoveIdentity name) = Unit {0}
IsShort (Apply policy) = IsShortPolicy policy
IsShort (Remove key) = Unit {0}
IsShort (SetMode mode) = Unit {0}
