-- How long a policy is, and where a fault of a rule stands: what reading gives is bounded by the bytes of the line.
use Rattle.std.specs.Prelude.{ℕ, ◌<◌, ◌≤◌, length, Option, None, Some, is_some, IsTrue}
use Rattle.std.specs.List.{AllByRecursion}
use Rattle.pol_rule.specs.Causes.{cause_of}
use Rattle.pol_rule.specs.declared.fault.RuleFault.{RuleFault}
use Rattle.pol_rule.specs.declared.policy.Policy.{Policy}
use Rattle.pol_rule.specs.declared.policy.Rule.{Rule}
use Rattle.pol_rule.specs.declared.policy.Section.{Section}

-- none of a rule's sections has more entries
pub record HasShortSections (n : ℕ) (rule : Rule) : Type 0 where
  pub ingress : length rule.ingress ≤ n
  pub ingress_deny : length rule.ingress_deny ≤ n
  pub egress : length rule.egress ≤ n
  pub egress_deny : length rule.egress_deny ≤ n

-- nor has the policy more rules
pub record IsShortPolicy (n : ℕ) (policy : Policy) : Type 0 where
  pub rules : length policy.rules ≤ n
  pub sections : AllByRecursion (HasShortSections n) policy.rules

-- the entry that a fault stands at, where it isn't the subject, is one of the first
abbrev pub IsShortPlace : ℕ → Option (Section × ℕ) → Type 0
IsShortPlace n None = Unit {0}
IsShortPlace n (Some at) = at.1 < n

-- a fault has the number of a cause, and stands at one of the first rules
pub record IsShortFault (n : ℕ) (fault : RuleFault) : Type 0 where
  pub cause : IsTrue (is_some (cause_of fault.number))
  pub rule : fault.rule < n
  pub place : IsShortPlace n fault.«at»
