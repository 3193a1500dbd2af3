-- Written selectors and rules, for laws that read them (`rules`).
use Rattle.std.specs.Prelude.{ℕ, false, true, List, [], ◌∷◌, codes, map, None, Some}
use Rattle.pol_labels.specs.declared.requirement.Operator.TheVariants.{OneOf, Present}
use Rattle.pol_labels.specs.declared.requirement.Requirement.{Requirement}
use Rattle.pol_rule.specs.Plain.{raw_rule_of}
use Rattle.pol_rule.specs.declared.policy.DefaultDeny.{DefaultDeny}
use Rattle.pol_rule.specs.declared.policy.Policy.{Policy}
use Rattle.pol_rule.specs.declared.policy.PolicyKey.{PolicyKey}
use Rattle.pol_rule.specs.declared.raw.RawPolicy.{RawPolicy}
use Rattle.pol_rule.specs.declared.raw.RawSelector.{RawSelector}

abbrev pub in_namespace : List ℕ → PolicyKey
in_namespace namespace = record { cluster_wide = false; namespace = namespace; name = codes "p" }

abbrev pub cluster_wide : PolicyKey
cluster_wide = record { cluster_wide = true; namespace = []; name = codes "p" }

-- a selector that asks for this label and, by an expression, for a key
abbrev pub asks_label : List ℕ → List ℕ → RawSelector
asks_label key value = record { labels = record { key = key; value = value } ∷ []; expressions = [] }

abbrev pub asks_key : List ℕ → RawSelector
asks_key key = record { labels = []; expressions = record { key = key; operator = codes "Exists"; values = [] } ∷ [] }

abbrev pub asks_nothing : RawSelector
asks_nothing = record { labels = []; expressions = [] }

-- what is asked of labels of every source, and of those of one
abbrev pub any_is : List ℕ → List ℕ → Requirement
any_is key value = record { any_source = true; source = []; key = key; op = OneOf; values = value ∷ [] }

abbrev pub source_is : List ℕ → List ℕ → List ℕ → Requirement
source_is source key value = record { any_source = false; source = source; key = key; op = OneOf; values = value ∷ [] }

abbrev pub any_has : List ℕ → Requirement
any_has key = record { any_source = true; source = []; key = key; op = Present; values = [] }

abbrev pub source_has : List ℕ → List ℕ → Requirement
source_has source key = record { any_source = false; source = source; key = key; op = Present; values = [] }

abbrev pub namespace_key : List ℕ
namespace_key = codes "io.kubernetes.pod.namespace"

-- a policy of one rule with one entry in `egress`: a prefix with an exception
abbrev pub without : List ℕ → List ℕ → RawPolicy
without cidr exception = record {
  key = in_namespace (codes "a");
  rules = record (raw_rule_of (Some asks_nothing)) {
    egress = record {
      endpoints = None;
      cidrs = None;
      cidr_sets = Some (record { cidr = cidr; except = exception ∷ [] } ∷ []);
      entities = None;
      ports = [];
    } ∷ [];
  } ∷ [];
}

-- a policy of one rule for every endpoint, which says this of default deny
abbrev pub saying : DefaultDeny → RawPolicy
saying said = record {
  key = in_namespace (codes "a");
  rules = record (raw_rule_of (Some asks_nothing)) { default_deny = said } ∷ [];
}

-- what the rules of a policy say of default deny
abbrev pub said_by : Policy → List DefaultDeny
said_by policy = map (λ rule. rule.default_deny) policy.rules
