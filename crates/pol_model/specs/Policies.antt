-- The policies in force (Kubernetes, "Declarative Management": an object replaces one of the same key).
use Rattle.std.specs.Prelude.{Bool, not, List, [], ◌∷◌, find, filter, if◌then◌else◌, Option, None, Some}
use Rattle.pol_addr.specs.declared.network.Prefix.{Prefix}
use Rattle.pol_rule.specs.Keys.{same_key}
use Rattle.pol_rule.specs.Prefixes.{policy_prefixes}
use Rattle.pol_rule.specs.declared.policy.PolicyKey.{PolicyKey}
use Rattle.pol_model.specs.declared.row.IdentityRow.{IdentityRow}
use Rattle.pol_model.specs.declared.row.Stamped.{Stamped}
use Rattle.pol_model.specs.Prefixes.{prefixes_held, prefixes_released}

abbrev pub is_of_key : PolicyKey → Stamped → Bool
is_of_key key stamped = same_key stamped.policy.key key

abbrev pub policy_at : PolicyKey → List Stamped → Option Stamped
policy_at key policies = find (is_of_key key) policies

-- a policy takes the place of one of the same key, and else goes last
abbrev pub applied : Stamped → List Stamped → List Stamped
applied new [] = new ∷ []
applied new (old ∷ others) = if is_of_key new.policy.key old then new ∷ others else old ∷ applied new others

abbrev pub removed : PolicyKey → List Stamped → List Stamped
removed key policies = filter (λ stamped. not (is_of_key key stamped)) policies

-- the prefixes that go with the policy of that key
abbrev pub prefixes_of : Option Stamped → List Prefix
prefixes_of None = []
prefixes_of (Some stamped) = policy_prefixes stamped.policy

-- A new policy's prefixes are taken before those of the policy that it replaces are released.
abbrev pub identities_with : Stamped → List Stamped → List IdentityRow → List IdentityRow
identities_with new policies rows =
    prefixes_released (prefixes_of (policy_at new.policy.key policies)) (prefixes_held (policy_prefixes new.policy) rows)

abbrev pub identities_without : PolicyKey → List Stamped → List IdentityRow → List IdentityRow
identities_without key policies rows = prefixes_released (prefixes_of (policy_at key policies)) rows
