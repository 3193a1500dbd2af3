-- What a policy map is made of, by filters.
use Rattle.std.specs.Prelude.{Bool, not, List, map, filter}
use Rattle.pol_ports.specs.declared.Direction.{Direction}
use Rattle.pol_ports.specs.declared.Direction.TheVariants.{Ingress, Egress}
use Rattle.pol_rule.specs.declared.policy.Entry.{Entry}
use Rattle.pol_model.specs.PolicyMap.{MapParts}
use Rattle.pol_filters.specs.declared.filter.Filter.{Filter}
use Rattle.pol_filters.specs.declared.filter.Filters.{Filters}

-- the filters of a direction
abbrev pub filters_of : Filters → Direction → List Filter
filters_of filters Ingress = filters.ingress
filters_of filters Egress = filters.egress

abbrev pub enforced_in : Filters → Direction → Bool
enforced_in filters Ingress = filters.ingress_enforced
enforced_in filters Egress = filters.egress_enforced

-- what the filter allows or denies
abbrev pub entry_of : Filter → Entry
entry_of one = record { peers = one.peers; ports = one.ports }

abbrev pub allowing : List Filter → List Entry
allowing filters = map entry_of (filter (λ one. not one.deny) filters)

abbrev pub denying : List Filter → List Entry
denying filters = map entry_of (filter (λ one. one.deny) filters)

abbrev pub filter_parts : Filters → MapParts
filter_parts filters = record {
  never = filters.never;
  enforced = enforced_in filters;
  localhost = filters.localhost;
  allows = λ dir. allowing (filters_of filters dir);
  denies = λ dir. denying (filters_of filters dir);
}
