-- Two policies of three rules each, of which the second is for others, with entries that cover something and one that doesn't;
-- and single rules that say this and that of default deny.
use Rattle.std.specs.Prelude.{ℕ, Bool, false, List, [], ◌∷◌, codes, map, Option}
use Rattle.pol_ports.specs.declared.Direction.{Direction}
use Rattle.pol_rule.specs.Plain.{rule_of}
use Rattle.pol_rule.specs.declared.policy.DefaultDeny.{DefaultDeny}
use Rattle.pol_rule.specs.declared.policy.Entry.{Entry}
use Rattle.pol_rule.specs.declared.policy.Peers.TheVariants.{Every, Listed}
use Rattle.pol_rule.specs.declared.policy.Rule.{Rule}
use Rattle.pol_rule.specs.declared.policy.Section.{Section}
use Rattle.pol_model.specs.declared.options.Mode.TheVariants.{Default}
use Rattle.pol_model.specs.declared.row.Stamped.{Stamped}
use Rattle.pol_model_laws.specs.Examples.{app, cidrs, key_of, net}
use Rattle.pol_model_laws.specs.WorkedMaps.{app_is}
use Rattle.pol_filters.specs.Resolved.{filters_for, filters_in}
use Rattle.pol_filters.specs.declared.filter.Filter.{Filter}

abbrev covers_net : ℕ → Entry
covers_net n = record { peers = Listed (cidrs (net n ∷ [])); ports = [] }

abbrev pub covers_nothing : Entry
covers_nothing = record { peers = Every; ports = [] }

abbrev in_all : Rule
in_all = record (rule_of []) {
  ingress = covers_net 1 ∷ covers_nothing ∷ covers_net 2 ∷ [];
  ingress_deny = covers_net 3 ∷ covers_net 4 ∷ [];
  egress = covers_net 5 ∷ [];
  egress_deny = covers_nothing ∷ covers_net 6 ∷ [];
}

abbrev policies : List Stamped
policies =
    record { policy = record { key = key_of (codes "q"); rules = in_all ∷ record in_all { subject = app_is (codes "b") ∷ [] } ∷ in_all ∷ [] }; stamp = 7 }
    ∷ record { policy = record { key = key_of (codes "p"); rules = in_all ∷ [] }; stamp = 3 }
    ∷ []

-- what the member of both directions says
abbrev pub says : Option Bool → Option Bool → DefaultDeny
says of_ingress of_egress = record { ingress = of_ingress; egress = of_egress }

-- the first rule alone, with that member, and with these sections of each direction: the one that allows, the one that denies
abbrev pub saying : DefaultDeny → List Entry → List Entry → Rule
saying said allows denies =
    record (rule_of []) { ingress = allows; ingress_deny = denies; egress = allows; egress_deny = denies; default_deny = said }

abbrev pub covering : List Entry
covering = covers_net 1 ∷ []

-- whether what comes in is enforced, and what goes out, for an endpoint with the label `k8s:app=a`
abbrev pub enforced_told : Rule → Bool × Bool
enforced_told rule =
    let filters = filters_for (record { policy = record { key = key_of (codes "q"); rules = rule ∷ [] }; stamp = 7 } ∷ []) (app (codes "a")) Default false in
    (filters.ingress_enforced, filters.egress_enforced)

-- where a filter stands: its policy, rule, section and entry; whether it denies; and its stamp
abbrev where_is : Filter → List ℕ × ℕ × Section × ℕ × Bool × ℕ
where_is one = (one.place.key.name, one.place.rule, one.place.section, one.place.entry, one.deny, one.stamp)

-- the filters of an endpoint with the label `k8s:app=a`
abbrev pub filters_told : Direction → List (List ℕ × ℕ × Section × ℕ × Bool × ℕ)
filters_told dir = map where_is (filters_in policies (app (codes "a")) dir)
