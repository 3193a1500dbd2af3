-- When a direction of an endpoint is enforced (Cilium, Policy Enforcement Modes, with `enableDefaultDeny`).
use Rattle.std.specs.Prelude.{◌==◌, ◌&&◌, ◌||◌, Bool, true, false, List, length, nat_lt, unwrap_or}
use Rattle.std.specs.List.{list_any}
use Rattle.pol_labels.specs.Match.{matches}
use Rattle.pol_ports.specs.declared.Direction.{Direction}
use Rattle.pol_ports.specs.declared.Direction.TheVariants.{Ingress, Egress}
use Rattle.pol_rule.specs.Covers.{section_of}
use Rattle.pol_rule.specs.DefaultDeny.{said_of}
use Rattle.pol_rule.specs.declared.policy.Entry.{Entry}
use Rattle.pol_rule.specs.declared.policy.Rule.{Rule}
use Rattle.pol_rule.specs.declared.policy.Section.{Section}
use Rattle.pol_rule.specs.declared.policy.Section.TheVariants as section
use Rattle.pol_model.specs.declared.limits.TheConstants.{INIT_IDENTITY}
use Rattle.pol_model.specs.declared.options.Mode.{Mode}
use Rattle.pol_model.specs.declared.options.Mode.TheVariants.{Default, Always, Never}
use Rattle.pol_model.specs.declared.row.Endpoint.{Endpoint}
use Rattle.pol_model.specs.declared.row.Stamped.{Stamped}

-- the sections of a direction
abbrev pub allow_section : Direction → Section
allow_section Ingress = section.Ingress
allow_section Egress = section.Egress

abbrev pub deny_section : Direction → Section
deny_section Ingress = section.IngressDeny
deny_section Egress = section.EgressDeny

abbrev pub is_there : List Entry → Bool
is_there entries = nat_lt 0 (length entries)

-- the rule has an allow or a deny section in that direction; an empty section is none
abbrev pub has_section : Direction → Rule → Bool
has_section dir rule = is_there (section_of (allow_section dir) rule) || is_there (section_of (deny_section dir) rule)

-- Whether a rule puts a direction under default deny: what its member says, and without one whether it has a section there.
abbrev pub rule_says : Direction → Rule → Bool
rule_says dir rule = unwrap_or (said_of dir rule.default_deny) (has_section dir rule)

-- a rule selects the endpoint where its subject matches the endpoint's labels
abbrev pub rule_selects : Endpoint → Rule → Bool
rule_selects endpoint rule = matches rule.subject endpoint.labels

-- some rule of the policy selects the endpoint and passes
unfoldable pub has_rule : (Rule → Bool) → Endpoint → Stamped → Bool
has_rule passes endpoint stamped = list_any (λ rule. rule_selects endpoint rule && passes rule) stamped.policy.rules

-- the direction of the endpoint is enforced in this mode; one that has no labels yet is enforced by default
abbrev pub enforced : Mode → List Stamped → Endpoint → Direction → Bool
enforced Always policies endpoint dir = true
enforced Never policies endpoint dir = false
enforced Default policies endpoint dir = (endpoint.identity == INIT_IDENTITY) || list_any (has_rule (rule_says dir) endpoint) policies
