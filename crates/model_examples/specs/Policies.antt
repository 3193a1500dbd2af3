-- Small policies, and what they say, for laws that compute what definitions give (`policies`).
use Rattle.std.specs.Prelude.{ℕ, Bool, ◌+◌, ◌*◌, ◌^◌, List, [], ◌∷◌, codes, drop, map, Option, Some, option_map}
use Rattle.pol_addr.specs.declared.address.Addr.TheVariants.{V4}
use Rattle.pol_addr.specs.declared.network.Prefix.{Prefix}
use Rattle.pol_mapkey.specs.declared.Word.{Word}
use Rattle.pol_ports.specs.declared.Direction.{Direction}
use Rattle.pol_ports.specs.declared.Direction.TheVariants.{Ingress, Egress}
use Rattle.pol_ports.specs.declared.Proto.TheVariants.{Tcp}
use Rattle.pol_rule.specs.DefaultDeny.{nothing_said}
use Rattle.pol_rule.specs.Plain.{rule_of}
use Rattle.pol_rule.specs.declared.policy.DefaultDeny.{DefaultDeny}
use Rattle.pol_rule.specs.declared.policy.Entry.{Entry}
use Rattle.pol_rule.specs.declared.policy.Peer.{Peer}
use Rattle.pol_rule.specs.declared.policy.Peer.TheVariants.{Cidr}
use Rattle.pol_rule.specs.declared.policy.Peers.TheVariants.{Every, Listed}
use Rattle.pol_rule.specs.declared.policy.Place.{Place}
use Rattle.pol_rule.specs.declared.policy.Policy.{Policy}
use Rattle.pol_rule.specs.declared.policy.Rule.{Rule}
use Rattle.pol_rule.specs.declared.policy.Section.{Section}
use Rattle.pol_model.specs.declared.limits.TheConstants.{RESERVED_LAST}
use Rattle.pol_model.specs.declared.options.Mode.{Mode}
use Rattle.pol_model.specs.declared.options.Mode.TheVariants.{Default}
use Rattle.pol_model.specs.declared.options.Options.{Options}
use Rattle.pol_model.specs.declared.request.Query.{Query}
use Rattle.pol_model.specs.declared.request.Remote.TheVariants.{Identity}
use Rattle.pol_model.specs.declared.request.Request.{Request}
use Rattle.pol_model.specs.declared.request.Request.TheVariants.{Apply, SetMode}
use Rattle.pol_model.specs.After.{state_of}
use Rattle.pol_model.specs.Endpoints.{endpoint_of}
use Rattle.pol_model.specs.Explain.{explain_of}
use Rattle.pol_model.specs.Remote.{numbered_prefixes}
use Rattle.pol_model.specs.Verdict.{verdict_of}
use Rattle.pol_model_laws.specs.Examples.{adds, cidrs, key_of, net, wide, word_at}
use Rattle.pol_model_laws.specs.WorkedMaps.{app_is}

-- an entry for these peers, on every port
abbrev pub entry_for : List Peer → Entry
entry_for peers = record { peers = Listed peers; ports = [] }

-- a section of one entry for these prefixes, and no section where there are none
abbrev pub section_for : List Prefix → List Entry
section_for [] = []
section_for (prefix ∷ others) = entry_for (cidrs (prefix ∷ others)) ∷ []

abbrev pub in_sections : List Entry → List Entry → List Entry → List Entry → Rule
in_sections ingress ingress_deny egress egress_deny =
    record (rule_of []) { ingress = ingress; ingress_deny = ingress_deny; egress = egress; egress_deny = egress_deny }

abbrev pub policy_of : List ℕ → List Rule → Policy
policy_of name rules = record { key = key_of name; rules = rules }

-- one rule for every endpoint, with these prefixes in its four sections
abbrev pub sections : List Prefix → List Prefix → List Prefix → List Prefix → Policy
sections ingress ingress_deny egress egress_deny =
    policy_of (codes "p") (in_sections (section_for ingress) (section_for ingress_deny) (section_for egress) (section_for egress_deny) ∷ [])

-- under that policy alone and in that mode, the verdicts in a direction on the first two prefixes that hold a number, and
-- on the world of IPv4
abbrev pub words_in : Mode → Options → Direction → Policy → List Word
words_in mode options dir policy = map (word_at options (SetMode mode ∷ Apply policy ∷ []) dir) (16777217 ∷ 16777218 ∷ 9 ∷ [])

abbrev pub words_under : Options → Direction → Policy → List Word
words_under = words_in Default

-- what a member says that says this of one direction, and nothing of the other
abbrev pub says : Direction → Bool → DefaultDeny
says Ingress said = record nothing_said { ingress = Some said }
says Egress said = record nothing_said { egress = Some said }

abbrev pub other_side : Direction → Direction
other_side Ingress = Egress
other_side Egress = Ingress

-- a rule for every endpoint with that member, and with these sections of one direction: the one that allows, and the one
-- that denies
abbrev pub saying : DefaultDeny → Direction → List Entry → List Entry → Rule
saying said Ingress allows denies = record (rule_of []) { ingress = allows; ingress_deny = denies; default_deny = said }
saying said Egress allows denies = record (rule_of []) { egress = allows; egress_deny = denies; default_deny = said }

-- the verdicts in that direction under such rules
abbrev pub words_said : Options → Direction → List Rule → List Word
words_said options dir rules = words_under options dir (policy_of (codes "p") rules)

-- the section `[{}]`, whose one entry covers nothing
abbrev pub covers_nothing : List Entry
covers_nothing = record { peers = Every; ports = [] } ∷ []

abbrev pub first_net : List Entry
first_net = section_for (net 1 ∷ [])

-- the verdict on TCP port 80 of a number at a live endpoint
abbrev pub word_for : List ℕ → Options → List Request → Direction → ℕ → Option Word
word_for name options requests dir number =
    option_map (λ endpoint. verdict_of options (state_of options requests) endpoint dir number Tcp 80)
    (endpoint_of name (state_of options requests).endpoints)

-- 10.N.M.0/24
abbrev pub part : ℕ → ℕ → Prefix
part n m = record { addr = V4 (10 * 2 ^ 24 + n * 2 ^ 16 + m * 2 ^ 8); len = 24 }

-- the prefixes that hold numbers once a policy is applied, by ascending number
abbrev pub numbers_told : Options → Policy → List (Prefix × ℕ)
numbers_told options policy = numbered_prefixes (drop RESERVED_LAST (state_of options (Apply policy ∷ [])).identities)

-- Two rules, with four sections, two entries, items with exceptions, and prefixes that come again. Neither the addresses
-- nor their lengths are in the order of the places.
abbrev pub many_prefixes : Policy
many_prefixes =
    policy_of (codes "p")
    (in_sections
    (entry_for (Cidr (net 9) (part 9 2 ∷ part 9 1 ∷ []) ∷ Cidr (net 3) (part 3 1 ∷ []) ∷ []) ∷ entry_for (Cidr (net 7) [] ∷ []) ∷ [])
    (section_for (net 2 ∷ []))
    (section_for (net 8 ∷ net 9 ∷ []))
    (section_for (net 1 ∷ []))
    ∷ in_sections (section_for (net 6 ∷ net 3 ∷ [])) [] [] (section_for (wide ∷ []))
    ∷ [])

-- Two policies of which the second comes first by name. In each rule the second of three entries is for others, and the
-- second of three rules for another endpoint.
abbrev pub three_entries : List Entry
three_entries = entry_for (cidrs (net 1 ∷ [])) ∷ entry_for (cidrs (net 2 ∷ [])) ∷ entry_for (cidrs (net 1 ∷ [])) ∷ []

abbrev pub covering_rule : Rule
covering_rule = in_sections three_entries (section_for (net 1 ∷ [])) (section_for (net 1 ∷ [])) three_entries

abbrev pub two_policies : List Request
two_policies =
    adds (codes "a") 1
    ∷ Apply (policy_of (codes "q") (covering_rule ∷ record covering_rule { subject = app_is (codes "b") ∷ [] } ∷ covering_rule ∷ []))
    ∷ Apply (policy_of (codes "p") (covering_rule ∷ []))
    ∷ []

-- where a place stands: its policy, rule, section and entry
abbrev pub where_is : Place → List ℕ × ℕ × Section × ℕ
where_is place = (place.key.name, place.rule, place.section, place.entry)

-- what covers TCP port 80 of the first prefix that holds a number, at the endpoint that `adds` makes
abbrev pub asked : Direction → Query
asked dir = record { endpoint = codes "a"; dir = dir; remote = Identity 16777217; proto = Tcp; port = 80 }

abbrev pub allows_told : Options → Direction → Option (List (List ℕ × ℕ × Section × ℕ))
allows_told options dir = option_map (λ trace. map where_is trace.allows) (explain_of options (state_of options two_policies) (asked dir))

abbrev pub denies_told : Options → Direction → Option (List (List ℕ × ℕ × Section × ℕ))
denies_told options dir = option_map (λ trace. map where_is trace.denies) (explain_of options (state_of options two_policies) (asked dir))
