-- Why a packet is allowed or denied: the verdict, and the places of the entries that cover it.
use Rattle.std.specs.Prelude.{ℕ, ◌+◌, Bool, if◌then◌else◌, List, [], ◌∷◌, ◌++◌, Option, option_map}
use Rattle.std.specs.List.{flat_map}
use Rattle.pol_rule.specs.Covers.{section_of, entry_covers}
use Rattle.pol_rule.specs.declared.policy.Entry.{Entry}
use Rattle.pol_rule.specs.declared.policy.Place.{Place}
use Rattle.pol_rule.specs.declared.policy.PolicyKey.{PolicyKey}
use Rattle.pol_rule.specs.declared.policy.Rule.{Rule}
use Rattle.pol_rule.specs.declared.policy.Section.{Section}
use Rattle.pol_model.specs.declared.answer.Trace.{Trace}
use Rattle.pol_model.specs.declared.options.Options.{Options}
use Rattle.pol_model.specs.declared.request.Query.{Query}
use Rattle.pol_model.specs.declared.row.Endpoint.{Endpoint}
use Rattle.pol_model.specs.declared.row.Stamped.{Stamped}
use Rattle.pol_model.specs.State.{State}
use Rattle.pol_model.specs.Selects.{selects_number}
use Rattle.pol_model.specs.Enforced.{allow_section, deny_section, rule_selects}
use Rattle.pol_model.specs.Endpoints.{endpoint_of}
use Rattle.pol_model.specs.Remote.{remote_number, verdict_for}

-- the places of the entries that pass, where the first of them is entry n
abbrev pub entry_places : (Entry → Bool) → PolicyKey → ℕ → Section → ℕ → List Entry → List Place
entry_places passes key rule section n [] = []
entry_places passes key rule section n (entry ∷ others) =
    if passes entry
    then record { key = key; rule = rule; section = section; entry = n } ∷ entry_places passes key rule section (n + 1) others
    else entry_places passes key rule section (n + 1) others

-- the places in the rules that pass, where the first of them is rule n
abbrev pub rule_places : (Rule → Bool) → (Entry → Bool) → PolicyKey → Section → ℕ → List Rule → List Place
rule_places selected passes key section n [] = []
rule_places selected passes key section n (rule ∷ others) =
    if selected rule
    then entry_places passes key n section 0 (section_of section rule) ++ rule_places selected passes key section (n + 1) others
    else rule_places selected passes key section (n + 1) others

-- the places of the entries of that section that cover the packet, in policy, rule and entry order
abbrev pub covering_places : List Stamped → Endpoint → Section → (Entry → Bool) → List Place
covering_places policies endpoint section passes =
    flat_map (λ stamped. rule_places (rule_selects endpoint) passes stamped.policy.key section 0 stamped.policy.rules) policies

-- the entry covers the query's packet
abbrev pub covers_query : State → Query → Entry → Bool
covers_query s query = entry_covers (selects_number s.identities (remote_number s query.remote)) query.proto query.port

abbrev pub explain_for : Options → State → Query → Endpoint → Trace
explain_for options s query endpoint = record {
  word = verdict_for options s query endpoint;
  remote = remote_number s query.remote;
  denies = covering_places s.policies endpoint (deny_section query.dir) (covers_query s query);
  allows = covering_places s.policies endpoint (allow_section query.dir) (covers_query s query);
}

-- the explanation of a query, where its endpoint is live; the places don't depend on the mode
abbrev pub explain_of : Options → State → Query → Option Trace
explain_of options s query = option_map (explain_for options s query) (endpoint_of query.endpoint s.endpoints)
