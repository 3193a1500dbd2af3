-- The policies of NetworkPolicies give the verdicts that the objects give.
use Rattle.std.proofs.Common.{◌≡◌, ℕ, ◌≤◌, Bool, true, false, not, ◌&&◌, ◌||◌, ◌==◌, List, [], ◌∷◌, Option, Some, None, option_map, Ok, refl, sym, ap, ◌∙◌}
use Rattle.std.proofs.lemmas.Bool.{and_left, and_right}
use Rattle.std.specs.Prelude.{if◌then◌else◌}
use Rattle.std.specs.List.{list_any}
use Rattle.pol_labels.specs.declared.requirement.Requirement.{Requirement}
use Rattle.pol_mapkey.specs.declared.Word.TheVariants.{Allowed, DeniedByRule, DeniedByDefault}
use Rattle.pol_model.specs.Enforced.{allow_section, deny_section, enforced, has_rule, rule_says, rule_selects}
use Rattle.pol_model.specs.Selects.{selects_number}
use Rattle.pol_model.specs.State.{State}
use Rattle.pol_model.specs.Verdict.{is_never, rule_covers, some_covers, verdict_of}
use Rattle.pol_model.specs.declared.limits.TheConstants.{INIT_IDENTITY}
use Rattle.pol_model.specs.declared.options.Mode.{Mode}
use Rattle.pol_model.specs.declared.options.Mode.TheVariants.{Always, Default, Never}
use Rattle.pol_model.specs.declared.options.Options.{Options}
use Rattle.pol_model.specs.declared.row.Endpoint.{Endpoint}
use Rattle.pol_model.specs.declared.row.Stamped.{Stamped}
use Rattle.pol_netpol.proofs.Kept.{keeps}
use Rattle.pol_netpol.specs.Keeps.{MeansTheSame}
use Rattle.pol_netpol.specs.Meaning.{allows, isolates, selects}
use Rattle.pol_netpol.specs.Translated.{rule_with, translated_of}
use Rattle.pol_netpol.specs.declared.raw.RawNetworkPolicy.{RawNetworkPolicy}
use Rattle.pol_ports.specs.declared.Direction.{Direction}
use Rattle.pol_ports.specs.declared.Direction.TheVariants.{Ingress, Egress}
use Rattle.pol_ports.specs.declared.Proto.{Proto}
use Rattle.pol_rule.specs.Covers.{entry_covers}
use Rattle.pol_rule.specs.declared.policy.Rule.{Rule}
use Rattle.document_laws.proofs.NetworkWhole.{network_whole}
use Rattle.document_laws.specs.NetworkVerdicts.{AreOfObjects, is_isolated, is_local_host, isolates_it, lets_through, word_of_objects}

or_false : (b : Bool) → (b || false) ≡ b
or_false true = refl
or_false false = refl

and_true : (b : Bool) → (b && true) ≡ b
and_true true = refl
and_true false = refl

-- ---- the one rule of an object

says_by : (object : RawNetworkPolicy) (rule : Rule) (subject : Option (List Requirement)) → option_map (rule_with object) subject ≡ Some rule
    → (dir : Direction) → rule_says dir rule ≡ isolates object dir
says_by object rule None is dir = absurd cc
says_by object rule (Some subject) is Ingress = let same : rule_with object subject ≡ rule = cc in ap (rule_says Ingress) (sym same)
says_by object rule (Some subject) is Egress = let same : rule_with object subject ≡ rule = cc in ap (rule_says Egress) (sym same)

-- it means the same, and says of default deny where the object isolates
record IsRuleOf (object : RawNetworkPolicy) (stamped : Stamped) : Type 0 where
  rule : Rule
  only : stamped.policy.rules ≡ rule ∷ []
  means : MeansTheSame object rule
  says : (dir : Direction) → rule_says dir rule ≡ isolates object dir

first_same : (a b : Rule) (rules : List Rule) → rules ≡ a ∷ [] → rules ≡ b ∷ [] → a ≡ b
first_same a b rules is is' = let same : (a ∷ []) ≡ (b ∷ []) = sym is ∙ is' in cc

rule_found : (object : RawNetworkPolicy) (stamped : Stamped) → translated_of object ≡ Ok stamped.policy → IsRuleOf object stamped
rule_found object stamped is =
    let (key, rule, only, means) = keeps object stamped.policy is in
    let whole = network_whole object stamped.policy is in
    let same = first_same whole.rule rule stamped.policy.rules whole.only only in
    record {
      rule = rule;
      only = only;
      means = means;
      says = says_by object rule _ (whole.read ∙ ap Some same);
    }

module _ (s : State) (endpoint : Endpoint) (dir : Direction) (number : ℕ) (proto : Proto) (port : ℕ) (low : port ≤ 65535) where
  module _ (object : RawNetworkPolicy) (stamped : Stamped) (its : IsRuleOf object stamped) where
    one_isolates : has_rule (rule_says dir) endpoint stamped ≡ isolates_it endpoint dir object
    unfolding has_rule
    one_isolates =
        ap (list_any (λ rule. rule_selects endpoint rule && rule_says dir rule)) its.only ∙ or_false _ ∙ its.means.enforces endpoint dir

    one_selects : isolates object dir ≡ true → rule_selects endpoint its.rule ≡ selects object endpoint.labels
    one_selects is =
        sym (and_true (rule_selects endpoint its.rule))
        ∙ ap (λ b. rule_selects endpoint its.rule && b) (sym (its.says dir ∙ is))
        ∙ its.means.enforces endpoint dir
        ∙ ap (λ b. selects object endpoint.labels && b) is
        ∙ and_true (selects object endpoint.labels)

    abbrev covered : Bool
    covered = rule_covers (allow_section dir) (selects_number s.identities number) proto port its.rule

    abbrev allowed : Bool
    allowed = allows object s.identities dir number proto port

    not_covered : isolates object dir ≡ false → covered ≡ false
    unfolding rule_covers
    not_covered not = ap (list_any (entry_covers (selects_number s.identities number) proto port)) (its.means.elsewhere dir not)

    both_ways : (b : Bool) → isolates object dir ≡ b → (rule_selects endpoint its.rule && covered) ≡ lets_through s endpoint dir number proto port object
    both_ways true is =
        ap (λ b. b && covered) (one_selects is)
        ∙ ap (λ b. selects object endpoint.labels && b) (its.means.covers s dir number proto port low is)
        ∙ ap (λ b. b && allowed) (sym (and_true (selects object endpoint.labels)) ∙ ap (λ b. selects object endpoint.labels && b) (sym is))
    both_ways false is =
        and_right (rule_selects endpoint its.rule) covered (not_covered is)
        ∙ sym (and_left (isolates_it endpoint dir object) allowed (and_right (selects object endpoint.labels) (isolates object dir) is))

    one_covers : has_rule (rule_covers (allow_section dir) (selects_number s.identities number) proto port) endpoint stamped
        ≡ lets_through s endpoint dir number proto port object
    unfolding has_rule
    one_covers =
        ap (list_any (λ rule. rule_selects endpoint rule && rule_covers (allow_section dir) (selects_number s.identities number) proto port rule)) its.only
        ∙ or_false _ ∙ both_ways (isolates object dir) refl

    no_deny : rule_covers (deny_section dir) (selects_number s.identities number) proto port its.rule ≡ false
    unfolding rule_covers
    no_deny = ap (list_any (entry_covers (selects_number s.identities number) proto port)) (its.means.denies dir)

    one_denies : has_rule (rule_covers (deny_section dir) (selects_number s.identities number) proto port) endpoint stamped ≡ false
    unfolding has_rule
    one_denies =
        ap (list_any (λ rule. rule_selects endpoint rule && rule_covers (deny_section dir) (selects_number s.identities number) proto port rule)) its.only
        ∙ or_false _ ∙ and_right (rule_selects endpoint its.rule) _ no_deny

  -- ---- all of them

  any_isolates : (objects : List RawNetworkPolicy) (policies : List Stamped) → AreOfObjects objects policies
      → list_any (has_rule (rule_says dir) endpoint) policies ≡ list_any (isolates_it endpoint dir) objects
  any_isolates [] [] are = refl
  any_isolates [] (stamped ∷ policies) are = absurd are
  any_isolates (object ∷ objects) [] are = absurd are
  any_isolates (object ∷ objects) (stamped ∷ policies) are =
      λ i. one_isolates object stamped (rule_found object stamped are.0) i || any_isolates objects policies are.1 i

  any_covers : (objects : List RawNetworkPolicy) (policies : List Stamped) → AreOfObjects objects policies
      → some_covers policies endpoint (allow_section dir) (selects_number s.identities number) proto port
      ≡ list_any (lets_through s endpoint dir number proto port) objects
  any_covers [] [] are = refl
  any_covers [] (stamped ∷ policies) are = absurd are
  any_covers (object ∷ objects) [] are = absurd are
  any_covers (object ∷ objects) (stamped ∷ policies) are =
      λ i. one_covers object stamped (rule_found object stamped are.0) i || any_covers objects policies are.1 i

  none_denies : (objects : List RawNetworkPolicy) (policies : List Stamped) → AreOfObjects objects policies
      → some_covers policies endpoint (deny_section dir) (selects_number s.identities number) proto port ≡ false
  none_denies [] [] are = refl
  none_denies [] (stamped ∷ policies) are = absurd are
  none_denies (object ∷ objects) [] are = absurd are
  none_denies (object ∷ objects) (stamped ∷ policies) are =
      λ i. one_denies object stamped (rule_found object stamped are.0) i || none_denies objects policies are.1 i

  isolated_same : (mode : Mode) (objects : List RawNetworkPolicy) (policies : List Stamped) → AreOfObjects objects policies
      → enforced mode policies endpoint dir ≡ is_isolated mode objects endpoint dir
  isolated_same Always objects policies are = refl
  isolated_same Never objects policies are = refl
  isolated_same Default objects policies are = ap (λ b. (endpoint.identity == INIT_IDENTITY) || b) (any_isolates objects policies are)

-- ---- the word

word_by : (never denies covers isolated host : Bool) → denies ≡ false
    → (if never then Allowed else (if denies then DeniedByRule else (if covers || not isolated || host then Allowed else DeniedByDefault)))
    ≡ (if never || not isolated || covers || host then Allowed else DeniedByDefault)
word_by true denies covers isolated host none = refl
word_by false denies covers isolated host none =
    ap (λ b. if b then DeniedByRule else (if covers || not isolated || host then Allowed else DeniedByDefault)) none ∙ rest covers isolated
  where
    rest : (covers isolated : Bool) → (if covers || not isolated || host then Allowed else DeniedByDefault)
        ≡ (if false || not isolated || covers || host then Allowed else DeniedByDefault)
    rest true true = refl
    rest true false = refl
    rest false true = refl
    rest false false = refl

pub objects_decide : (options : Options) (s : State) (objects : List RawNetworkPolicy) → AreOfObjects objects s.policies
    → (endpoint : Endpoint) (dir : Direction) (number : ℕ) (proto : Proto) (port : ℕ) → port ≤ 65535
    → verdict_of options s endpoint dir number proto port ≡ word_of_objects options s objects endpoint dir number proto port
objects_decide options s objects are endpoint dir number proto port low =
    word_by (is_never s.mode) _ _ _ (is_local_host options dir number) (none_denies s endpoint dir number proto port low objects s.policies are)
    ∙ (λ i. if is_never s.mode || not (isolated_same s endpoint dir number proto port low s.mode objects s.policies are i)
    || any_covers s endpoint dir number proto port low objects s.policies are i || is_local_host options dir number then Allowed else DeniedByDefault)
