-- What is read is well formed: so nothing less than that would do.
use Rattle.std.proofs.Common.{◌≡◌, ◌≢◌, ℕ, ◌==◌, ◌&&◌, ◌||◌, if◌then◌else◌, not, Bool, true, false, length, List, [], ◌∷◌, ◌++◌, codes, map, Option, None, Some, is_some, option_map, option_and_then, unwrap_or, IsTrue, Ok, refl, ap, subst}
use Rattle.std.specs.List.{AllByRecursion, list_any}
use Rattle.std.specs.Option.{option_or}
use Rattle.serde_json.specs.Data.{Data}
use Rattle.serde_json.specs.Find.{as_array}
use Rattle.document_laws.proofs.Nothing.{IsSound}
use Rattle.document_laws.proofs.Shapes.{entry_is, entry_shape, member_shape, policy_is, policy_shape, port_is, port_item_is, port_item_shape, port_shape, rule_is, rule_shape}
use Rattle.document_laws.proofs.Within.{items_well, member_text_well, passed, sound_items_within, sound_within}
use Rattle.document_laws.specs.WellFormed.{IsWellFormed, IsWellFormedEntry, IsWellFormedItem, IsWellFormedPort, IsWellFormedRule}
use Rattle.pol_json.proofs.FirstFaults.{nothing_found}
use Rattle.pol_json.proofs.Keys.{key_name, key_namespace, wide_key}
use Rattle.pol_json.specs.Build.{entry_of, member_items, policy_of, port_item_of, port_of, rule_of, rules_of}
use Rattle.pol_json.specs.Document.{first_fault, has_name, has_spec, head_fault, is_empty_list, is_policy, is_there_and_long, places_of, read_document, unless_fault}
use Rattle.pol_json.specs.Members.{items_list, present}
use Rattle.pol_json.specs.Path.{fault_of}
use Rattle.pol_json.specs.Places.{Cause, Found, first_found, is_icmp, left_out, unless}
use Rattle.pol_json.specs.Texts.{is_letter}
use Rattle.pol_json.specs.declared.fault.DocFault.{DocFault}
use Rattle.pol_json.specs.declared.fault.DocFault.TheVariants.{NotPolicy, NoName, NoSpec}
use Rattle.pol_ports.specs.declared.Direction.{Direction}
use Rattle.pol_ports.specs.declared.Direction.TheVariants.{Ingress, Egress}
use Rattle.pol_rule.specs.declared.raw.RawPolicy.{RawPolicy}
use Rattle.pol_rule.specs.declared.raw.RawRule.{RawRule}

-- ---- entries

abbrev port_cause : List ℕ → Option Cause
port_cause text = unless (not (list_any is_letter text)) (left_out (codes "named-port"))

abbrev protocol_cause : List ℕ → Option Cause
protocol_cause text = unless (not (is_icmp text)) (left_out (codes "icmp"))

abbrev IsUnnamed : List ℕ → Type 0
IsUnnamed text = IsTrue (not (list_any is_letter text))

abbrev HasPorts : List ℕ → Type 0
HasPorts text = IsTrue (not (is_icmp text))

port_passes : (text : List ℕ) → port_cause text ≡ None → IsUnnamed text
port_passes text none = passed (not (list_any is_letter text)) (left_out (codes "named-port")) none

protocol_passes : (text : List ℕ) → protocol_cause text ≡ None → HasPorts text
protocol_passes text none = passed (not (is_icmp text)) (left_out (codes "icmp")) none

port_well : (d : Data) → IsSound port_shape d → IsWellFormedPort (port_of d)
port_well d sound = record {
  port_text = member_text_well IsUnnamed port_cause refl port_passes port_shape port_is (codes "port") d (λ e. refl) sound;
  protocol = member_text_well HasPorts protocol_cause refl protocol_passes port_shape port_is (codes "protocol") d (λ e. refl) sound;
}

item_well : (d : Data) → IsSound port_item_shape d → IsWellFormedItem (port_item_of d)
item_well d sound = items_well IsWellFormedPort port_of port_item_shape port_item_is (codes "ports") d tt sound port_well

entry_well : (dir : Direction) (d : Data) → IsSound (entry_shape dir) d → IsWellFormedEntry (entry_of dir d)
entry_well Ingress d sound = items_well IsWellFormedItem port_item_of (entry_shape Ingress) (entry_is Ingress) (codes "toPorts") d tt sound item_well
entry_well Egress d sound = items_well IsWellFormedItem port_item_of (entry_shape Egress) (entry_is Egress) (codes "toPorts") d tt sound item_well

-- ---- rules

rule_well : (d : Data) → IsSound rule_shape d → IsWellFormedRule (rule_of d)
rule_well d sound = record {
  ingress = items_well IsWellFormedEntry (entry_of Ingress) rule_shape rule_is (codes "ingress") d tt sound (entry_well Ingress);
  ingress_deny = items_well IsWellFormedEntry (entry_of Ingress) rule_shape rule_is (codes "ingressDeny") d tt sound (entry_well Ingress);
  egress = items_well IsWellFormedEntry (entry_of Egress) rule_shape rule_is (codes "egress") d tt sound (entry_well Egress);
  egress_deny = items_well IsWellFormedEntry (entry_of Egress) rule_shape rule_is (codes "egressDeny") d tt sound (entry_well Egress);
}

-- the rules of `specs`, behind that of `spec`
abbrev with_others : Option Data → List RawRule → List RawRule
with_others spec others = unwrap_or (option_map (λ d. rule_of d ∷ []) spec) [] ++ others

rules_with_well : (d : Data) (spec : Option Data) (others : List RawRule) → present (codes "spec") d ≡ spec → IsSound policy_shape d
    → AllByRecursion IsWellFormedRule others → AllByRecursion IsWellFormedRule (with_others spec others)
rules_with_well d None others is sound well = well
rules_with_well d (Some e) others is sound well = (rule_well e (sound_within policy_shape policy_is (codes "spec") d e sound is), well)

rules_well : (d : Data) → IsSound policy_shape d → AllByRecursion IsWellFormedRule (rules_of d)
rules_well d sound =
    rules_with_well d (present (codes "spec") d) (member_items rule_of (codes "specs") d) refl sound
    (items_well IsWellFormedRule rule_of policy_shape policy_is (codes "specs") d tt sound rule_well)

-- ---- some rule

third : (policy name spec : Bool) (a b c : DocFault) → (if not policy then Some a else if not name then Some b else if not spec then Some c else None) ≡ None
    → spec ≡ true
third true true true a b c none = refl
third true true false a b c none = absurd cc
third true false spec a b c none = absurd cc
third false name spec a b c none = absurd cc

no_head : (head : Option DocFault) (found : Option Found) → option_or head (option_map fault_of found) ≡ None → head ≡ None
no_head None found none = refl
no_head (Some fault) found none = absurd cc

pub no_fault : {A : Type 0} (fault : Option DocFault) (raw policy : A) → unless_fault fault raw ≡ Ok policy → (fault ≡ None) × (raw ≡ policy)
no_fault None raw policy is = (refl, cc)
no_fault (Some fault) raw policy is = absurd cc

some_item : (es : List Data) → not (length es == 0) ≡ true → map rule_of es ≢ []
some_item [] is = absurd cc
some_item (e ∷ es) is = λ same. cc

some_of_specs : (list : Option (List Data)) (es : List Data) → list ≡ Some es → not (is_empty_list list) ≡ true → map rule_of (unwrap_or list []) ≢ []
some_of_specs None es is long = absurd cc
some_of_specs (Some ds) es is long = some_item ds long

in_specs : (d : Data) (specs : Option Data) → present (codes "specs") d ≡ specs → IsSound policy_shape d
    → (is_some specs && not (is_empty_list (option_and_then (λ ds. Some (items_list ds)) (option_and_then as_array specs)))) ≡ true
    → map rule_of (unwrap_or (option_and_then (λ ds. Some (items_list ds)) (option_and_then as_array specs)) []) ≢ []
in_specs d None is sound there = absurd cc
in_specs d (Some e) is sound there =
    let within = sound_items_within (member_shape policy_shape (codes "specs")) e tt (sound_within policy_shape policy_is (codes "specs") d e sound is) in
    some_of_specs (option_and_then (λ ds. Some (items_list ds)) (as_array e)) (items_list within.0) (ap (option_and_then (λ ds. Some (items_list ds))) within.1) there

some_rule : (d : Data) (spec : Option Data) (others : List RawRule) → (is_some spec || is_there_and_long (codes "specs") d) ≡ true
    → (is_there_and_long (codes "specs") d ≡ true → others ≢ []) → with_others spec others ≢ []
some_rule d (Some e) others has more = λ same. cc
some_rule d None others has more = more has

-- ---- all of it

pub read_is_well_formed : (d : Data) (policy : RawPolicy) → read_document d ≡ Ok policy → IsWellFormed policy
read_is_well_formed d policy is =
    let both = no_fault (first_fault d) (policy_of d) policy is in
    let sound : IsSound policy_shape d = nothing_found d policy is in
    let has : has_spec d ≡ true =
    third (is_policy d) (has_name d) (has_spec d) NotPolicy NoName NoSpec (no_head (head_fault d) (first_found (places_of d)) both.0) in
    let same : rules_of d ≡ policy.rules = ap (λ (p : RawPolicy). p.rules) both.1 in
    record {
      key = record { name = key_name d policy is; namespace = key_namespace d policy is; no_namespace = wide_key d policy is };
      some_rule = subst (λ (rules : List RawRule). rules ≢ []) same
          (some_rule d (present (codes "spec") d) (member_items rule_of (codes "specs") d) has (in_specs d (present (codes "specs") d) refl sound));
      rules = subst (AllByRecursion IsWellFormedRule) same (rules_well d sound);
    }
