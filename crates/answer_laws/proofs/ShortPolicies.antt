-- The policy of a document has no more rules than the document has nodes, and none of its sections more entries; and a fault of it stands at one of these.
use Rattle.std.proofs.Common.{◌≡◌, ℕ, suc, ◌+◌, ◌≤◌, ◌<◌, Bool, true, false, cond, List, [], ◌∷◌, length, map, filter_map, codes, Option, None, Some, option_map, option_and_then, unwrap_or, is_some, Ordering, Less, Equal, Greater, Result, Ok, Err, refl, arith}
use Rattle.std.specs.Cmp.Lexicographic.{slice_cmp}
use Rattle.std.specs.List.{AllByRecursion, cons_option}
use Rattle.std.specs.Option.{option_or}
use Rattle.std.specs.Ordering.{match_ordering, nat_cmp}
use Rattle.std.proofs.lemmas.List.{length-map}
use Rattle.serde_json.specs.Data.{Data, null, boolean, number, string, array, object, Items, no_items, item, Members, no_members, member}
use Rattle.serde_json.specs.Find.{as_array, get, get_member}
use Rattle.pol_json.specs.Build.{entry_of, member_items, policy_of, rule_of, rules_of, rules_with}
use Rattle.pol_json.specs.Document.{first_fault as document_fault, unless_fault}
use Rattle.pol_json.specs.Members.{is_null, items_list, list_at, present, unless_null}
use Rattle.pol_json.specs.Network.{is_network_policy, network_fault}
use Rattle.pol_json.specs.declared.fault.DocFault.{DocFault}
use Rattle.pol_labels.specs.declared.requirement.Requirement.{Requirement}
use Rattle.pol_netpol.specs.Document.{of_document, of_object, raw_entry_of, raw_of, spec_of}
use Rattle.pol_netpol.specs.Faults as network
use Rattle.pol_netpol.specs.Meaning.{entries_of, isolates}
use Rattle.pol_netpol.specs.Translated as translated
use Rattle.pol_netpol.specs.declared.raw.RawNetEntry.{RawNetEntry}
use Rattle.pol_netpol.specs.declared.raw.RawNetworkPolicy.{RawNetworkPolicy}
use Rattle.pol_ports.specs.declared.Direction.{Direction}
use Rattle.pol_ports.specs.declared.Direction.TheVariants.{Ingress, Egress}
use Rattle.pol_rule.specs.Causes.{cause_of, number_of}
use Rattle.pol_rule.specs.declared.cause.RuleCause.{RuleCause}
use Rattle.pol_rule.specs.declared.cause.RuleCause.TheVariants as rule
use Rattle.pol_rule.specs.declared.fault.RuleFault.{RuleFault}
use Rattle.pol_rule.specs.declared.policy.Policy.{Policy}
use Rattle.pol_rule.specs.declared.policy.PolicyKey.{PolicyKey}
use Rattle.pol_rule.specs.declared.policy.Rule.{Rule}
use Rattle.pol_rule.specs.declared.policy.Section.{Section}
use Rattle.pol_rule.specs.declared.policy.Section.TheVariants as section
use Rattle.pol_rule.specs.declared.raw.RawEntry.{RawEntry}
use Rattle.pol_rule.specs.declared.raw.RawPolicy.{RawPolicy}
use Rattle.pol_rule.specs.declared.raw.RawRule.{RawRule}
use Rattle.pol_rule.specs.declared.raw.RawSelector.{RawSelector}
use Rattle.pol_sanitize.specs.Faults.{entry_causes, entry_fault, fault_at, first_cause, first_fault, first_from, of_entry, of_subject, rule_fault, section_fault, subject_causes, subject_fault}
use Rattle.pol_sanitize.specs.Sanitized as sanitized
use Rattle.pol_sanitize.specs.Selectors.{subject_selector}
use Rattle.pol_script.specs.Commands.{cilium_policy_of, net_fault, network_policy_of, policy_of as policy_in}
use Rattle.pol_script.specs.Steps.{◌>>=◌, fault_as}
use Rattle.pol_script.specs.declared.line_fault.LineFault.{LineFault}
use Rattle.pol_script.specs.declared.line_fault.LineFault.TheVariants as fault
use Rattle.answer_laws.specs.Nodes.{nodes, items_nodes, members_nodes}
use Rattle.answer_laws.specs.Short.{IsShortFault, IsShortPolicy, HasShortSections}

-- ---- parts of a value have fewer nodes

abbrev pub AtMost : ℕ → Option Data → Type 0
AtMost n None = Unit {0}
AtMost n (Some d) = nodes d + 3 ≤ n

abbrev FewerBy : ℕ → Option Data → Type 0
FewerBy n None = Unit {0}
FewerBy n (Some d) = nodes d + 1 ≤ n

by_order : (o : Ordering) (n : ℕ) (a b c : Option Data) → FewerBy n a → FewerBy n b → FewerBy n c → FewerBy n (match_ordering o a b c)
by_order Less n a b c p q r = p
by_order Equal n a b c p q r = q
by_order Greater n a b c p q r = r

more_room : (m n : ℕ) (o : Option Data) → m ≤ n → FewerBy m o → FewerBy n o
more_room m n None room few = tt
more_room m n (Some d) room few = omega (arith, room, few)

member_few : (name : List ℕ) (ms : Members) → FewerBy (members_nodes ms) (get_member name ms)
member_few name no_members = tt
member_few name (member l e ms) =
    let rest = more_room (members_nodes ms) (members_nodes (member l e ms)) (get_member name ms) (omega arith) (member_few name ms) in
    by_order (slice_cmp nat_cmp name l) (members_nodes (member l e ms)) (get_member name ms) (Some e) (get_member name ms) rest (omega arith) rest

of_object_few : (n : ℕ) (o : Option Data) → FewerBy n o → AtMost (2 + n) o
of_object_few n None few = tt
of_object_few n (Some d) few = omega (arith, few)

get_few : (name : List ℕ) (d : Data) → AtMost (nodes d) (get name d)
get_few name null = tt
get_few name (boolean b) = tt
get_few name (number n) = tt
get_few name (string s) = tt
get_few name (array ds) = tt
get_few name (object ms) = of_object_few (members_nodes ms) (get_member name ms) (member_few name ms)

null_or : (n : ℕ) (d : Data) (b : Bool) → nodes d + 3 ≤ n → AtMost n (cond b None (Some d))
null_or n d true few = tt
null_or n d false few = few

present_by : (n : ℕ) (o : Option Data) → AtMost n o → AtMost n (option_and_then unless_null o)
present_by n None few = tt
present_by n (Some d) few = null_or n d (is_null d) few

-- a member that is there has three nodes less than the object: those of its name and of the brackets
pub present_few : (name : List ℕ) (d : Data) → AtMost (nodes d) (present name d)
present_few name d = present_by (nodes d) (get name d) (get_few name d)

some_node : (d : Data) → 1 ≤ nodes d
some_node null = omega arith
some_node (boolean b) = omega arith
some_node (number n) = omega arith
some_node (string s) = omega arith
some_node (array ds) = omega arith
some_node (object ms) = omega arith

-- each item of a list, and how many there are
abbrev IsWithin : ℕ → Data → Type 0
IsWithin n d = nodes d ≤ n

items_few : (ds : Items) → length (items_list ds) ≤ items_nodes ds
items_few no_items = omega arith
items_few (item d ds) = omega (arith, some_node d, items_few ds)

items_within : (n : ℕ) (ds : Items) → items_nodes ds ≤ n → AllByRecursion (IsWithin n) (items_list ds)
items_within n no_items room = tt
items_within n (item d ds) room = (omega (arith, room), items_within n ds (omega (arith, room)))

-- one less than the bound, so that one more may stand before them
record AreFew (n : ℕ) (ds : List Data) : Type 0 where
  count : suc (length ds) ≤ n
  each : AllByRecursion (IsWithin n) ds

array_few : (n : ℕ) (d : Data) → nodes d + 3 ≤ n → AreFew n (unwrap_or (option_and_then (λ ds. Some (items_list ds)) (as_array d)) [])
array_few n null room = record { count = omega (arith, room); each = tt }
array_few n (boolean b) room = record { count = omega (arith, room); each = tt }
array_few n (number k) room = record { count = omega (arith, room); each = tt }
array_few n (string s) room = record { count = omega (arith, room); each = tt }
array_few n (array ds) room = record { count = omega (arith, items_few ds, room); each = items_within n ds (omega (arith, room)) }
array_few n (object ms) room = record { count = omega (arith, room); each = tt }

list_by : (n : ℕ) (o : Option Data) → 1 ≤ n → AtMost n o → AreFew n (unwrap_or (option_and_then (λ ds. Some (items_list ds)) (option_and_then as_array o)) [])
list_by n None some few = record { count = omega (arith, some); each = tt }
list_by n (Some d) some few = array_few n d few

wider : (m n : ℕ) (o : Option Data) → m ≤ n → AtMost m o → AtMost n o
wider m n None more few = tt
wider m n (Some e) more few = omega (arith, more, few)

-- the items of a member
list_few : (n : ℕ) (name : List ℕ) (d : Data) → nodes d ≤ n → AreFew n (unwrap_or (list_at name d) [])
list_few n name d room = list_by n (present name d) (omega (arith, some_node d, room)) (wider (nodes d) n (present name d) room (present_few name d))

items_short : {X : Type 0} (n : ℕ) (of : Data → X) (name : List ℕ) (d : Data) → nodes d ≤ n → suc (length (member_items of name d)) ≤ n
items_short n of name d room =
    let count = (list_few n name d room).count in omega (arith, count, length-map (unwrap_or (list_at name d) []) of)

-- ---- rules as they were written

record HasShortRaw (n : ℕ) (raw : RawRule) : Type 0 where
  ingress : suc (length raw.ingress) ≤ n
  ingress_deny : suc (length raw.ingress_deny) ≤ n
  egress : suc (length raw.egress) ≤ n
  egress_deny : suc (length raw.egress_deny) ≤ n

rule_short : (n : ℕ) (d : Data) → nodes d ≤ n → HasShortRaw n (rule_of d)
rule_short n d room = record {
  ingress = items_short n (entry_of Ingress) (codes "ingress") d room;
  ingress_deny = items_short n (entry_of Ingress) (codes "ingressDeny") d room;
  egress = items_short n (entry_of Egress) (codes "egress") d room;
  egress_deny = items_short n (entry_of Egress) (codes "egressDeny") d room;
}

rules_mapped : (n : ℕ) (ds : List Data) → AllByRecursion (IsWithin n) ds → AllByRecursion (HasShortRaw n) (map rule_of ds)
rules_mapped n [] each = tt
rules_mapped n (d ∷ ds) each = (rule_short n d each.0, rules_mapped n ds each.1)

record AreShortRaw (n : ℕ) (rules : List RawRule) : Type 0 where
  count : length rules ≤ n
  each : AllByRecursion (HasShortRaw n) rules

with_spec : (n : ℕ) (o : Option Data) (d : Data) → AtMost n o → nodes d ≤ n → AreShortRaw n (rules_with o d)
with_spec n None d few room =
    let specs = list_few n (codes "specs") d room in
    let count = specs.count in
    let ds = unwrap_or (list_at (codes "specs") d) [] in
    record { count = omega (arith, count, length-map ds rule_of); each = rules_mapped n ds specs.each }
with_spec n (Some spec) d few room =
    let specs = list_few n (codes "specs") d room in
    let count = specs.count in
    let ds = unwrap_or (list_at (codes "specs") d) [] in
    record { count = omega (arith, count, length-map ds rule_of); each = (rule_short n spec (omega (arith, few)), rules_mapped n ds specs.each) }

rules_short : (n : ℕ) (d : Data) → nodes d ≤ n → AreShortRaw n (rules_of d)
rules_short n d room = with_spec n (present (codes "spec") d) d (wider (nodes d) n (present (codes "spec") d) room (present_few (codes "spec") d)) room

-- ---- what they say

section_short : (n : ℕ) (key : PolicyKey) (entries : List RawEntry) → suc (length entries) ≤ n → length (sanitized.section_of key entries) ≤ n
section_short n key entries few = omega (arith, few, length-map entries (sanitized.entry_of key))

rule_kept : (n : ℕ) (key : PolicyKey) (raw : RawRule) (subject : List Requirement) → HasShortRaw n raw → HasShortSections n (sanitized.rule_with key raw subject)
rule_kept n key raw subject short = record {
  ingress = section_short n key raw.ingress short.ingress;
  ingress_deny = section_short n key raw.ingress_deny short.ingress_deny;
  egress = section_short n key raw.egress short.egress;
  egress_deny = section_short n key raw.egress_deny short.egress_deny;
}

record AreShort (m n : ℕ) (rules : List Rule) : Type 0 where
  count : length rules ≤ m
  each : AllByRecursion (HasShortSections n) rules

-- the rule with this subject, if it has one, before others
one_kept : (m n : ℕ) (key : PolicyKey) (raw : RawRule) (o : Option RawSelector) (rules : List Rule) → HasShortRaw n raw → AreShort m n rules
    → AreShort (suc m) n (cons_option (option_map (λ selector. sanitized.rule_with key raw (subject_selector key selector)) o) rules)
one_kept m n key raw None rules short others = let few = others.count in record { count = omega (arith, few); each = others.each }
one_kept m n key raw (Some selector) rules short others =
    let few = others.count in record { count = omega (arith, few); each = (rule_kept n key raw (subject_selector key selector) short, others.each) }

rules_kept : (n : ℕ) (key : PolicyKey) (raws : List RawRule) → AllByRecursion (HasShortRaw n) raws → AreShort (length raws) n (filter_map (sanitized.rule_of key) raws)
rules_kept n key [] each = record { count = omega arith; each = tt }
rules_kept n key (raw ∷ raws) each =
    one_kept (length raws) n key raw raw.subject (filter_map (sanitized.rule_of key) raws) each.0 (rules_kept n key raws each.1)

policy_short : (n : ℕ) (raw : RawPolicy) → AreShortRaw n raw.rules → IsShortPolicy n (sanitized.policy_of raw)
policy_short n raw short =
    let kept = rules_kept n raw.key raw.rules short.each in
    let few = kept.count in
    let count = short.count in
    record { rules = omega (arith, few, count); sections = kept.each }

-- ---- faults

abbrev OnFault : (RuleFault → Type 0) → Option RuleFault → Type 0
OnFault P None = Unit {0}
OnFault P (Some f) = P f

cause_known : (c : RuleCause) → is_some (cause_of (number_of c)) ≡ true
cause_known rule.NoSelector = refl
cause_known rule.Combining = refl
cause_known rule.BadSelector = refl
cause_known rule.BadCidr = refl
cause_known rule.ExceptOutside = refl
cause_known rule.UnknownEntity = refl
cause_known rule.BadPort = refl
cause_known rule.BadProtocol = refl
cause_known rule.TooManyPorts = refl
cause_known rule.EmptyPorts = refl
cause_known rule.BadPolicyType = refl
cause_known rule.BadPeer = refl
cause_known rule.BadEndPort = refl

module _ (P : RuleFault → Type 0) where
  or_fault : (a b : Option RuleFault) → OnFault P a → OnFault P b → OnFault P (option_or a b)
  or_fault None b one other = other
  or_fault (Some f) b one other = one

  mapped_fault : (f : RuleCause → RuleFault) (o : Option RuleCause) → ((c : RuleCause) → P (f c)) → OnFault P (option_map f o)
  mapped_fault f None each = tt
  mapped_fault f (Some c) each = each c

  first_on : {X : Type 0} (Q : X → Type 0) (f : ℕ → X → Option RuleFault) (n place : ℕ) (xs : List X) → place + length xs ≤ n → AllByRecursion Q xs
      → ((i : ℕ) (x : X) → i < n → Q x → OnFault P (f i x)) → OnFault P (first_from f place xs)
  first_on Q f n place [] room own each = tt
  first_on Q f n place (x ∷ xs) room own each =
      or_fault (f place x) (first_from f (place + 1) xs) (each place x (omega (arith, room)) own.0) (first_on Q f n (place + 1) xs (omega (arith, room)) own.1 each)

module _ (n : ℕ) where
  abbrev IsAllowed : RuleFault → Type 0
  IsAllowed f = IsShortFault n f

  abbrev Anything : {X : Type 0} → X → Type 0
  Anything x = Unit {0}

  anything : {X : Type 0} (xs : List X) → AllByRecursion Anything xs
  anything [] = tt
  anything (x ∷ xs) = (tt, anything xs)

  subject_on : (i : ℕ) (raw : RawRule) → i < n → OnFault IsAllowed (subject_fault i raw)
  subject_on i raw below =
      mapped_fault IsAllowed (fault_at (of_subject i)) (first_cause (subject_causes raw.subject)) (λ c. record { cause = cause_known c; rule = below; place = tt })

  entry_on : (i : ℕ) (section : Section) (place : ℕ) (raw : RawEntry) → i < n → place < n → OnFault IsAllowed (entry_fault i section place raw)
  entry_on i section place raw below within =
      mapped_fault IsAllowed (fault_at (of_entry i section place)) (first_cause (entry_causes raw)) (λ c. record { cause = cause_known c; rule = below; place = within })

  section_on : (i : ℕ) (section : Section) (entries : List RawEntry) → i < n → suc (length entries) ≤ n → OnFault IsAllowed (section_fault i section entries)
  section_on i section entries below few =
      first_on IsAllowed Anything (entry_fault i section) n 0 entries (omega (arith, few)) (anything entries) (λ place raw within own. entry_on i section place raw below within)

  rule_on : (i : ℕ) (raw : RawRule) → i < n → HasShortRaw n raw → OnFault IsAllowed (rule_fault i raw)
  rule_on i raw below short =
      let egress = or_fault IsAllowed (section_fault i section.Egress raw.egress) (section_fault i section.EgressDeny raw.egress_deny)
      (section_on i section.Egress raw.egress below short.egress) (section_on i section.EgressDeny raw.egress_deny below short.egress_deny) in
      let denies = or_fault IsAllowed (section_fault i section.IngressDeny raw.ingress_deny) _ (section_on i section.IngressDeny raw.ingress_deny below short.ingress_deny) egress in
      let sections = or_fault IsAllowed (section_fault i section.Ingress raw.ingress) _ (section_on i section.Ingress raw.ingress below short.ingress) denies in
      or_fault IsAllowed (subject_fault i raw) _ (subject_on i raw below) sections

  policy_on : (raw : RawPolicy) → AreShortRaw n raw.rules → OnFault IsAllowed (first_fault raw)
  policy_on raw short =
      let count = short.count in first_on IsAllowed (HasShortRaw n) rule_fault n 0 raw.rules (omega (arith, count)) short.each rule_on

  -- ---- NetworkPolicies

  network_subject_on : (raw : RawNetworkPolicy) → 1 ≤ n → OnFault IsAllowed (network.subject_fault raw)
  network_subject_on raw some =
      mapped_fault IsAllowed (network.fault_at None) (first_cause (network.subject_causes raw)) (λ c. record { cause = cause_known c; rule = some; place = tt })

  network_section_on : (section : Section) (entries : List RawNetEntry) → 1 ≤ n → suc (length entries) ≤ n → OnFault IsAllowed (network.section_fault section entries)
  network_section_on section entries some few =
      first_on IsAllowed Anything (network.entry_fault section) n 0 entries (omega (arith, few)) (anything entries)
      (λ place raw within own. mapped_fault IsAllowed (network.fault_at (Some (section, place))) (first_cause (network.entry_causes raw))
      (λ c. record { cause = cause_known c; rule = some; place = within }))

  network_on : (raw : RawNetworkPolicy) → suc (length raw.ingress) ≤ n → suc (length raw.egress) ≤ n → OnFault IsAllowed (network.first_fault raw)
  network_on raw few_in few_out =
      let some : 1 ≤ n = omega (arith, few_in) in
      let sections = or_fault IsAllowed (network.section_fault section.Ingress raw.ingress) (network.section_fault section.Egress raw.egress)
      (network_section_on section.Ingress raw.ingress some few_in) (network_section_on section.Egress raw.egress some few_out) in
      or_fault IsAllowed (network.subject_fault raw) _ (network_subject_on raw some) sections

  entries_kept : (raw : RawNetworkPolicy) (dir : Direction) → suc (length raw.ingress) ≤ n → suc (length raw.egress) ≤ n → suc (length (entries_of dir raw)) ≤ n
  entries_kept raw Ingress few_in few_out = few_in
  entries_kept raw Egress few_in few_out = few_out

  chosen_short : (b : Bool) (own : List ℕ) (entries : List RawNetEntry) → suc (length entries) ≤ n → length (cond b (map (translated.entry_of own) entries) []) ≤ n
  chosen_short true own entries few = omega (arith, few, length-map entries (translated.entry_of own))
  chosen_short false own entries few = omega (arith, few)

  network_rules : (raw : RawNetworkPolicy) (o : Option (List Requirement)) → suc (length raw.ingress) ≤ n → suc (length raw.egress) ≤ n
      → AreShort 1 n (cons_option (option_map (translated.rule_with raw) o) [])
  network_rules raw None few_in few_out = record { count = omega arith; each = tt }
  network_rules raw (Some subject) few_in few_out = record {
    count = omega arith;
    each = (
      record {
        ingress = chosen_short (isolates raw Ingress) raw.key.namespace (entries_of Ingress raw) (entries_kept raw Ingress few_in few_out);
        ingress_deny = omega arith;
        egress = chosen_short (isolates raw Egress) raw.key.namespace (entries_of Egress raw) (entries_kept raw Egress few_in few_out);
        egress_deny = omega arith;
      },
      tt,
    );
  }

  network_short : (raw : RawNetworkPolicy) → suc (length raw.ingress) ≤ n → suc (length raw.egress) ≤ n → IsShortPolicy n (translated.policy_of raw)
  network_short raw few_in few_out =
      let kept = network_rules raw (option_and_then (translated.subject_of raw.key.namespace) raw.subject) few_in few_out in
      let few = kept.count in
      record { rules = omega (arith, few, few_in); sections = kept.each }

  -- ---- documents

  abbrev pub IsSmallFault : LineFault → Type 0
  IsSmallFault (fault.Rule told) = IsShortFault n told
  IsSmallFault other = Unit {0}

  -- what a policy reads as is short, and so is what it is refused for
  abbrev pub IsShortReading : Result Policy LineFault → Type 0
  IsShortReading (Ok policy) = IsShortPolicy n policy
  IsShortReading (Err f) = IsSmallFault f

  judged_short : (o : Option RuleFault) (policy : Policy) → OnFault IsAllowed o → IsShortPolicy n policy → IsShortReading (fault_as fault.Rule (sanitized.judged o policy))
  judged_short None policy faults short = short
  judged_short (Some f) policy faults short = faults

  cilium_by : (d : Data) (o : Option DocFault) → nodes d ≤ n
      → IsShortReading (fault_as fault.Doc (unless_fault o (policy_of d)) >>= λ raw. fault_as fault.Rule (sanitized.sanitized_of raw))
  cilium_by d None room =
      let raw = policy_of d in
      let short = rules_short n d room in judged_short (first_fault raw) (sanitized.policy_of raw) (policy_on raw short) (policy_short n raw short)
  cilium_by d (Some f) room = tt

  network_judged : (o : Option RuleFault) (policy : Policy) → OnFault IsAllowed o → IsShortPolicy n policy
      → IsShortReading (fault_as net_fault (of_object (sanitized.judged o policy)))
  network_judged None policy faults short = short
  network_judged (Some f) policy faults short = faults

  network_raw : (raw : RawNetworkPolicy) → suc (length raw.ingress) ≤ n → suc (length raw.egress) ≤ n
      → IsShortReading (fault_as net_fault (of_object (translated.translated_of raw)))
  network_raw raw few_in few_out =
      network_judged (network.first_fault raw) (translated.policy_of raw) (network_on raw few_in few_out) (network_short raw few_in few_out)

  network_by : (d : Data) (o : Option DocFault) → nodes (spec_of d) ≤ n → IsShortReading (fault_as net_fault (of_document (unless_fault o (raw_of d))))
  network_by d None room =
      network_raw (raw_of d) (items_short n (raw_entry_of Ingress) (codes "ingress") (spec_of d) room) (items_short n (raw_entry_of Egress) (codes "egress") (spec_of d) room)
  network_by d (Some f) room = tt

  spec_within : (d : Data) (o : Option Data) → 1 ≤ n → AtMost n o → nodes (unwrap_or o null) ≤ n
  spec_within d None some few = some
  spec_within d (Some spec) some few = omega (arith, few)

  policy_by : (d : Data) (b : Bool) → nodes d ≤ n → IsShortReading (cond b (network_policy_of d) (cilium_policy_of d))
  policy_by d true room =
      network_by d (network_fault d)
      (spec_within d (present (codes "spec") d) (omega (arith, some_node d, room)) (wider (nodes d) n (present (codes "spec") d) room (present_few (codes "spec") d)))
  policy_by d false room = cilium_by d (document_fault d) room

  -- of a document of at most so many nodes
  pub read_short : (d : Data) → nodes d ≤ n → IsShortReading (policy_in d)
  read_short d room = policy_by d (is_network_policy d) room
