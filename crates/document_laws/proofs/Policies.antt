-- Policies are read again from the documents that write them.
use Rattle.std.proofs.Common.{◌≡◌, ◌≢◌, ℕ, suc, ◌≤◌, ◌==◌, if◌then◌else◌, not, Bool, true, false, nat_le, nat_lt, List, [], ◌∷◌, ◌++◌, length, map, codes, Option, None, Some, option_map, unwrap_or, IfSome, IsTrue, Ok, refl, sym, ap, ◌∙◌, arith}
use Rattle.std.proofs.lemmas.Bool.{and_parts, leb-true, lt-ltb, ne_eqb}
use Rattle.std.specs.List.{AllByRecursion, list_all}
use Rattle.std.specs.Option.{option_or}
use Rattle.serde_json.specs.Data.{Data, string}
use Rattle.serde_json.specs.View.{items_of}
use Rattle.document_laws.proofs.Again.{items_come_again}
use Rattle.document_laws.proofs.Named.{has, shown}
use Rattle.document_laws.proofs.Nothing.{IsSound, each_sound, passes, sound_at, sound_object, sound_unless_empty}
use Rattle.document_laws.proofs.Ruling.{rule_again, rule_sound}
use Rattle.document_laws.proofs.Selecting.{any_text_sound}
use Rattle.document_laws.proofs.Shapes.{member_shape, metadata_is, metadata_shape, name_shape, policy_is, policy_shape, rule_shape}
use Rattle.document_laws.specs.WellFormed.{IsWellFormed, IsWellFormedKey, IsWellFormedRule}
use Rattle.document_laws.specs.Written.{document_of, document_with, kind_text, listed_document_of, metadata_document, metadata_fields, namespace_document, policy_fields, rule_document, ruled_document}
use Rattle.pol_json.specs.Build.{key_of, policy_of, rule_of, rules_of}
use Rattle.pol_json.specs.Document.{first_fault, has_name, has_spec, head_fault, is_policy, places_of, read_document, unless_fault}
use Rattle.pol_json.specs.Members.{items_list, present}
use Rattle.pol_json.specs.Path.{fault_of}
use Rattle.pol_json.specs.Places.{Found, first_found, wrong_shape}
use Rattle.pol_json.specs.Texts.{has_name_length, is_dns_byte, is_dns_name, name_max}
use Rattle.pol_json.specs.declared.fault.DocFault.{DocFault}
use Rattle.pol_rule.specs.declared.policy.PolicyKey.{PolicyKey}
use Rattle.pol_rule.specs.declared.raw.RawPolicy.{RawPolicy}
use Rattle.pol_rule.specs.declared.raw.RawRule.{RawRule}

-- a key and a policy of these parts
abbrev key_made : Bool → List ℕ → List ℕ → PolicyKey
key_made cluster_wide namespace name = record { cluster_wide = cluster_wide; namespace = namespace; name = name }

abbrev policy_made : PolicyKey → List RawRule → RawPolicy
policy_made key rules = record { key = key; rules = rules }

-- ---- they are read again

key_from : (cluster_wide : Bool) (namespace name : List ℕ) (spec : Option RawRule) (specs : List RawRule) → (cluster_wide ≡ true → namespace ≡ [])
    → key_of (document_with (key_made cluster_wide namespace name) spec specs) ≡ key_made cluster_wide namespace name
key_from true namespace name spec specs none = λ i. key_made true (sym (none refl) i) name
key_from false namespace name spec specs none = refl

key_again : (key : PolicyKey) (spec : Option RawRule) (specs : List RawRule) → IsWellFormedKey key → key_of (document_with key spec specs) ≡ key
key_again key spec specs well = key_from key.cluster_wide key.namespace key.name spec specs well.no_namespace

-- a rule of `spec`, as a list
abbrev one_rule : Option RawRule → List RawRule
one_rule spec = unwrap_or (option_map (λ rule. rule ∷ []) spec) []

abbrev ruled : Option Data → List RawRule
ruled found = unwrap_or (option_map (λ spec. rule_of spec ∷ []) found) []

one_rule_again : (spec : Option RawRule) → ruled (shown (option_or (option_map rule_document spec) None)) ≡ one_rule spec
one_rule_again None = refl
one_rule_again (Some rule) = ap (λ r. r ∷ []) (rule_again rule)

rules_again : (key : PolicyKey) (spec : Option RawRule) (specs : List RawRule) → rules_of (document_with key spec specs) ≡ one_rule spec ++ specs
rules_again key spec specs =
    let d = document_with key spec specs in
    let fields = policy_fields key spec specs in
    let first : ruled (present (codes "spec") d) ≡ one_rule spec = ap ruled (has (codes "spec") fields) ∙ one_rule_again spec in
    let others = items_come_again rule_of rule_document rule_again (codes "specs") d specs (has (codes "specs") fields) in
    λ i. first i ++ others i

policy_again : (key : PolicyKey) (spec : Option RawRule) (specs : List RawRule) → IsWellFormedKey key
    → policy_of (document_with key spec specs) ≡ policy_made key (one_rule spec ++ specs)
policy_again key spec specs well =
    let keys = key_again key spec specs well in
    let rules = rules_again key spec specs in
    λ i. policy_made (keys i) (rules i)

-- ---- nothing is wrong

name_sound : (name : List ℕ) → IsTrue (is_dns_name name) → IsSound name_shape (string name)
name_sound name well = sound_at name_shape (string name) (passes (is_dns_name name) wrong_shape well) refl

namespace_sound : (cluster_wide : Bool) (namespace : List ℕ) → (cluster_wide ≡ false → IsTrue (is_dns_name namespace))
    → IfSome (namespace_document cluster_wide namespace) (IsSound name_shape)
namespace_sound true namespace well = tt
namespace_sound false namespace well = name_sound namespace (well refl)

pub metadata_sound : (key : PolicyKey) → IsWellFormedKey key → IsSound metadata_shape (metadata_document key)
metadata_sound key well =
    sound_object metadata_shape metadata_is (metadata_fields key) refl
    (name_sound key.name well.name, (namespace_sound key.cluster_wide key.namespace well.namespace, tt))

spec_sound : (spec : Option RawRule) → IfSome spec IsWellFormedRule → IfSome (option_map rule_document spec) (IsSound rule_shape)
spec_sound None well = tt
spec_sound (Some rule) well = rule_sound rule well

policy_sound : (key : PolicyKey) (spec : Option RawRule) (specs : List RawRule) → IsWellFormedKey key → IfSome spec IsWellFormedRule
    → AllByRecursion IsWellFormedRule specs → first_found (places_of (document_with key spec specs)) ≡ None
policy_sound key spec specs well first others =
    let listed = sound_unless_empty rule_document (member_shape policy_shape (codes "specs")) specs tt (each_sound IsWellFormedRule _ rule_sound specs others) in
    sound_object policy_shape policy_is (policy_fields key spec specs) refl (
      any_text_sound (codes "cilium.io/v2"),
      (
        any_text_sound (kind_text key.cluster_wide),
        (
          metadata_sound key well,
          (spec_sound spec first, (listed, tt)),
        ),
      ),
    )

-- ---- the head

kind_from : (cluster_wide : Bool) (namespace name : List ℕ) (spec : Option RawRule) (specs : List RawRule)
    → is_policy (document_with (key_made cluster_wide namespace name) spec specs) ≡ true
kind_from true namespace name spec specs = refl
kind_from false namespace name spec specs = refl

pub long_name : (name : List ℕ) → is_dns_name name ≡ true → nat_lt 0 (length name) ≡ true
long_name name well =
    let both = and_parts (has_name_length name) (list_all is_dns_byte name) well in
    let lengths = and_parts (nat_le 1 (length name)) (nat_le (length name) name_max) both.0 in
    let least : 1 ≤ length name = leb-true 1 (length name) lengths.0 in
    lt-ltb 0 (length name) (omega (arith, least))

pub no_head_fault : (policy name spec : Bool) (a b c : Option DocFault) → policy ≡ true → name ≡ true → spec ≡ true
    → (if not policy then a else if not name then b else if not spec then c else None) ≡ None
no_head_fault true true true a b c is_policy is_named has_spec = refl
no_head_fault _ _ _ a b c is_policy is_named has_spec = absurd cc

head_again : (key : PolicyKey) (spec : Option RawRule) (specs : List RawRule) → IsWellFormedKey key
    → has_spec (document_with key spec specs) ≡ true → head_fault (document_with key spec specs) ≡ None
head_again key spec specs well has_rule =
    let d = document_with key spec specs in
    no_head_fault (is_policy d) (has_name d) (has_spec d) _ _ _ (kind_from key.cluster_wide key.namespace key.name spec specs)
    (long_name key.name well.name) has_rule

-- ---- all of it

pub neither_fault : (head : Option DocFault) (found : Option Found) → head ≡ None → found ≡ None → option_or head (option_map fault_of found) ≡ None
neither_fault None None none more = refl
neither_fault None (Some f) none more = absurd cc
neither_fault (Some fault) found none more = absurd cc

pub read_as : {A : Type 0} (fault : Option DocFault) (raw policy : A) → fault ≡ None → raw ≡ policy → unless_fault fault raw ≡ Ok policy
read_as None raw policy none is = ap Ok is
read_as (Some fault) raw policy none is = absurd cc

written_again : (key : PolicyKey) (spec : Option RawRule) (specs : List RawRule) → IsWellFormedKey key → IfSome spec IsWellFormedRule
    → AllByRecursion IsWellFormedRule specs → has_spec (document_with key spec specs) ≡ true
    → read_document (document_with key spec specs) ≡ Ok (policy_made key (one_rule spec ++ specs))
written_again key spec specs well first others has_rule =
    let d = document_with key spec specs in
    let none = neither_fault (head_fault d) (first_found (places_of d)) (head_again key spec specs well has_rule) (policy_sound key spec specs well first others) in
    read_as (first_fault d) (policy_of d) (policy_made key (one_rule spec ++ specs)) none (policy_again key spec specs well)

never_empty : (n : ℕ) → not (suc n == 0) ≡ true
never_empty n = ap not (ne_eqb (suc n) 0 (λ is. omega (arith, is)))

some_listed : (key : PolicyKey) (rule : RawRule) (others : List RawRule) → has_spec (document_with key None (rule ∷ others)) ≡ true
some_listed key rule others = never_empty (length (items_list (items_of (map rule_document others))))

ruled_again : (key : PolicyKey) (rules : List RawRule) → IsWellFormedKey key → rules ≢ [] → AllByRecursion IsWellFormedRule rules
    → read_document (ruled_document key rules) ≡ Ok (policy_made key rules)
ruled_again key [] well some all = absurd (some refl)
ruled_again key (rule ∷ others) well some all = written_again key (Some rule) others well all.0 all.1 refl

listed_again : (key : PolicyKey) (rules : List RawRule) → IsWellFormedKey key → rules ≢ [] → AllByRecursion IsWellFormedRule rules
    → read_document (document_with key None rules) ≡ Ok (policy_made key rules)
listed_again key [] well some all = absurd (some refl)
listed_again key (rule ∷ others) well some all = written_again key None (rule ∷ others) well tt all (some_listed key rule others)

pub policies_again : (policy : RawPolicy) → IsWellFormed policy → read_document (document_of policy) ≡ Ok policy
policies_again policy well = ruled_again policy.key policy.rules well.key well.some_rule well.rules

pub listed_policies_again : (policy : RawPolicy) → IsWellFormed policy → read_document (listed_document_of policy) ≡ Ok policy
listed_policies_again policy well = listed_again policy.key policy.rules well.key well.some_rule well.rules
