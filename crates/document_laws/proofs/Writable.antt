-- The documents that write policies are such values.
use Rattle.std.proofs.Common.{◌≡◌, ℕ, suc, ◌^◌, ◌<◌, ◌≤◌, Bool, true, false, List, [], ◌∷◌, codes, map, Option, None, Some, option_map, IfSome, Less, nat_cmp, refl, arith}
use Rattle.std.specs.Cmp.Lexicographic.{slice_cmp}
use Rattle.std.specs.List.{AllByRecursion}
use Rattle.serde_json.specs.Data.{Data, boolean, string, object, Items, Members, member, depth, items_depth, members_depth}
use Rattle.serde_json.specs.View.{items_of}
use Rattle.document_laws.proofs.Nothing.{all_sound, each_sound}
use Rattle.document_laws.proofs.TextRead.{IsPlain, ItemsPlain, MembersPlain}
use Rattle.document_laws.specs.Fields.{Fields, array_of, members_of, object_of, unless_empty, with_field}
use Rattle.document_laws.specs.Kept.{ComesBefore, IsKeptEntry, IsKeptItem, IsKeptPort, IsKeptRule, IsKeptSection, IsKeptSelector, LabelsAscend}
use Rattle.document_laws.specs.Written.{cidr_set_document, cidr_set_fields, default_deny_document, default_deny_fields, document_with, entry_document, entry_fields, expression_document, expression_fields, kind_text, label_members, labels_document, metadata_document, metadata_fields, namespace_document, policy_fields, port_document, port_fields, port_item_document, port_item_fields, rule_document, rule_fields, section_document, selector_document, selector_fields, texts_document, whole_document}
use Rattle.pol_json.specs.Look.{IsBelow, ItemsAscend, MembersAscend, NamesAscend}
use Rattle.pol_ports.specs.declared.Direction.{Direction}
use Rattle.pol_ports.specs.declared.Direction.TheVariants.{Ingress, Egress}
use Rattle.pol_rule.specs.declared.policy.DefaultDeny.{DefaultDeny}
use Rattle.pol_rule.specs.declared.policy.PolicyKey.{PolicyKey}
use Rattle.pol_rule.specs.declared.raw.RawCidrSet.{RawCidrSet}
use Rattle.pol_rule.specs.declared.raw.RawEntry.{RawEntry}
use Rattle.pol_rule.specs.declared.raw.RawExpression.{RawExpression}
use Rattle.pol_rule.specs.declared.raw.RawPair.{RawPair}
use Rattle.pol_rule.specs.declared.raw.RawPort.{RawPort}
use Rattle.pol_rule.specs.declared.raw.RawPortItem.{RawPortItem}
use Rattle.pol_rule.specs.declared.raw.RawRule.{RawRule}
use Rattle.pol_rule.specs.declared.raw.RawSelector.{RawSelector}

-- a value without other numbers than those of 64 bits, whose names ascend, and that nests so deep at most
pub record IsWritable (n : ℕ) (d : Data) : Type 0 where
  pub plain : IsPlain d
  pub ascend : NamesAscend d
  pub shallow : depth d ≤ n

record AreWritable (n : ℕ) (ms : Members) : Type 0 where
  plain : MembersPlain ms
  ascend : MembersAscend ms
  shallow : members_depth ms ≤ n

record ListWritable (n : ℕ) (ds : Items) : Type 0 where
  plain : ItemsPlain ds
  ascend : ItemsAscend ds
  shallow : items_depth ds ≤ n

pub text_writable : (n : ℕ) (text : List ℕ) → IsWritable n (string text)
text_writable n text = record { plain = tt; ascend = tt; shallow = omega arith }

-- ---- objects

one_writable : (n : ℕ) (name : List ℕ) (d : Data) (ms : Members) → IsWritable n d → IsBelow name ms → AreWritable n ms → AreWritable n (member name d ms)
one_writable n name d ms own below more = record {
  plain = (own.plain, more.plain);
  ascend = (own.ascend, below, more.ascend);
  shallow = omega (arith, own.shallow, more.shallow);
}

object_writable : (n : ℕ) (ms : Members) → AreWritable n ms → IsWritable (suc n) (object ms)
object_writable n ms are = record { plain = are.plain; ascend = are.ascend; shallow = omega (arith, are.shallow) }

-- the name comes before those of the fields, and the names of fields ascend
abbrev pub NameBelow : List ℕ → Fields → Type 0
NameBelow name [] = Unit {0}
NameBelow name (field ∷ others) = (slice_cmp nat_cmp name field.0 ≡ Less) × NameBelow name others

abbrev pub FieldsAscend : Fields → Type 0
FieldsAscend [] = Unit {0}
FieldsAscend (field ∷ others) = NameBelow field.0 others × FieldsAscend others

abbrev pub FieldsWritable : ℕ → Fields → Type 0
FieldsWritable n [] = Unit {0}
FieldsWritable n (field ∷ others) = IfSome field.1 (IsWritable n) × FieldsWritable n others

below_with : (name key : List ℕ) (value : Option Data) (ms : Members) → slice_cmp nat_cmp name key ≡ Less → IsBelow name ms → IsBelow name (with_field key value ms)
below_with name key None ms less below = below
below_with name key (Some d) ms less below = (less, below)

below_fields : (name : List ℕ) (fields : Fields) → NameBelow name fields → IsBelow name (members_of fields)
below_fields name [] below = tt
below_fields name (field ∷ others) below = below_with name field.0 field.1 (members_of others) below.0 (below_fields name others below.1)

with_writable : (n : ℕ) (name : List ℕ) (value : Option Data) (ms : Members) → IfSome value (IsWritable n) → IsBelow name ms → AreWritable n ms
    → AreWritable n (with_field name value ms)
with_writable n name None ms own below more = more
with_writable n name (Some d) ms own below more = one_writable n name d ms own below more

members_writable : (n : ℕ) (fields : Fields) → FieldsAscend fields → FieldsWritable n fields → AreWritable n (members_of fields)
members_writable n [] ascend are = record { plain = tt; ascend = tt; shallow = omega arith }
members_writable n (field ∷ others) ascend are =
    with_writable n field.0 field.1 (members_of others) are.0 (below_fields field.0 others ascend.0) (members_writable n others ascend.1 are.1)

pub fields_writable : (n : ℕ) (fields : Fields) → FieldsAscend fields → FieldsWritable n fields → IsWritable (suc n) (object_of fields)
fields_writable n fields ascend are = object_writable n (members_of fields) (members_writable n fields ascend are)

-- ---- lists

module _ {A : Type 0} (n : ℕ) (write : A → Data) where
  items_writable : (xs : List A) → AllByRecursion (λ x. IsWritable n (write x)) xs → ListWritable n (items_of (map write xs))
  items_writable [] are = record { plain = tt; ascend = tt; shallow = omega arith }
  items_writable (x ∷ xs) are =
      let more = items_writable xs are.1 in
      record { plain = (are.0.plain, more.plain); ascend = (are.0.ascend, more.ascend); shallow = omega (arith, are.0.shallow, more.shallow) }

  list_writable : (xs : List A) → AllByRecursion (λ x. IsWritable n (write x)) xs → IsWritable (suc n) (array_of write xs)
  list_writable xs are =
      let list = items_writable xs are in
      record { plain = list.plain; ascend = list.ascend; shallow = omega (arith, list.shallow) }

  pub list_unless_empty : (xs : List A) → AllByRecursion (λ x. IsWritable n (write x)) xs → IfSome (unless_empty (array_of write) xs) (IsWritable (suc n))
  list_unless_empty [] are = tt
  list_unless_empty (x ∷ xs) are = list_writable (x ∷ xs) are

  list_if_there : (list : Option (List A)) → IfSome list (AllByRecursion (λ x. IsWritable n (write x))) → IfSome (option_map (array_of write) list) (IsWritable (suc n))
  list_if_there None are = tt
  list_if_there (Some xs) are = list_writable xs are

any_list : {A : Type 0} (Q : A → Type 0) → ((x : A) → Q x) → (list : Option (List A)) → IfSome list (AllByRecursion Q)
any_list Q holds None = tt
any_list Q holds (Some xs) = all_sound Q holds xs

each_list : {A : Type 0} (P Q : A → Type 0) → ((x : A) → P x → Q x) → (list : Option (List A)) → IfSome list (AllByRecursion P) → IfSome list (AllByRecursion Q)
each_list P Q lifts None all = tt
each_list P Q lifts (Some xs) all = each_sound P Q lifts xs all

pub texts_unless_empty : (n : ℕ) (texts : List (List ℕ)) → IfSome (unless_empty texts_document texts) (IsWritable (suc n))
texts_unless_empty n texts = list_unless_empty n string texts (all_sound _ (text_writable n) texts)

texts_if_there : (n : ℕ) (texts : Option (List (List ℕ))) → IfSome (option_map texts_document texts) (IsWritable (suc n))
texts_if_there n texts = list_if_there n string texts (any_list _ (text_writable n) texts)

-- ---- selectors

label_below : (pair : RawPair) (others : List RawPair) → AllByRecursion (ComesBefore pair) others → IsBelow pair.key (label_members others)
label_below pair [] below = tt
label_below pair (other ∷ others) below = (below.0, label_below pair others below.1)

labels_writable : (n : ℕ) (pairs : List RawPair) → LabelsAscend pairs → AreWritable n (label_members pairs)
labels_writable n [] ascend = record { plain = tt; ascend = tt; shallow = omega arith }
labels_writable n (pair ∷ others) ascend =
    one_writable n pair.key (string pair.value) (label_members others) (text_writable n pair.value) (label_below pair others ascend.0)
    (labels_writable n others ascend.1)

labels_unless_empty : (n : ℕ) (pairs : List RawPair) → LabelsAscend pairs → IfSome (unless_empty labels_document pairs) (IsWritable (suc n))
labels_unless_empty n [] ascend = tt
labels_unless_empty n (pair ∷ others) ascend = object_writable n (label_members (pair ∷ others)) (labels_writable n (pair ∷ others) ascend)

expression_writable : (n : ℕ) (e : RawExpression) → IsWritable (suc (suc n)) (expression_document e)
expression_writable n e =
    fields_writable (suc n) (expression_fields e) ((refl, (refl, tt)), ((refl, tt), (tt, tt)))
    (text_writable (suc n) e.key, (text_writable (suc n) e.operator, (texts_unless_empty n e.values, tt)))

selector_writable : (n : ℕ) (s : RawSelector) → IsKeptSelector s → IsWritable (suc (suc (suc (suc n)))) (selector_document s)
selector_writable n s kept =
    fields_writable (suc (suc (suc n))) (selector_fields s) ((refl, tt), (tt, tt)) (
      list_unless_empty (suc (suc n)) expression_document s.expressions (all_sound _ (expression_writable n) s.expressions),
      (labels_unless_empty (suc (suc n)) s.labels kept, tt),
    )

-- ---- entries

pub set_writable : (n : ℕ) (s : RawCidrSet) → IsWritable (suc (suc n)) (cidr_set_document s)
set_writable n s =
    fields_writable (suc n) (cidr_set_fields s) ((refl, tt), (tt, tt)) (text_writable (suc n) s.cidr, (texts_unless_empty n s.except, tt))

pub whole_writable : (n : ℕ) (end : Option ℕ) → IfSome end (λ m. m < 2 ^ 64) → IfSome (option_map whole_document end) (IsWritable n)
whole_writable n None small = tt
whole_writable n (Some m) small = record { plain = small; ascend = tt; shallow = omega arith }

text_unless_empty : (n : ℕ) (text : List ℕ) → IfSome (unless_empty string text) (IsWritable n)
text_unless_empty n [] = tt
text_unless_empty n (byte ∷ rest) = text_writable n (byte ∷ rest)

port_writable : (n : ℕ) (p : RawPort) → IsKeptPort p → IsWritable (suc n) (port_document p)
port_writable n p kept =
    fields_writable n (port_fields p) ((refl, (refl, tt)), ((refl, tt), (tt, tt)))
    (whole_writable n p.end_port kept, (text_writable n p.port, (text_unless_empty n p.protocol, tt)))

item_writable : (n : ℕ) (item : RawPortItem) → IsKeptItem item → IsWritable (suc (suc (suc n))) (port_item_document item)
item_writable n item kept =
    fields_writable (suc (suc n)) (port_item_fields item) (tt, tt)
    (list_unless_empty (suc n) port_document item.ports (each_sound IsKeptPort _ (port_writable n) item.ports kept), tt)

-- the names of an entry's members, in either direction
entry_ascends : (dir : Direction) (e : RawEntry) → FieldsAscend (entry_fields dir e)
entry_ascends Ingress e = ((refl, (refl, (refl, (refl, tt)))), ((refl, (refl, (refl, tt))), ((refl, (refl, tt)), ((refl, tt), (tt, tt)))))
entry_ascends Egress e = ((refl, (refl, (refl, (refl, tt)))), ((refl, (refl, (refl, tt))), ((refl, (refl, tt)), ((refl, tt), (tt, tt)))))

entry_writable : (n : ℕ) (dir : Direction) (e : RawEntry) → IsKeptEntry e → IsWritable (suc (suc (suc (suc (suc (suc n)))))) (entry_document dir e)
entry_writable n dir e kept =
    let four = suc (suc (suc (suc n))) in
    fields_writable (suc four) (entry_fields dir e) (entry_ascends dir e) (
      texts_if_there four e.cidrs,
      (
        list_if_there four cidr_set_document e.cidr_sets (any_list _ (set_writable (suc (suc n))) e.cidr_sets),
        (
          list_if_there four selector_document e.endpoints (each_list IsKeptSelector _ (selector_writable n) e.endpoints kept.endpoints),
          (
            texts_if_there four e.entities,
            (list_unless_empty four port_item_document e.ports (each_sound IsKeptItem _ (item_writable (suc n)) e.ports kept.ports), tt),
          ),
        ),
      ),
    )

-- ---- rules and policies

section_writable : (n : ℕ) (dir : Direction) (entries : List RawEntry) → IsKeptSection entries
    → IfSome (unless_empty (section_document dir) entries) (IsWritable (suc (suc (suc (suc (suc (suc (suc n))))))))
section_writable n dir entries kept =
    list_unless_empty (suc (suc (suc (suc (suc (suc n)))))) (entry_document dir) entries (each_sound IsKeptEntry _ (entry_writable n dir) entries kept)

pub subject_writable : (n : ℕ) (subject : Option RawSelector) → IfSome subject IsKeptSelector
    → IfSome (option_map selector_document subject) (IsWritable (suc (suc (suc (suc n)))))
subject_writable n None kept = tt
subject_writable n (Some selector) kept = selector_writable n selector kept

said_writable : (n : ℕ) (said : Option Bool) → IfSome (option_map boolean said) (IsWritable n)
said_writable n None = tt
said_writable n (Some b) = record { plain = tt; ascend = tt; shallow = omega arith }

deny_writable : (n : ℕ) (said : DefaultDeny) → IsWritable (suc n) (object_of (default_deny_fields said))
deny_writable n said =
    fields_writable n (default_deny_fields said) ((refl, tt), (tt, tt)) (said_writable n said.egress, (said_writable n said.ingress, tt))

default_deny_writable : (n : ℕ) (ingress egress : Option Bool)
    → IfSome (default_deny_document (record { ingress = ingress; egress = egress })) (IsWritable (suc n))
default_deny_writable n None None = tt
default_deny_writable n None (Some b) = deny_writable n (record { ingress = None; egress = Some b })
default_deny_writable n (Some a) egress = deny_writable n (record { ingress = Some a; egress = egress })

rule_writable : (n : ℕ) (r : RawRule) → IsKeptRule r → IsWritable (suc (suc (suc (suc (suc (suc (suc (suc n)))))))) (rule_document r)
rule_writable n r kept =
    let three = suc (suc (suc n)) in
    fields_writable (suc (suc (suc (suc three)))) (rule_fields r)
    ((refl, (refl, (refl, (refl, (refl, tt))))), ((refl, (refl, (refl, (refl, tt)))), ((refl, (refl, (refl, tt))), ((refl, (refl, tt)), ((refl, tt), (tt, tt)))))) (
      section_writable n Egress r.egress kept.egress,
      (
        section_writable n Egress r.egress_deny kept.egress_deny,
        (
          default_deny_writable (suc (suc (suc three))) r.default_deny.ingress r.default_deny.egress,
          (
            subject_writable three r.subject kept.subject,
            (
              section_writable n Ingress r.ingress kept.ingress,
              (section_writable n Ingress r.ingress_deny kept.ingress_deny, tt),
            ),
          ),
        ),
      ),
    )

namespace_writable : (n : ℕ) (cluster_wide : Bool) (namespace : List ℕ) → IfSome (namespace_document cluster_wide namespace) (IsWritable n)
namespace_writable n true namespace = tt
namespace_writable n false namespace = text_writable n namespace

pub metadata_writable : (n : ℕ) (key : PolicyKey) → IsWritable (suc n) (metadata_document key)
metadata_writable n key =
    fields_writable n (metadata_fields key) ((refl, tt), (tt, tt)) (text_writable n key.name, (namespace_writable n key.cluster_wide key.namespace, tt))

spec_writable : (n : ℕ) (spec : Option RawRule) → IfSome spec IsKeptRule
    → IfSome (option_map rule_document spec) (IsWritable (suc (suc (suc (suc (suc (suc (suc (suc n)))))))))
spec_writable n None kept = tt
spec_writable n (Some rule) kept = rule_writable n rule kept

pub policy_writable : (key : PolicyKey) (spec : Option RawRule) (specs : List RawRule) → IfSome spec IsKeptRule → AllByRecursion IsKeptRule specs
    → IsWritable 10 (document_with key spec specs)
policy_writable key spec specs first others =
    fields_writable 9 (policy_fields key spec specs)
    ((refl, (refl, (refl, (refl, tt)))), ((refl, (refl, (refl, tt))), ((refl, (refl, tt)), ((refl, tt), (tt, tt))))) (
      text_writable 9 (codes "cilium.io/v2"),
      (
        text_writable 9 (kind_text key.cluster_wide),
        (
          metadata_writable 8 key,
          (
            spec_writable 1 spec first,
            (list_unless_empty 8 rule_document specs (each_sound IsKeptRule _ (rule_writable 0) specs others), tt),
          ),
        ),
      ),
    )
