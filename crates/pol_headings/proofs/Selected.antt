-- An identity that a peer selects stands under the peer's heading.
use Rattle.std.proofs.Common.{◌≡◌, ◌==◌, ◌||◌, ◌*◌, ◌/◌, ◌≤◌, Bool, true, false, cond, List, [], ◌∷◌, ℕ, codes, length, slice_get, find, Option, Some, None, refl, sym, ap, subst, ◌∙◌, inl, inr, arith}
use Rattle.std.specs.List.{list_any}
use Rattle.std.specs.Option.{option_map_or}
use Rattle.std.specs.Cmp.Lexicographic.{bytes_decides}
use Rattle.std.specs.Str.{bytes_eq}
use Rattle.std.proofs.lemmas.Bool.{and_from, and_parts, eq-eqb, eqb-true, or_cases, or_left, or_right}
use Rattle.std.proofs.lemmas.Option.{same_Some}
use Rattle.pol_addr.specs.Cidr.{cleared}
use Rattle.pol_addr.specs.Prefix.{covers}
use Rattle.pol_addr.specs.declared.network.Prefix.{Prefix}
use Rattle.pol_addr.proofs.ByFamily.{cleared-cleared}
use Rattle.pol_addr.proofs.Containment.{covers-parts, covers_from}
use Rattle.pol_headings.specs.Heading.{heading_of, heading_of_entity, heading_of_labels, label_heading, names_one, reserved_heading, same_heading, under_first, whole_octets}
use Rattle.pol_headings.specs.Stands.{is_whole, stands_under, stands_with}
use Rattle.pol_headings.specs.Tried.{HasAllOf, is_among, is_filed_as}
use Rattle.pol_headings.specs.declared.heading.Heading.{Heading}
use Rattle.pol_headings.specs.declared.heading.Heading.TheVariants as is
use Rattle.pol_headings.proofs.Equality.{same_heading-self}
use Rattle.pol_labels.specs.declared.label.Label.{Label}
use Rattle.pol_labels.specs.declared.requirement.Requirement.{Requirement}
use Rattle.pol_labels.specs.declared.requirement.Operator.TheVariants.{OneOf}
use Rattle.pol_labels.specs.Match.{asked, candidate_with_value, carries, matches, meets}
use Rattle.pol_labels.specs.Same.{same_label, same_operator}
use Rattle.pol_labels.specs.SameLaws.{same_label-Decides, same_operator-Decides}
use Rattle.pol_model.specs.Selects.{entity_selects, known_row, selects_row}
use Rattle.pol_model.specs.Worlds.{reserved_label}
use Rattle.pol_model.specs.declared.row.IdentityRow.{IdentityRow}
use Rattle.pol_rule.specs.declared.policy.Entity.{Entity}
use Rattle.pol_rule.specs.declared.policy.Entity.TheVariants as entity
use Rattle.pol_rule.specs.declared.policy.Peer.{Peer}
use Rattle.pol_rule.specs.declared.policy.Peer.TheVariants as peer

any_weaker : {X : Type 0} (p q : X → Bool) → ((x : X) → p x ≡ true → q x ≡ true) → (xs : List X) → list_any p xs ≡ true → list_any q xs ≡ true
any_weaker p q weaker [] any = absurd (let wrong : ⊥ = cc in wrong)
any_weaker p q weaker (x ∷ xs) any =
    elim (or_cases (p x) (list_any p xs) any) [
      | inl here ↦ or_left (q x) (list_any q xs) (weaker x here)
      | inr later ↦ or_right (q x) (list_any q xs) (any_weaker p q weaker xs later)
    ]

-- some label has this heading
abbrev pub has_heading : List Label → Heading → Bool
has_heading labels heading = list_any (λ label. same_heading (label_heading label) heading) labels

pub no_label : (labels : List Label) (prefix : Prefix) → has_heading labels (is.Prefix prefix) ≡ false
no_label [] prefix = refl
no_label (label ∷ labels) prefix = no_label labels prefix

labels_stand : (labels : List Label) (own : Option Prefix) (heading : Heading) → has_heading labels heading ≡ true → stands_with labels own heading ≡ true
labels_stand labels own (is.Label key value) there = there
labels_stand labels own (is.Prefix prefix) there = absurd (let wrong : false ≡ true = sym (no_label labels prefix) ∙ there in cc)
labels_stand labels own is.Any there = refl

-- ---- a label that meets a requirement of one value stands where that does
under_value : (label : Label) (key : List ℕ) (values : List (List ℕ)) → bytes_eq key label.key ≡ true → length values ≡ 1 → list_any (bytes_eq label.value) values ≡ true
    → same_heading (label_heading label) (option_map_or (λ value. is.Label key value) (slice_get values 0) is.Any) ≡ true
under_value label key [] keyed one any = absurd (omega arith)
under_value label key (value ∷ []) keyed one any =
    elim (or_cases (bytes_eq label.value value) false any) [
      | inl same ↦ and_from (bytes_eq label.key key) (bytes_eq label.value value) ((bytes_decides label.key key).1 (sym ((bytes_decides key label.key).0 keyed))) same
      | inr wrong ↦ absurd (let no : ⊥ = cc in no)
    ]
under_value label key (value ∷ other ∷ values) keyed one any = absurd (omega arith)

candidate_under : (requirement : Requirement) → length requirement.values ≡ 1 → (label : Label) → candidate_with_value requirement label ≡ true → same_heading (label_heading label) (under_first requirement) ≡ true
candidate_under requirement one label is_candidate =
    let parts = and_parts _ (list_any (bytes_eq label.value) requirement.values) is_candidate in
    let keyed = and_parts (bytes_eq requirement.key label.key) _ parts.0 in
    under_value label requirement.key requirement.values keyed.0 one parts.1

met_under : (requirement : Requirement) (labels : List Label) → names_one requirement ≡ true → meets requirement labels ≡ true → has_heading labels (under_first requirement) ≡ true
met_under requirement labels names met =
    let parts = and_parts (same_operator requirement.op OneOf) (length requirement.values == 1) names in
    let op : requirement.op ≡ OneOf = (same_operator-Decides requirement.op OneOf).0 parts.0 in
    let one : length requirement.values ≡ 1 = eqb-true (length requirement.values) 1 parts.1 in
    any_weaker (candidate_with_value requirement) (λ label. same_heading (label_heading label) (under_first requirement)) (candidate_under requirement one) labels
    (ap (λ o. asked o requirement labels) (sym op) ∙ met)

matched_under : (selector : List Requirement) (labels : List Label) (requirement : Requirement) → matches selector labels ≡ true → find names_one selector ≡ Some requirement → has_heading labels (under_first requirement) ≡ true
matched_under [] labels requirement all found = absurd (let wrong : ⊥ = cc in wrong)
matched_under (first ∷ selector) labels requirement all found =
    let parts = and_parts (meets first labels) (matches selector labels) all in
    by parts.0 (matched_under selector labels requirement parts.1) (names_one first) refl
  where
    by : meets first labels ≡ true → (find names_one selector ≡ Some requirement → has_heading labels (under_first requirement) ≡ true)
        → (b : Bool) → names_one first ≡ b → has_heading labels (under_first requirement) ≡ true
    by met later true names =
        let same : first ≡ requirement = same_Some first requirement (ap (λ b. cond b (Some first) (find names_one selector)) (sym names) ∙ found) in
        subst (λ r. has_heading labels (under_first r) ≡ true) same (met_under first labels names met)
    by met later false names = later (ap (λ b. cond b (Some first) (find names_one selector)) (sym names) ∙ found)

labels_under : (selector : List Requirement) (labels : List Label) (own : Option Prefix) → matches selector labels ≡ true → stands_with labels own (heading_of_labels selector) ≡ true
labels_under selector labels own matched = by (find names_one selector) refl
  where
    by : (o : Option Requirement) → find names_one selector ≡ o → stands_with labels own (option_map_or under_first o is.Any) ≡ true
    by None found = refl
    by (Some requirement) found = labels_stand labels own (under_first requirement) (matched_under selector labels requirement matched found)

-- ---- what lies in a prefix lies in its first whole octets
pub covers_octets : (p q : Prefix) → covers p q ≡ true → covers (whole_octets p) q ≡ true
covers_octets p q over =
    let (short, addr) = covers-parts p q over in
    let shorter : p.len / 8 * 8 ≤ p.len = omega arith in
    covers_from (whole_octets p) q (omega (arith, short, shorter))
    (sym (cleared-cleared (p.len / 8 * 8) p.len q.addr shorter) ∙ ap (cleared (p.len / 8 * 8)) addr)

prefix_under : (p : Prefix) (own : Option Prefix) → option_map_or (covers p) own false ≡ true → option_map_or (covers (whole_octets p)) own false ≡ true
prefix_under p None selected = absurd (let wrong : ⊥ = cc in wrong)
prefix_under p (Some own) selected = covers_octets p own selected

-- ---- what an entity names has its label
named_under : (labels : List Label) (name : List ℕ) → carries labels (reserved_label name) ≡ true → has_heading labels (reserved_heading name) ≡ true
named_under labels name named =
    any_weaker (same_label (reserved_label name)) (λ label. same_heading (label_heading label) (reserved_heading name))
    (λ label same. subst (λ l. same_heading (label_heading l) (reserved_heading name) ≡ true) ((same_label-Decides (reserved_label name) label).0 same) (same_heading-self (reserved_heading name)))
    labels named

entity_under : (e : Entity) (row : IdentityRow) → entity_selects (known_row row) e ≡ true → stands_under (heading_of_entity e) row ≡ true
entity_under entity.All row selected = refl
entity_under entity.World row selected = refl
entity_under entity.WorldIpv4 row selected = named_under row.labels (codes "world-ipv4") selected
entity_under entity.WorldIpv6 row selected = named_under row.labels (codes "world-ipv6") selected
entity_under entity.Host row selected = named_under row.labels (codes "host") selected
entity_under entity.RemoteNode row selected = named_under row.labels (codes "remote-node") selected
entity_under entity.KubeApiserver row selected = named_under row.labels (codes "kube-apiserver") selected
entity_under entity.Ingress row selected = named_under row.labels (codes "ingress") selected
entity_under entity.Init row selected = named_under row.labels (codes "init") selected
entity_under entity.Health row selected = named_under row.labels (codes "health") selected
entity_under entity.Unmanaged row selected = named_under row.labels (codes "unmanaged") selected
entity_under entity.Cluster row selected = refl

-- ---- so each identity that a peer selects stands under its heading, which may be a peer's
pub selected_stands : (p : Peer) (row : IdentityRow) → selects_row p row ≡ true → stands_under (heading_of p) row ≡ true
selected_stands (peer.Labels selector) row selected = labels_under selector row.labels row.prefix selected
selected_stands (peer.Cidr prefix except) row selected = prefix_under prefix row.prefix (and_parts _ _ selected).0
selected_stands (peer.Entity e) row selected = entity_under e row selected

value_whole : (key : List ℕ) (value : Option (List ℕ)) → is_whole (option_map_or (λ v. is.Label key v) value is.Any) ≡ true
value_whole key None = refl
value_whole key (Some value) = refl

labels_whole : (o : Option Requirement) → is_whole (option_map_or under_first o is.Any) ≡ true
labels_whole None = refl
labels_whole (Some requirement) = value_whole requirement.key (slice_get requirement.values 0)

entity_whole : (e : Entity) → is_whole (heading_of_entity e) ≡ true
entity_whole entity.All = refl
entity_whole entity.World = refl
entity_whole entity.WorldIpv4 = refl
entity_whole entity.WorldIpv6 = refl
entity_whole entity.Host = refl
entity_whole entity.RemoteNode = refl
entity_whole entity.KubeApiserver = refl
entity_whole entity.Ingress = refl
entity_whole entity.Init = refl
entity_whole entity.Health = refl
entity_whole entity.Unmanaged = refl
entity_whole entity.Cluster = refl

pub heading_whole : (p : Peer) → is_whole (heading_of p) ≡ true
heading_whole (peer.Labels selector) = labels_whole (find names_one selector)
heading_whole (peer.Cidr prefix except) = eq-eqb _ 0 (omega arith)
heading_whole (peer.Entity e) = entity_whole e

pub has_all : (labels : List Label) (prefix : Option Prefix) (before after : List Heading)
    → ((other : Heading) → is_among after other ≡ (is_among before other || is_filed_as labels prefix other)) → HasAllOf labels prefix after
has_all labels prefix before after added p row same_labels same_prefix selected =
    added (heading_of p)
    ∙ or_right (is_among before (heading_of p)) _
    (and_from (is_whole (heading_of p)) _ (heading_whole p)
    (sym (λ i. stands_with (same_labels i) (same_prefix i) (heading_of p)) ∙ selected_stands p row selected))
