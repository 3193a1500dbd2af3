-- The policy maps of the states of a generated script are small.
use Rattle.std.proofs.Common.{◌≡◌, ℕ, zero, suc, ◌+◌, ◌*◌, ◌<◌, ◌≤◌, ◌&&◌, ◌||◌, not, Bool, true, false, cond, List, [], ◌∷◌, ◌++◌, length, map, filter, codes, Some, inl, inr, refl, sym, ap, ◌∙◌, subst, arith, append-nil, length-append, bytes_eq}
use Rattle.std.specs.Cmp.{IsEquivalence}
use Rattle.std.specs.Cmp.Lexicographic.{bytes_decides}
use Rattle.std.specs.List.{AllByRecursion, flat_map, range_with_len}
use Rattle.std.specs.Ordering.{match_ordering}
use Rattle.std.specs.declared.cmp.Ordering.{Ordering}
use Rattle.std.specs.declared.cmp.Ordering.TheVariants.{Less, Equal, Greater}
use Rattle.std.proofs.lemmas.Bool.{both_ways, cases_eq, lt-leb}
use Rattle.std.proofs.lemmas.List.{length-map}
use Rattle.std.proofs.lemmas.List.Sums.{count_by-le-length, length-filter}
use Rattle.std.proofs.lemmas.Map.Made.{length-le_from_is_member}
use Rattle.pol_data.proofs.Every.{every-kept}
use Rattle.pol_data.proofs.Members.{In, Contains-from_In, In-from_Contains, every-in}
use Rattle.pol_model_laws.proofs.Membership.{In-filter, In-list_any, In-map, list_any-In, map-In}
use Rattle.pol_model_laws.proofs.PolicyHolders.{same_key-Decides}
use Rattle.pol_model_laws.proofs.FoundRows.{row-kinds}
use Rattle.pol_model_laws.proofs.StartRows.{start_row}
use Rattle.pol_model_laws.specs.Keeps.{Keeps, KeepsRows}
use Rattle.pol_labels.specs.Match.{matches}
use Rattle.pol_labels.specs.declared.label.Label.{Label}
use Rattle.pol_mapkey.specs.Entries.{Entry as MapEntry}
use Rattle.pol_mapkey.specs.MapKey.{key_cmp, port_key}
use Rattle.pol_mapkey.specs.declared.MapKey.{MapKey}
use Rattle.pol_mapkey.specs.declared.Kind.{Kind}
use Rattle.pol_mapkey.specs.declared.Kind.TheVariants.{Allow, Deny}
use Rattle.pol_model.proofs.Ascents.{filter_ascends}
use Rattle.pol_model.specs.Ascending.{Ascends}
use Rattle.pol_model.specs.Enforced.{rule_selects}
use Rattle.pol_model.specs.Fault.{has_reserved}
use Rattle.pol_model.specs.Identities.{is_local, reserved_identities}
use Rattle.pol_model.specs.PolicyMap.{allow_every, canonical, direction_entries, entry_entries, is_under_deny, localhost_entries, map_parts, map_size, merged, ports_keys, put_entry, raw_entries, selecting_rules, spec_keys, stronger, unenforced_entries}
use Rattle.pol_model.specs.Selects.{selects_row, set_at}
use Rattle.pol_model.specs.Verdict.{is_ingress}
use Rattle.pol_model.specs.State.{State}
use Rattle.pol_model.specs.Worlds.{reserved_label, world_around, world_labels}
use Rattle.pol_model.specs.declared.limits.TheConstants.{EVERY_IDENTITY, HOST_IDENTITY, LOCAL_FIRST}
use Rattle.pol_model.specs.declared.options.Options.{Options}
use Rattle.pol_model.specs.declared.row.Endpoint.{Endpoint}
use Rattle.pol_model.specs.declared.row.IdentityRow.{IdentityRow}
use Rattle.pol_model.specs.declared.row.Stamped.{Stamped}
use Rattle.pol_ports.proofs.SplitLaws.{split_few}
use Rattle.pol_ports.specs.PortRange.{range_from}
use Rattle.pol_ports.specs.Split.{split_of}
use Rattle.pol_ports.specs.declared.Direction.{Direction}
use Rattle.pol_ports.specs.declared.Direction.TheVariants.{Ingress, Egress}
use Rattle.pol_ports.specs.declared.Proto.TheVariants.{Tcp}
use Rattle.pol_rule.specs.Keys.{same_key}
use Rattle.pol_rule.specs.Covers.{section_of}
use Rattle.pol_rule.specs.declared.policy.Entry.{Entry}
use Rattle.pol_rule.specs.declared.policy.Peer.{Peer}
use Rattle.pol_rule.specs.declared.policy.Peer.TheVariants.{Labels}
use Rattle.pol_rule.specs.declared.policy.Policy.{Policy}
use Rattle.pol_rule.specs.declared.policy.PolicyKey.{PolicyKey}
use Rattle.pol_rule.specs.declared.policy.Rule.{Rule}
use Rattle.pol_rule.specs.declared.policy.Section.TheVariants as section
use Rattle.pol_generated.specs.Asked.{app_name, entry_of, labels_of, pods_of, policy_key}
use Rattle.pol_generated.specs.Maps.{most_entries}
use Rattle.pol_generated.proofs.ScriptStates.{AreScriptLabels, IsScriptPolicy, IsScriptRow, IsScriptStamped, IsScriptState, ruling}

-- ---- a map has no more entries than were put into it

ordered_length : (o : Ordering) (a b c : List MapEntry) (n : ℕ) → length a ≤ n → length b ≤ n → length c ≤ n → length (match_ordering o a b c) ≤ n
ordered_length Less a b c n one two three = one
ordered_length Equal a b c n one two three = two
ordered_length Greater a b c n one two three = three

put_length : (new : MapEntry) (entries : List MapEntry) → length (put_entry new entries) ≤ suc (length entries)
put_length new [] = omega arith
put_length new (old ∷ others) =
    ordered_length (key_cmp new.0 old.0) (new ∷ old ∷ others) ((old.0, stronger new.1 old.1) ∷ others) (old ∷ put_entry new others)
    (suc (suc (length others))) (omega arith) (omega arith) (omega (arith, put_length new others))

merged_length : (raw : List MapEntry) → length (merged raw) ≤ length raw
merged_length [] = omega arith
merged_length (entry ∷ others) = omega (arith, put_length entry (merged others), merged_length others)

pub canonical_length : (raw : List MapEntry) → length (canonical raw) ≤ length raw
canonical_length raw =
    let kept = λ (entry : MapEntry). not (is_under_deny raw entry) in
    omega (arith, merged_length raw, length-filter kept (merged raw), count_by-le-length kept (merged raw))

-- ---- the pods of an application have one identity at most

none_of_reserved : (a b : Bool) → ((((a && true) && false) || false) && b) ≡ false
none_of_reserved true b = refl
none_of_reserved false b = refl

-- a reserved label is of no application
reserved_unmatched : (from : ℕ) (name : List ℕ) → matches (pods_of from) (reserved_label name ∷ []) ≡ false
reserved_unmatched from name = none_of_reserved _ _

-- labels of an application that the selector of one matches are that one's
matched_app : (app from : ℕ) (same : Bool) → bytes_eq (app_name app) (app_name from) ≡ same → matches (pods_of from) (labels_of app) ≡ true → same ≡ true
matched_app app from true is matched = refl
matched_app app from false is matched =
    let none : matches (pods_of from) (labels_of app) ≡ false = rw is refl in
    absurd (both_ways (matches (pods_of from) (labels_of app)) none matched)

-- the labels of an application, by its name
abbrev named_labels : List ℕ → List Label
named_labels name =
    record { source = codes "k8s"; key = codes "app"; value = name }
    ∷ record { source = codes "k8s"; key = codes "io.kubernetes.pod.namespace"; value = codes "default" }
    ∷ []

-- labels that the selector of an application matches are its labels
matched_labels : (from : ℕ) (labels : List Label) → AreScriptLabels labels → matches (pods_of from) labels ≡ true → labels ≡ labels_of from
matched_labels from labels (inl one) matched =
    absurd (both_ways (matches (pods_of from) labels) (ap (matches (pods_of from)) one.1 ∙ reserved_unmatched from one.0) matched)
matched_labels from labels (inr one) matched =
    let same : bytes_eq (app_name one.0) (app_name from) ≡ true =
    matched_app one.0 from (bytes_eq (app_name one.0) (app_name from)) refl (ap (matches (pods_of from)) (sym one.1) ∙ matched) in
    one.1 ∙ ap named_labels ((bytes_decides (app_name one.0) (app_name from)).0 same)

-- their number is no prefix's
of_the_cluster : (rows : List IdentityRow) → KeepsRows rows → (row : IdentityRow) (app : ℕ) → In row rows → row.labels ≡ labels_of app
    → is_local row.number ≡ false
of_the_cluster rows keeps row app there is =
    elim (row-kinds rows keeps row (Contains-from_In rows row there)) [
      | inl reserved ↦
          let has : has_reserved row.labels ≡ true = (start_row row (In-from_Contains reserved_identities row reserved)).reserved.labels in
          absurd (both_ways (has_reserved row.labels) (ap has_reserved is) has)
      | inr (inl cluster) ↦ let upto = cluster.number.1 in lt-leb LOCAL_FIRST row.number (omega (arith, upto))
      | inr (inr local) ↦ let one : labels_of app ≡ world_labels (world_around local.own) = sym is ∙ local.labels in absurd cc
    ]

alone : (rows : List IdentityRow) → Ascends (map (λ (row : IdentityRow). row.number) rows)
    → ((one other : IdentityRow) → In one rows → In other rows → one ≡ other) → length rows ≤ 1
alone [] ascend same = omega arith
alone (row ∷ []) ascend same = omega arith
alone (row ∷ next ∷ rows) ascend same =
    let less : row.number < next.number = ascend.0.0 in
    let one : row ≡ next = same row next (inl refl) (inr (inl refl)) in
    absurd (omega (arith, less, ap (λ (x : IdentityRow). x.number) one))

pub one_identity : (rows : List IdentityRow) → KeepsRows rows → AllByRecursion IsScriptRow rows → (from : ℕ)
    → length (set_at rows (Labels (pods_of from))) ≤ 1
one_identity rows keeps all from =
    let peer = Labels (pods_of from) in
    let selected = filter (selects_row peer) rows in
    let few : length selected ≤ 1 = alone selected (filter_ascends (λ row. row.number) (selects_row peer) rows keeps.numbers) (λ one other first second.
    let a = In-filter (selects_row peer) one rows first in
    let b = In-filter (selects_row peer) other rows second in
    let its = matched_labels from one.labels (every-in IsScriptRow rows all one a.0) a.1 in
    let others = matched_labels from other.labels (every-in IsScriptRow rows all other b.0) b.1 in
    keeps.labels one other (Contains-from_In rows one a.0) (Contains-from_In rows other b.0) (of_the_cluster rows keeps one from a.0 its)
    (of_the_cluster rows keeps other from b.0 others) (its ∙ sym others)) in
    omega (arith, few, length-map selected (λ (row : IdentityRow). row.number))

-- ---- an entry puts 30 keys into a map at most

flat_length : {X Y : Type 0} (f : X → List Y) (most : ℕ) → ((x : X) → length (f x) ≤ most) → (xs : List X) → length xs ≤ 1
    → length (flat_map f xs) ≤ most
flat_length f most each [] few = omega arith
flat_length f most each (x ∷ []) few = omega (arith, each x, ap {B = ℕ} length (append-nil (f x)))
flat_length f most each (x ∷ y ∷ xs) few = absurd (omega (arith, few))

abbrev with_kind : Kind → MapKey → MapEntry
with_kind kind key = (key, kind)

module _ (set : Peer → List ℕ) (few : (from : ℕ) → length (set (Labels (pods_of from))) ≤ 1) where
  entry_length : (dir : Direction) (kind : Kind) (from first last : ℕ) → length (entry_entries set dir kind (entry_of from first last)) ≤ 30
  entry_length dir kind from first last =
      let ports = (entry_of from first last).ports in
      let numbers = set (Labels (pods_of from)) in
      let split = split_of (range_from first last) in
      flat_length (λ (id : ℕ). map (with_kind kind) (ports_keys dir id ports)) 30
      (λ id.
      let keys = map (port_key dir id Tcp) split in
      omega (
        arith,
        length-map (ports_keys dir id ports) (with_kind kind),
        ap {B = ℕ} length (append-nil (spec_keys dir id (record { proto = Some Tcp; range = range_from first last }))),
        ap {B = ℕ} length (append-nil keys),
        length-map split (port_key dir id Tcp),
        split_few (range_from first last),
      ))
      (numbers ++ []) (omega (arith, few from, ap {B = ℕ} length (append-nil numbers)))

  -- ---- a rule has one entry

  -- what the rules put into a map, where they let in and where they deny
  abbrev both_lengths : List Rule → ℕ
  both_lengths rules =
      length (flat_map (entry_entries set Ingress Allow) (flat_map (section_of section.Ingress) rules))
      + length (flat_map (entry_entries set Ingress Deny) (flat_map (section_of section.IngressDeny) rules))

  one_more : (kind : Kind) (entry : Entry) (entries : List Entry)
      → length (flat_map (entry_entries set Ingress kind) (entry ∷ entries))
      ≡ length (entry_entries set Ingress kind entry) + length (flat_map (entry_entries set Ingress kind) entries)
  one_more kind entry entries = length-append (entry_entries set Ingress kind entry) (flat_map (entry_entries set Ingress kind) entries)

  ruling_length : (denies : Bool) (app from first last : ℕ) (rules : List Rule)
      → both_lengths (ruling denies app from first last ∷ rules) ≤ 30 + both_lengths rules
  ruling_length true app from first last rules =
      omega (
        arith,
        one_more Deny (entry_of from first last) (flat_map (section_of section.IngressDeny) rules),
        entry_length Ingress Deny from first last,
      )
  ruling_length false app from first last rules =
      omega (
        arith,
        one_more Allow (entry_of from first last) (flat_map (section_of section.Ingress) rules),
        entry_length Ingress Allow from first last,
      )

-- a rule of the script
pub record IsScriptRule (rule : Rule) : Type 0 where
  pub denies : Bool
  pub app : ℕ
  pub from : ℕ
  pub first : ℕ
  pub last : ℕ
  pub is : rule ≡ ruling denies app from first last

module _ (set : Peer → List ℕ) (few : (from : ℕ) → length (set (Labels (pods_of from))) ≤ 1) where
  rules_length : (rules : List Rule) → AllByRecursion IsScriptRule rules → both_lengths set few rules ≤ length rules * 30
  rules_length [] all = omega arith
  rules_length (rule ∷ rules) all =
      let r = all.0 in
      let first : both_lengths set few (rule ∷ rules) ≤ 30 + both_lengths set few rules =
      subst (λ (x : Rule). both_lengths set few (x ∷ rules) ≤ 30 + both_lengths set few rules) (sym r.is)
      (ruling_length set few r.denies r.app r.from r.first r.last rules) in
      omega (arith, first, rules_length rules all.1)

no_egress : (rules : List Rule) → AllByRecursion IsScriptRule rules
    → (flat_map (section_of section.Egress) rules ≡ []) × (flat_map (section_of section.EgressDeny) rules ≡ [])
no_egress [] all = (refl, refl)
no_egress (rule ∷ rules) all =
    let r = all.0 in
    let others = no_egress rules all.1 in
    let none : (section_of section.Egress rule ≡ []) × (section_of section.EgressDeny rule ≡ []) =
    subst (λ (x : Rule). (section_of section.Egress x ≡ []) × (section_of section.EgressDeny x ≡ [])) (sym r.is)
    (ruling_egress r.denies r.app r.from r.first r.last) in
    ((λ i. none.0 i ++ others.0 i), (λ i. none.1 i ++ others.1 i))
  where
    ruling_egress : (denies : Bool) (app from first last : ℕ)
        → let rule = ruling denies app from first last in (section_of section.Egress rule ≡ []) × (section_of section.EgressDeny rule ≡ [])
    ruling_egress true app from first last = (refl, refl)
    ruling_egress false app from first last = (refl, refl)

abbrev rules_in : List Stamped → List Rule
rules_in policies = flat_map (λ (stamped : Stamped). stamped.policy.rules) policies

policy_rule : (policy : Policy) → IsScriptPolicy policy → (rule : Rule) × IsScriptRule rule × (policy.rules ≡ rule ∷ [])
policy_rule policy is = (
  ruling is.denies is.app is.from is.first is.last,
  record { denies = is.denies; app = is.app; from = is.from; first = is.first; last = is.last; is = refl },
  ap (λ (p : Policy). p.rules) is.is,
)

rules_ruling : (policies : List Stamped) → AllByRecursion IsScriptStamped policies → AllByRecursion IsScriptRule (rules_in policies)
rules_ruling [] all = tt
rules_ruling (stamped ∷ policies) all =
    let one = policy_rule stamped.policy all.0 in
    subst (λ (rules : List Rule). AllByRecursion IsScriptRule (rules ++ rules_in policies)) (sym one.2) (one.1, rules_ruling policies all.1)

rules_counted : (policies : List Stamped) → AllByRecursion IsScriptStamped policies → length (rules_in policies) ≡ length policies
rules_counted [] all = refl
rules_counted (stamped ∷ policies) all =
    let one = policy_rule stamped.policy all.0 in
    ap (λ (rules : List Rule). length (rules ++ rules_in policies)) one.2 ∙ ap suc (rules_counted policies all.1)

-- ---- there are 64 policies at most

pub key_laws : IsEquivalence same_key
key_laws = record {
  refl = λ a. (same_key-Decides a a).1 refl;
  symm = λ a b. turned (same_key a b) (same_key b a) (λ is. (same_key-Decides b a).1 (sym ((same_key-Decides a b).0 is)))
      (λ is. (same_key-Decides a b).1 (sym ((same_key-Decides b a).0 is)));
  congr = λ a b c is. ap (λ (k : PolicyKey). same_key k c) ((same_key-Decides a b).0 is);
}
  where
    turned : (x y : Bool) → (x ≡ true → y ≡ true) → (y ≡ true → x ≡ true) → x ≡ y
    turned true y to from = sym (to refl)
    turned false true to from = from refl
    turned false false to from = refl

in_range : (i a n : ℕ) → a ≤ i → i < a + n → In i (range_with_len a n)
in_range i a zero from upto = absurd (omega (arith, from, upto))
in_range i a (suc n) from upto =
    elim (cases_eq a i) [
      | inl same ↦ inl same
      | inr other ↦ inr (in_range i (a + 1) n (omega (arith, from, other)) (omega (arith, upto)))
    ]

abbrev key_of : Stamped → PolicyKey
key_of stamped = stamped.policy.key

script_key : (policy : Policy) (is : IsScriptPolicy policy) → policy.key ≡ policy_key is.name
script_key policy is = ap (λ (p : Policy). p.key) is.is

pub few_policies : (s : State) → Keeps s → AllByRecursion IsScriptStamped s.policies → length s.policies ≤ 64
few_policies s keeps all =
    let keys = map key_of s.policies in
    let names = map policy_key (range_with_len 0 64) in
    let fewer : length keys ≤ length names =
    length-le_from_is_member key_laws keys names keeps.keys (λ key there.
    let one = In-list_any (same_key key) keys there in
    let at = In-map key_of one.0 s.policies one.1 in
    let is = every-in IsScriptStamped s.policies all at.0 at.1 in
    let named : one.0 ≡ policy_key is.name = sym at.2 ∙ script_key at.0.policy is in
    list_any-In (same_key key) (policy_key is.name) names (map-In policy_key is.name (range_with_len 0 64) (in_range is.name 0 64 (omega arith) (omega (arith, is.low))))
    (subst (λ (k : PolicyKey). same_key key k ≡ true) named one.2)) in
    omega (arith, fewer, length-map s.policies key_of)

-- ---- the whole map

few_if : (b : Bool) (entry : MapEntry) → length (cond b [] (entry ∷ [])) ≤ 1
few_if true entry = omega arith
few_if false entry = omega arith

one_if : (b : Bool) (entry : MapEntry) → length (cond b (entry ∷ []) []) ≤ 1
one_if true entry = omega arith
one_if false entry = omega arith

joined_length : {X : Type 0} (a b c d : List X) → length (a ++ b ++ c ++ d) ≡ length a + length b + length c + length d
joined_length a b c d = omega (arith, length-append (a ++ b ++ c) d, length-append (a ++ b) c, length-append a b)

raw_where : (never : Bool) (both : List MapEntry) (parts : List MapEntry) (most : ℕ) → length both ≤ most → length parts ≤ most
    → length (cond never both parts) ≤ most
raw_where true both parts most first second = first
raw_where false both parts most first second = second

pub small_map : (options : Options) (s : State) (endpoint : Endpoint) → Keeps s → IsScriptState s → map_size options s endpoint ≤ most_entries
small_map options s endpoint keeps is =
    let set = set_at s.identities in
    let parts = map_parts options s endpoint in
    let few : (from : ℕ) → length (set (Labels (pods_of from))) ≤ 1 = one_identity s.identities keeps.identities is.rows in
    let rules = selecting_rules s.policies endpoint in
    let all : AllByRecursion IsScriptRule rules = every-kept IsScriptRule (rule_selects endpoint) (rules_in s.policies) (rules_ruling s.policies is.policies) in
    let count : length rules ≤ 64 =
    omega (
      arith,
      length-filter (rule_selects endpoint) (rules_in s.policies),
      count_by-le-length (rule_selects endpoint) (rules_in s.policies),
      rules_counted s.policies is.policies,
      few_policies s keeps is.policies,
    ) in
    let none = no_egress rules all in
    let inward : length (direction_entries set parts Ingress) ≤ 64 * 30 + 2 =
    omega (
      arith,
      joined_length (flat_map (entry_entries set Ingress Allow) (parts.allows Ingress)) (flat_map (entry_entries set Ingress Deny) (parts.denies Ingress))
          (unenforced_entries parts Ingress) (localhost_entries parts Ingress),
      rules_length set few rules all,
      count,
      few_if (parts.enforced Ingress) (allow_every Ingress EVERY_IDENTITY),
      one_if (is_ingress Ingress && parts.localhost) (allow_every Ingress HOST_IDENTITY),
    ) in
    let outward : length (direction_entries set parts Egress) ≤ 1 =
    omega (
      arith,
      joined_length (flat_map (entry_entries set Egress Allow) (parts.allows Egress)) (flat_map (entry_entries set Egress Deny) (parts.denies Egress))
          (unenforced_entries parts Egress) (localhost_entries parts Egress),
      ap {B = ℕ} (λ (entries : List Entry). length (flat_map (entry_entries set Egress Allow) entries)) none.0,
      ap {B = ℕ} (λ (entries : List Entry). length (flat_map (entry_entries set Egress Deny) entries)) none.1,
      few_if (parts.enforced Egress) (allow_every Egress EVERY_IDENTITY),
    ) in
    let raw : length (raw_entries set parts) ≤ most_entries =
    raw_where parts.never (allow_every Ingress EVERY_IDENTITY ∷ allow_every Egress EVERY_IDENTITY ∷ [])
    (direction_entries set parts Ingress ++ direction_entries set parts Egress) most_entries (omega arith)
    (omega (arith, inward, outward, length-append (direction_entries set parts Ingress) (direction_entries set parts Egress))) in
    omega (arith, raw, canonical_length (raw_entries set parts))
