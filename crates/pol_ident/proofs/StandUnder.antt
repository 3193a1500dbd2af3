-- The rows that stand under a heading, kind by kind.
use Rattle.std.proofs.Common.{suc, ◌≡◌, ℕ, ◌+◌, Bool, true, false, cond, codes, List, [], ◌∷◌, ◌++◌, filter, Option, None, Some, inl, inr, refl, sym, ap, ◌∙◌}
use Rattle.std.specs.Cmp.Lexicographic.{bytes_decides}
use Rattle.std.specs.Str.{bytes_eq}
use Rattle.std.proofs.lemmas.Bool.{and_parts, or_cases}
use Rattle.std.proofs.lemmas.List.{append-nil, append_assoc, map-append}
use Rattle.std.proofs.lemmas.List.Elements.{filter-append}
use Rattle.pol_addr.specs.Address.{family_of}
use Rattle.pol_addr.specs.Cidr.{IsPrefix}
use Rattle.pol_addr.specs.Prefix.{covers, world}
use Rattle.pol_addr.specs.declared.family.Family.{Family}
use Rattle.pol_addr.specs.declared.family.Family.TheVariants.{Ipv4, Ipv6}
use Rattle.pol_addr.specs.declared.network.Prefix.{Prefix}
use Rattle.pol_addr.proofs.ByFamily.{family_of-addr_in}
use Rattle.pol_addr.proofs.Containment.{covers-family}
use Rattle.pol_addr.proofs.World.{covers-world}
use Rattle.pol_headings.specs.declared.heading.Heading.{Heading}
use Rattle.pol_headings.specs.declared.heading.Heading.TheVariants.{Label as ByLabel}
use Rattle.pol_headings.specs.Heading.{label_heading, same_heading}
use Rattle.pol_headings.specs.Stands.{stands_under, stands_with}
use Rattle.pol_label_sets.specs.Carried.{carries_heading}
use Rattle.pol_labels.specs.declared.label.Label.{Label}
use Rattle.pol_model.specs.declared.limits.TheConstants.{CLUSTER_FIRST, LOCAL_FIRST}
use Rattle.pol_model.specs.declared.row.IdentityRow.{IdentityRow}
use Rattle.pol_model.specs.Identities.{reserved_identities}
use Rattle.pol_model.specs.Worlds.{reserved_label, world_in, world_labels}
use Rattle.pol_interner.specs.Slots.{Slot, numbers_from, numbers_where, slot_at}
use Rattle.pol_ident.specs.Rows.{ArePrefixes, cluster_rows, local_rows, row_with, rows_of, rows_then}
use Rattle.pol_ident.proofs.HeldLabels.{plain, without}
use Rattle.pol_ident.proofs.HeldPrefixes.{worlds}
use Rattle.pol_ident.proofs.RowLists.{numbers}

-- ---- all of the slots, and none
pub all-where : {K : Type 0} (first : ℕ) (slots : List (Slot K)) → numbers_where first (λ key. true) slots ≡ numbers_from first slots
all-where first [] = refl
all-where first (None ∷ slots) = all-where (first + 1) slots
all-where first (Some own ∷ slots) = ap (λ others. first ∷ others) (all-where (first + 1) slots)

pub none-where : {K : Type 0} (first : ℕ) (slots : List (Slot K)) → numbers_where first (λ key. false) slots ≡ []
none-where first [] = refl
none-where first (None ∷ slots) = none-where (first + 1) slots
none-where first (Some own ∷ slots) = none-where (first + 1) slots

-- a test that tells the same of each key
pub same-where : {K : Type 0} (p q : K → Bool) (first : ℕ) (slots : List (Slot K)) → ((place : ℕ) (own : K × ℕ) → slot_at slots place ≡ Some own → p own.0 ≡ q own.0) → numbers_where first p slots ≡ numbers_where first q slots
same-where p q first [] same = refl
same-where p q first (None ∷ slots) same = same-where p q (first + 1) slots (λ place own at. same (suc place) own at)
same-where p q first (Some own ∷ slots) same =
    let rest = same-where p q (first + 1) slots (λ place other at. same (suc place) other at) in
    let here = same 0 own refl in
    λ i. cond (here i) (first ∷ rest i) (rest i)

-- ---- the prefixes of a family, which have its world's label
abbrev has_world : Family → List ℕ → List ℕ → Bool
has_world f key value = carries_heading (ByLabel key value) (world_labels (world_in f))

-- one label is of one family alone
apart : (key value : List ℕ) → has_world Ipv4 key value ≡ true → has_world Ipv6 key value ≡ true → ⊥
apart key value first second =
    let one : codes "world-ipv4" ≡ key = named (codes "world-ipv4") first in
    let other : codes "world-ipv6" ≡ key = named (codes "world-ipv6") second in
    let wrong : bytes_eq (codes "world-ipv4") (codes "world-ipv6") ≡ true = (bytes_decides (codes "world-ipv4") (codes "world-ipv6")).1 (one ∙ sym other) in
    cc
  where
    named : (name : List ℕ) → carries_heading (ByLabel key value) (reserved_label name ∷ []) ≡ true → name ≡ key
    named name has =
        elim (or_cases (same_heading (label_heading (reserved_label name)) (ByLabel key value)) false has) [
          | inl same ↦ (bytes_decides name key).0 (and_parts (bytes_eq name key) _ same).0
          | inr wrong ↦ absurd (let no : ⊥ = cc in no)
        ]

one_family : (f g : Family) (key value : List ℕ) → has_world f key value ≡ true → has_world g key value ≡ true → f ≡ g
one_family Ipv4 Ipv4 key value first second = refl
one_family Ipv4 Ipv6 key value first second = absurd (apart key value first second)
one_family Ipv6 Ipv4 key value first second = absurd (apart key value second first)
one_family Ipv6 Ipv6 key value first second = refl

same_truth : (a b : Bool) → (a ≡ true → b ≡ true) → (b ≡ true → a ≡ true) → a ≡ b
same_truth true b to from = sym (to refl)
same_truth false true to from = from refl
same_truth false false to from = refl

labelled : (f : Family) (key value : List ℕ) → has_world f key value ≡ true → (prefix : Prefix) → IsPrefix prefix → covers (world f) prefix ≡ carries_heading (ByLabel key value) (worlds prefix)
labelled f key value has prefix valid =
    same_truth _ _
    (λ over.
    let same : family_of prefix.addr ≡ f = covers-family (world f) prefix over ∙ family_of-addr_in f 0 in
    ap (λ g. has_world g key value) same ∙ has)
    (λ own.
    let same : f ≡ family_of prefix.addr = one_family f (family_of prefix.addr) key value has own in
    ap (λ g. covers (world g) prefix) same ∙ covers-world prefix valid)

pub family-where : (f : Family) (key value : List ℕ) → has_world f key value ≡ true → (first : ℕ) (slots : List (Slot Prefix)) → ArePrefixes slots
    → numbers_where first (covers (world f)) slots ≡ numbers_where first (λ prefix. stands_with (worlds prefix) (Some prefix) (ByLabel key value)) slots
family-where f key value has first slots valid =
    same-where (covers (world f)) (λ prefix. carries_heading (ByLabel key value) (worlds prefix)) first slots (λ place own at. labelled f key value has own.0 (valid place own at))

pub no_family-where : (key value : List ℕ) → ((f : Family) → has_world f key value ≡ false) → (first : ℕ) (slots : List (Slot Prefix))
    → numbers_where first (λ prefix. stands_with (worlds prefix) (Some prefix) (ByLabel key value)) slots ≡ []
no_family-where key value none first slots =
    same-where (λ prefix. carries_heading (ByLabel key value) (worlds prefix)) (λ prefix. false) first slots (λ place own at. none (family_of own.0.addr)) ∙ none-where first slots

-- ---- the rows
module _ (heading : Heading) where
  abbrev pub under : List IdentityRow → List ℕ
  under rows = numbers (filter (stands_under heading) rows)

  -- those of slots, and then these
  pub under-rows : {K : Type 0} (labels : K → List Label) (prefix : K → Option Prefix) (first : ℕ) (slots : List (Slot K)) (rest : List IdentityRow)
      → under (rows_then labels prefix first slots rest) ≡ numbers_where first (λ key. stands_with (labels key) (prefix key) heading) slots ++ under rest
  under-rows labels prefix first [] rest = refl
  under-rows labels prefix first (None ∷ slots) rest = under-rows labels prefix (first + 1) slots rest
  under-rows labels prefix first (Some own ∷ slots) rest = by (stands_with (labels own.0) (prefix own.0) heading) (under-rows labels prefix (first + 1) slots rest)
    where
      later : List ℕ
      later = numbers_where (first + 1) (λ key. stands_with (labels key) (prefix key) heading) slots

      others : List IdentityRow
      others = filter (stands_under heading) (rows_then labels prefix (first + 1) slots rest)

      by : (b : Bool) → numbers others ≡ later ++ under rest → numbers (cond b (row_with labels prefix first own ∷ others) others) ≡ cond b (first ∷ later) later ++ under rest
      by true same = ap (λ ns. first ∷ ns) same
      by false same = same

  -- as they are collected
  pub under-collected : (cluster : List (Slot (List Label))) (local : List (Slot Prefix))
      → (under reserved_identities ++ numbers_where CLUSTER_FIRST (λ labels. stands_with labels None heading) cluster)
      ++ numbers_where LOCAL_FIRST (λ prefix. stands_with (worlds prefix) (Some prefix) heading) local
      ≡ under (rows_of cluster local)
  under-collected cluster local =
      let sets = numbers_where CLUSTER_FIRST (λ labels. stands_with labels None heading) cluster in
      let prefixes = numbers_where LOCAL_FIRST (λ prefix. stands_with (worlds prefix) (Some prefix) heading) local in
      append_assoc (under reserved_identities) sets prefixes
      ∙ ap (λ rest. under reserved_identities ++ (sets ++ rest)) (sym (append-nil prefixes) ∙ sym (under-rows worlds Some LOCAL_FIRST local []))
      ∙ ap (λ rest. under reserved_identities ++ rest) (sym (under-rows plain without CLUSTER_FIRST cluster (local_rows local)))
      ∙ sym (map-append (λ row. row.number) (filter (stands_under heading) reserved_identities) (filter (stands_under heading) (cluster_rows cluster (local_rows local))))
      ∙ sym (ap numbers (filter-append (stands_under heading) reserved_identities (cluster_rows cluster (local_rows local))))
