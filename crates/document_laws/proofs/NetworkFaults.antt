-- The first fault of a NetworkPolicy is one of its faults, and none comes before it.
use Rattle.std.proofs.Common.{◌≡◌, ℕ, ◌+◌, ◌<◌, ◌≤◌, Bool, true, false, cond, ◌&&◌, ◌==◌, leb, List, [], ◌∷◌, Option, Some, None, Ok, Err, option_map, ◌⊎◌, inl, inr, refl, sym, ap, ◌∙◌, subst, arith, eq-eqb, eqb-true}
use Rattle.std.proofs.lemmas.Bool.{and_from, and_parts, both_ways, false_from_ne_true, leb-true, or_cases, or_left, or_right, true≢false}
use Rattle.std.specs.List.{slice_get}
use Rattle.std.specs.Option.{option_map_or, option_or}
use Rattle.pol_netpol.specs.Faults.{entry_causes, entry_fault, fault_at, first_fault, section_fault, subject_causes, subject_fault}
use Rattle.pol_netpol.specs.Translated.{policy_of, translated_of}
use Rattle.pol_netpol.specs.declared.raw.RawNetEntry.{RawNetEntry}
use Rattle.pol_netpol.specs.declared.raw.RawNetworkPolicy.{RawNetworkPolicy}
use Rattle.pol_rule.specs.Causes.{number_of}
use Rattle.pol_rule.specs.declared.cause.RuleCause.{RuleCause}
use Rattle.pol_rule.specs.declared.fault.RuleFault.{RuleFault}
use Rattle.pol_rule.specs.declared.policy.Policy.{Policy}
use Rattle.pol_rule.specs.declared.policy.Section.{Section}
use Rattle.pol_rule.specs.declared.policy.Section.TheVariants as section
use Rattle.pol_sanitize.proofs.FirstFaults.{At, Best, best_or, best_same, first_best, later_entry, later_number, later_place}
use Rattle.pol_sanitize.specs.Faults.{Cause, first_cause}
use Rattle.pol_sanitize.specs.Order.{comes_before, entry_rank, has_cause, place_rank}
use Rattle.pol_sanitize.specs.Sanitized.{judged}
use Rattle.document_laws.specs.NetworkFaults.{is_network_fault_of, network_causes_in, network_section}

-- ---- one place: the least number

abbrev ascends : ℕ → List Cause → Bool
ascends n [] = true
ascends n (c ∷ causes) = leb n (number_of c.what) && ascends (number_of c.what) causes

above : (n : ℕ) (causes : List Cause) (k : ℕ) → ascends n causes ≡ true → has_cause k causes ≡ true → n ≤ k
above n [] k up has = absurd (true≢false (sym has))
above n (c ∷ causes) k up has =
    let (here, rest) = and_parts (leb n (number_of c.what)) (ascends (number_of c.what) causes) up in
    let within = leb-true n (number_of c.what) here in
    elim (or_cases (number_of c.what == k && c.holds) (has_cause k causes) has) [
      | inl this ↦ omega (arith, within, eqb-true (number_of c.what) k (and_parts (number_of c.what == k) c.holds this).0)
      | inr one ↦ omega (arith, within, above (number_of c.what) causes k rest one)
    ]

-- a cause that holds, whose number is at most that of each other such cause
abbrev Least : Option RuleCause → List Cause → Type 0
Least None causes = (k : ℕ) → has_cause k causes ≡ true → ⊥
Least (Some m) causes = (has_cause (number_of m) causes ≡ true) × ((k : ℕ) → has_cause k causes ≡ true → number_of m ≤ k)

-- a cause that doesn't hold changes nothing
rest_has : (c : Cause) (causes : List Cause) (k : ℕ) → c.holds ≡ false → has_cause k (c ∷ causes) ≡ true → has_cause k causes ≡ true
rest_has c causes k fails has =
    elim (or_cases (number_of c.what == k && c.holds) (has_cause k causes) has) [
      | inl this ↦ absurd (both_ways c.holds fails (and_parts (number_of c.what == k) c.holds this).1)
      | inr one ↦ one
    ]

passed : (c : Cause) (causes : List Cause) (o : Option RuleCause) → c.holds ≡ false → Least o causes → Least o (c ∷ causes)
passed c causes None fails none = λ k has. none k (rest_has c causes k fails has)
passed c causes (Some m) fails (one, least) =
    (or_right (number_of c.what == number_of m && c.holds) (has_cause (number_of m) causes) one, λ k has. least k (rest_has c causes k fails has))

least_of : (n : ℕ) (causes : List Cause) → ascends n causes ≡ true → Least (first_cause causes) causes
least_of n [] up = λ k has. true≢false (sym has)
least_of n (c ∷ causes) up =
    let (here, rest) = and_parts (leb n (number_of c.what)) (ascends (number_of c.what) causes) up in
    let least = least_of (number_of c.what) causes rest in
    elim c.holds as (λ b. c.holds ≡ b → Least (cond b (Some c.what) (first_cause causes)) (c ∷ causes)) [
      | true ↦ λ holds. (
        or_left (number_of c.what == number_of c.what && c.holds) (has_cause (number_of c.what) causes) (ap (λ b. b && c.holds) (eq-eqb (number_of c.what) (number_of c.what) refl) ∙ holds),
        λ k has. elim (or_cases (number_of c.what == k && c.holds) (has_cause k causes) has) [
          | inl this ↦ omega (arith, eqb-true (number_of c.what) k (and_parts (number_of c.what == k) c.holds this).0)
          | inr one ↦ above (number_of c.what) causes k rest one
        ],
      )
      | false ↦ λ fails. passed c causes (first_cause causes) fails least
    ] refl

-- a fault at this place of an object, which is one rule
abbrev Here : Option (Section × ℕ) → List Cause → RuleFault → Type 0
Here at causes f = (f.rule ≡ 0) × (f.at ≡ at) × (has_cause f.number causes ≡ true)

best_here : (at : Option (Section × ℕ)) (causes : List Cause) (o : Option RuleCause) → Least o causes → Best (option_map (fault_at at) o) (Here at causes)
best_here at causes None none = λ f (is_rule, is_at, has). none f.number has
best_here at causes (Some m) (one, least) =
    ((refl, refl, one), λ f (is_rule, is_at, has). later_number (fault_at at m) f (sym is_rule) (sym is_at) (least f.number has))

-- ---- one section

abbrev EntryFault : Section → ℕ → RawNetEntry → RuleFault → Type 0
EntryFault s n entry f = Here (Some (s, n)) (entry_causes entry) f

entry_best : (s : Section) (n : ℕ) (entry : RawNetEntry) → Best (entry_fault s n entry) (EntryFault s n entry)
entry_best s n entry = best_here (Some (s, n)) (entry_causes entry) (first_cause (entry_causes entry)) (least_of 0 (entry_causes entry) refl)

entries_ordered : (s : Section) (m n : ℕ) (x y : RawNetEntry) (f g : RuleFault) → m < n → EntryFault s m x f → EntryFault s n y g → comes_before g f ≡ false
entries_ordered s m n x y f g less (rule_f, at_f, has_f) (rule_g, at_g, has_g) =
    later_entry f g (rule_f ∙ sym rule_g) (ap place_rank at_f ∙ sym (ap place_rank at_g)) (omega (arith, less, ap entry_rank at_f, ap entry_rank at_g))

abbrev InSection : RawNetworkPolicy → Section → RuleFault → Type 0
InSection raw s f = At (EntryFault s) 0 (network_section s raw) f

section_best : (raw : RawNetworkPolicy) (s : Section) → Best (section_fault s (network_section s raw)) (InSection raw s)
section_best raw s = first_best (EntryFault s) (entry_fault s) (entry_best s) (entries_ordered s) 0 (network_section s raw)

-- ---- the object

abbrev InObject : RawNetworkPolicy → RuleFault → Type 0
InObject raw f = Here None (subject_causes raw) f ⊎ (InSection raw section.Ingress f ⊎ InSection raw section.Egress f)

subject_best : (raw : RawNetworkPolicy) → Best (subject_fault raw) (Here None (subject_causes raw))
subject_best raw = best_here None (subject_causes raw) (first_cause (subject_causes raw)) (least_of 0 (subject_causes raw) refl)

at_entry : (raw : RawNetworkPolicy) (s : Section) (f : RuleFault) → InSection raw s f → (i : ℕ) × (f.at ≡ Some (s, i)) × (f.rule ≡ 0)
at_entry raw s f (i, entry, there, (is_rule, at, has)) = (0 + i, at, is_rule)

behind_subject : (raw : RawNetworkPolicy) (s : Section) → 0 < place_rank (Some (s, 0)) → (f g : RuleFault) → Here None (subject_causes raw) f → InSection raw s g
    → comes_before g f ≡ false
behind_subject raw s behind f g (rule_f, at_f, has_f) there =
    let (i, at, is_rule) = at_entry raw s g there in
    later_place f g (rule_f ∙ sym is_rule) (omega (arith, behind, ap place_rank at_f, ap place_rank at))

ingress_first : (raw : RawNetworkPolicy) (f g : RuleFault) → InSection raw section.Ingress f → InSection raw section.Egress g → comes_before g f ≡ false
ingress_first raw f g here there =
    let (i, at_f, rule_f) = at_entry raw section.Ingress f here in
    let (j, at_g, rule_g) = at_entry raw section.Egress g there in
    later_place f g (rule_f ∙ sym rule_g) (omega (arith, ap place_rank at_f, ap place_rank at_g))

object_best : (raw : RawNetworkPolicy) → Best (first_fault raw) (InObject raw)
object_best raw =
    best_or (subject_fault raw) (option_or (section_fault section.Ingress raw.ingress) (section_fault section.Egress raw.egress))
    (Here None (subject_causes raw)) (λ f. InSection raw section.Ingress f ⊎ InSection raw section.Egress f)
    (subject_best raw)
    (best_or (section_fault section.Ingress raw.ingress) (section_fault section.Egress raw.egress) (InSection raw section.Ingress) (InSection raw section.Egress)
    (section_best raw section.Ingress) (section_best raw section.Egress) (ingress_first raw))
    (λ f g here there. elim there [
      | inl in_ingress ↦ behind_subject raw section.Ingress (omega arith) f g here in_ingress
      | inr in_egress ↦ behind_subject raw section.Egress (omega arith) f g here in_egress
    ])

-- ---- the same, by a test

is_one : (raw : RawNetworkPolicy) (f : RuleFault) (at : Option (Section × ℕ)) → f.rule ≡ 0 → f.at ≡ at → has_cause f.number (network_causes_in raw at) ≡ true
    → is_network_fault_of raw f ≡ true
is_one raw f at is_rule is_at has =
    and_from (f.rule == 0) (has_cause f.number (network_causes_in raw f.at)) (eq-eqb f.rule 0 is_rule)
    (ap (λ a. has_cause f.number (network_causes_in raw a)) is_at ∙ has)

section_one : (raw : RawNetworkPolicy) (s : Section) (f : RuleFault) → InSection raw s f → is_network_fault_of raw f ≡ true
section_one raw s f (i, entry, there, (is_rule, at, has)) =
    let there' : slice_get (network_section s raw) (0 + i) ≡ Some entry = ap (slice_get (network_section s raw)) (omega arith) ∙ there in
    is_one raw f (Some (s, 0 + i)) is_rule at (ap (λ o. has_cause f.number (option_map_or entry_causes o [])) there' ∙ has)

to_test : (raw : RawNetworkPolicy) (f : RuleFault) → InObject raw f → is_network_fault_of raw f ≡ true
to_test raw f here = elim here [
  | inl (is_rule, at, has) ↦ is_one raw f None is_rule at has
  | inr there ↦ elim there [
    | inl in_ingress ↦ section_one raw section.Ingress f in_ingress
    | inr in_egress ↦ section_one raw section.Egress f in_egress
  ]
]

entry_there : (k : ℕ) (o : Option RawNetEntry) → has_cause k (option_map_or entry_causes o []) ≡ true
    → (entry : RawNetEntry) × (o ≡ Some entry) × (has_cause k (entry_causes entry) ≡ true)
entry_there k None has = absurd (true≢false (sym has))
entry_there k (Some entry) has = (entry, refl, has)

in_section : (raw : RawNetworkPolicy) (s : Section) (i : ℕ) (f : RuleFault) → f.rule ≡ 0 → f.at ≡ Some (s, i)
    → has_cause f.number (network_causes_in raw (Some (s, i))) ≡ true → InSection raw s f
in_section raw s i f is_rule at has =
    let (entry, there, here) = entry_there f.number (slice_get (network_section s raw) i) has in
    let at_i : i ≡ 0 + i = omega arith in
    (i, entry, there, (is_rule, at ∙ ap (λ j. Some (s, j)) at_i, here))

by_place : (raw : RawNetworkPolicy) (f : RuleFault) (at : Option (Section × ℕ)) → f.rule ≡ 0 → f.at ≡ at
    → has_cause f.number (network_causes_in raw at) ≡ true → InObject raw f
by_place raw f None is_rule at has = inl (is_rule, at, has)
by_place raw f (Some (section.Ingress, i)) is_rule at has = inr (inl (in_section raw section.Ingress i f is_rule at has))
by_place raw f (Some (section.IngressDeny, i)) is_rule at has =
    let (entry, there, here) = entry_there f.number (slice_get (network_section section.IngressDeny raw) i) has in
    let wrong : None ≡ Some entry = there in absurd cc
by_place raw f (Some (section.Egress, i)) is_rule at has = inr (inr (in_section raw section.Egress i f is_rule at has))
by_place raw f (Some (section.EgressDeny, i)) is_rule at has =
    let (entry, there, here) = entry_there f.number (slice_get (network_section section.EgressDeny raw) i) has in
    let wrong : None ≡ Some entry = there in absurd cc

from_test : (raw : RawNetworkPolicy) (f : RuleFault) → is_network_fault_of raw f ≡ true → InObject raw f
from_test raw f is =
    let (is_rule, has) = and_parts (f.rule == 0) (has_cause f.number (network_causes_in raw f.at)) is in
    by_place raw f f.at (eqb-true f.rule 0 is_rule) refl has

tested_best : (raw : RawNetworkPolicy) → Best (first_fault raw) (λ f. is_network_fault_of raw f ≡ true)
tested_best raw = best_same (first_fault raw) (InObject raw) (λ f. is_network_fault_of raw f ≡ true) (object_best raw) (to_test raw) (from_test raw)

refused_by : (raw : RawNetworkPolicy) (fault : RuleFault) (o : Option RuleFault) → judged o (policy_of raw) ≡ Err fault → o ≡ Some fault
refused_by raw fault None is = cc
refused_by raw fault (Some found) is = cc

accepted_by : (raw : RawNetworkPolicy) (policy : Policy) (o : Option RuleFault) → judged o (policy_of raw) ≡ Ok policy → o ≡ None
accepted_by raw policy None is = refl
accepted_by raw policy (Some found) is = cc

pub refused_first : (raw : RawNetworkPolicy) (fault : RuleFault) → translated_of raw ≡ Err fault → Best (Some fault) (λ f. is_network_fault_of raw f ≡ true)
refused_first raw fault is =
    subst (λ (o : Option RuleFault). Best o (λ f. is_network_fault_of raw f ≡ true)) (refused_by raw fault (first_fault raw) is) (tested_best raw)

pub accepted_none : (raw : RawNetworkPolicy) (policy : Policy) (fault : RuleFault) → translated_of raw ≡ Ok policy → is_network_fault_of raw fault ≡ false
accepted_none raw policy fault is =
    let none = subst (λ (o : Option RuleFault). Best o (λ f. is_network_fault_of raw f ≡ true)) (accepted_by raw policy (first_fault raw) is) (tested_best raw) in
    false_from_ne_true (is_network_fault_of raw fault) (none fault)
