-- The first fault of a policy is one of its faults, and none comes before it.
use Rattle.std.proofs.Common.{◌≡◌, ℕ, zero, suc, ◌+◌, ◌<◌, ◌≤◌, Bool, true, false, cond, ◌&&◌, ◌==◌, leb, List, [], ◌∷◌, Option, Some, None, Ok, Err, ◌⊎◌, inl, inr, refl, sym, ap, ◌∙◌, subst, arith, eq-eqb, eqb-true}
use Rattle.std.proofs.lemmas.Bool.{and_parts, both_ways, cases_lt, false_from_ne_true, leb-true, or_cases, or_left, or_right, true≢false}
use Rattle.std.specs.List.{slice_get}
use Rattle.std.specs.Option.{option_map_or, option_or}
use Rattle.pol_rule.specs.Causes.{number_of}
use Rattle.pol_rule.specs.declared.cause.RuleCause.{RuleCause}
use Rattle.pol_rule.specs.declared.fault.RuleFault.{RuleFault}
use Rattle.pol_rule.specs.declared.policy.Policy.{Policy}
use Rattle.pol_rule.specs.declared.policy.Section.{Section}
use Rattle.pol_rule.specs.declared.policy.Section.TheVariants as section
use Rattle.pol_rule.specs.declared.raw.RawEntry.{RawEntry}
use Rattle.pol_rule.specs.declared.raw.RawPolicy.{RawPolicy}
use Rattle.pol_rule.specs.declared.raw.RawRule.{RawRule}
use Rattle.pol_rule.specs.declared.raw.RawSelector.{RawSelector}
use Rattle.pol_sanitize.specs.Faults.{Cause, entry_causes, entry_fault, first_fault, first_cause, located, of_entry, of_subject, rule_fault, section_fault, subject_causes, subject_fault}
use Rattle.pol_sanitize.specs.Order.{causes_in, comes_before, entry_rank, has_cause, is_fault_of, place_rank, raw_section, section_rank}
use Rattle.pol_sanitize.specs.Sanitized.{judged, policy_of, sanitized_of}
use Rattle.pol_sanitize.specs.declared.fault.Location.{Location}
use Rattle.pol_sanitize.proofs.FirstFaults.{At, Best, best_or, best_same, first_best, later_entry, later_number, later_place, later_rule}

-- ---- one place: the least number
abbrev ascends : ℕ → List Cause → Bool
ascends n [] = true
ascends n (c ∷ causes) = leb n (number_of c.what) && ascends (number_of c.what) causes

above : (n : ℕ) (causes : List Cause) (k : ℕ) → ascends n causes ≡ true → has_cause k causes ≡ true → n ≤ k
above n [] k up has = absurd (true≢false (sym has))
above n (c ∷ causes) k up has =
    let (here, rest) = and_parts (leb n (number_of c.what)) (ascends (number_of c.what) causes) up in
    let within = leb-true n (number_of c.what) here in
    elim (or_cases (number_of c.what == k && c.holds) (has_cause k causes) has) [
      | inl this ↦ omega (arith, within, eqb-true (number_of c.what) k (and_parts (number_of c.what == k) c.holds this).0)
      | inr one ↦ omega (arith, within, above (number_of c.what) causes k rest one)
    ]

-- a cause that holds, whose number is at most that of each other such cause
abbrev Least : Option RuleCause → List Cause → Type 0
Least None causes = (k : ℕ) → has_cause k causes ≡ true → ⊥
Least (Some m) causes = (has_cause (number_of m) causes ≡ true) × ((k : ℕ) → has_cause k causes ≡ true → number_of m ≤ k)

-- a cause that doesn't hold changes nothing
rest_has : (c : Cause) (causes : List Cause) (k : ℕ) → c.holds ≡ false → has_cause k (c ∷ causes) ≡ true → has_cause k causes ≡ true
rest_has c causes k fails has =
    elim (or_cases (number_of c.what == k && c.holds) (has_cause k causes) has) [
      | inl this ↦ absurd (both_ways c.holds fails (and_parts (number_of c.what == k) c.holds this).1)
      | inr one ↦ one
    ]

passed : (c : Cause) (causes : List Cause) (o : Option RuleCause) → c.holds ≡ false → Least o causes → Least o (c ∷ causes)
passed c causes None fails none = λ k has. none k (rest_has c causes k fails has)
passed c causes (Some m) fails (one, least) = (or_right (number_of c.what == number_of m && c.holds) (has_cause (number_of m) causes) one, λ k has. least k (rest_has c causes k fails has))

least_of : (n : ℕ) (causes : List Cause) → ascends n causes ≡ true → Least (first_cause causes) causes
least_of n [] up = λ k has. true≢false (sym has)
least_of n (c ∷ causes) up =
    let (here, rest) = and_parts (leb n (number_of c.what)) (ascends (number_of c.what) causes) up in
    let least = least_of (number_of c.what) causes rest in
    elim c.holds as (λ b. c.holds ≡ b → Least (cond b (Some c.what) (first_cause causes)) (c ∷ causes)) [
      | true ↦ λ holds. (
        or_left (number_of c.what == number_of c.what && c.holds) (has_cause (number_of c.what) causes) (ap (λ b. b && c.holds) (eq-eqb (number_of c.what) (number_of c.what) refl) ∙ holds),
        λ k has. elim (or_cases (number_of c.what == k && c.holds) (has_cause k causes) has) [
          | inl this ↦ omega (arith, eqb-true (number_of c.what) k (and_parts (number_of c.what == k) c.holds this).0)
          | inr one ↦ above (number_of c.what) causes k rest one
        ],
      )
      | false ↦ λ fails. passed c causes (first_cause causes) fails least
    ] refl

-- a fault at the location
abbrev Here : Location → List Cause → RuleFault → Type 0
Here location causes f = (f.rule ≡ location.rule) × (f.at ≡ location.at) × (has_cause f.number causes ≡ true)

best_here : (location : Location) (causes : List Cause) (o : Option RuleCause) → Least o causes → Best (located location o) (Here location causes)
best_here location causes None none = λ f (rule, at, has). none f.number has
best_here location causes (Some m) (one, least) =
    ((refl, refl, one), λ f (rule, at, has). later_number (record { number = number_of m; rule = location.rule; at = location.at }) f (sym rule) (sym at) (least f.number has))

subject_ascends : (subject : Option RawSelector) → ascends 0 (subject_causes subject) ≡ true
subject_ascends None = refl
subject_ascends (Some selector) = refl

-- ---- one section
abbrev EntryFault : ℕ → Section → ℕ → RawEntry → RuleFault → Type 0
EntryFault rule s n entry f = Here (of_entry rule s n) (entry_causes entry) f

entry_best : (rule : ℕ) (s : Section) (n : ℕ) (entry : RawEntry) → Best (entry_fault rule s n entry) (EntryFault rule s n entry)
entry_best rule s n entry = best_here (of_entry rule s n) (entry_causes entry) (first_cause (entry_causes entry)) (least_of 0 (entry_causes entry) refl)

entries_ordered : (rule : ℕ) (s : Section) (m n : ℕ) (x y : RawEntry) (f g : RuleFault) → m < n → EntryFault rule s m x f → EntryFault rule s n y g → comes_before g f ≡ false
entries_ordered rule s m n x y f g less (rule_f, at_f, has_f) (rule_g, at_g, has_g) =
    later_entry f g (rule_f ∙ sym rule_g) (ap place_rank at_f ∙ sym (ap place_rank at_g)) (omega (arith, ap entry_rank at_f, ap entry_rank at_g))

-- a fault of the rule, in the part of this rank
abbrev Part : ℕ → RawRule → ℕ → RuleFault → Type 0
Part rule raw rank f = (f.rule ≡ rule) × (place_rank f.at ≡ rank) × (has_cause f.number (causes_in raw f.at) ≡ true)

-- a rank tells its section
ranked : ℕ → Section
ranked zero = section.Ingress
ranked (suc zero) = section.Ingress
ranked (suc (suc zero)) = section.IngressDeny
ranked (suc (suc (suc zero))) = section.Egress
ranked (suc (suc (suc (suc n)))) = section.EgressDeny

ranked-section_rank : (s : Section) → ranked (section_rank s) ≡ s
unfolding ranked
ranked-section_rank section.Ingress = refl
ranked-section_rank section.IngressDeny = refl
ranked-section_rank section.Egress = refl
ranked-section_rank section.EgressDeny = refl

one_section : (s t : Section) → section_rank s ≡ section_rank t → s ≡ t
one_section s t same = sym (ranked-section_rank s) ∙ ap ranked same ∙ ranked-section_rank t

rank_within : (s : Section) → (1 ≤ section_rank s) × (section_rank s ≤ 4)
rank_within section.Ingress = (omega arith, omega arith)
rank_within section.IngressDeny = (omega arith, omega arith)
rank_within section.Egress = (omega arith, omega arith)
rank_within section.EgressDeny = (omega arith, omega arith)

section_part : (rule : ℕ) (raw : RawRule) (s : Section) (f : RuleFault) → At (EntryFault rule s) 0 (raw_section s raw) f → Part rule raw (section_rank s) f
section_part rule raw s f (i, entry, there, (is_rule, at, has)) =
    let there' : slice_get (raw_section s raw) (0 + i) ≡ Some entry = ap (slice_get (raw_section s raw)) (omega arith) ∙ there in
    let causes = ap (causes_in raw) at ∙ ap (λ o. option_map_or entry_causes o []) there' in
    (is_rule, ap place_rank at, ap (has_cause f.number) causes ∙ has)

-- a cause is one of an entry that is there
entry_there : (k : ℕ) (o : Option RawEntry) → has_cause k (option_map_or entry_causes o []) ≡ true → (entry : RawEntry) × (o ≡ Some entry) × (has_cause k (entry_causes entry) ≡ true)
entry_there k None has = absurd (true≢false (sym has))
entry_there k (Some entry) has = (entry, refl, has)

part_section : (rule : ℕ) (raw : RawRule) (s : Section) (f : RuleFault) (at : Option (Section × ℕ)) → f.at ≡ at → f.rule ≡ rule → place_rank at ≡ section_rank s → has_cause f.number (causes_in raw at) ≡ true → At (EntryFault rule s) 0 (raw_section s raw) f
part_section rule raw s f None is is_rule rank has = absurd (omega (arith, rank, (rank_within s).0))
part_section rule raw s f (Some (t, i)) is is_rule rank has =
    let same = one_section t s rank in
    let (entry, there, here) = entry_there f.number (slice_get (raw_section t raw) i) has in
    let at_i : i ≡ 0 + i = omega arith in
    (i, entry, ap (λ u. slice_get (raw_section u raw) i) (sym same) ∙ there, (is_rule, is ∙ ap (λ u. Some (u, i)) same ∙ ap (λ j. Some (s, j)) at_i, here))

section_best : (rule : ℕ) (raw : RawRule) (s : Section) → Best (section_fault rule s (raw_section s raw)) (Part rule raw (section_rank s))
section_best rule raw s =
    best_same (section_fault rule s (raw_section s raw)) (At (EntryFault rule s) 0 (raw_section s raw)) (Part rule raw (section_rank s))
    (first_best (EntryFault rule s) (entry_fault rule s) (entry_best rule s) (entries_ordered rule s) 0 (raw_section s raw))
    (section_part rule raw s)
    (λ f (is_rule, rank, has). part_section rule raw s f f.at refl is_rule rank has)

-- ---- one rule
subject_part : (rule : ℕ) (raw : RawRule) (f : RuleFault) → Here (of_subject rule) (subject_causes raw.subject) f → Part rule raw 0 f
subject_part rule raw f (is_rule, at, has) = (is_rule, ap place_rank at, ap (λ at. has_cause f.number (causes_in raw at)) at ∙ has)

part_subject : (rule : ℕ) (raw : RawRule) (f : RuleFault) (at : Option (Section × ℕ)) → f.at ≡ at → f.rule ≡ rule → place_rank at ≡ 0 → has_cause f.number (causes_in raw at) ≡ true → Here (of_subject rule) (subject_causes raw.subject) f
part_subject rule raw f None is is_rule rank has = (is_rule, is, has)
part_subject rule raw f (Some (t, i)) is is_rule rank has = absurd (omega (arith, rank, (rank_within t).0))

subject_best : (rule : ℕ) (raw : RawRule) → Best (subject_fault rule raw) (Part rule raw 0)
subject_best rule raw =
    best_same (subject_fault rule raw) (Here (of_subject rule) (subject_causes raw.subject)) (Part rule raw 0)
    (best_here (of_subject rule) (subject_causes raw.subject) (first_cause (subject_causes raw.subject)) (least_of 0 (subject_causes raw.subject) (subject_ascends raw.subject)))
    (subject_part rule raw)
    (λ f (is_rule, rank, has). part_subject rule raw f f.at refl is_rule rank has)

-- a fault of the rule, in the part of this rank or a later one
abbrev From : ℕ → RawRule → ℕ → RuleFault → Type 0
From rule raw rank f = (f.rule ≡ rule) × (rank ≤ place_rank f.at) × (has_cause f.number (causes_in raw f.at) ≡ true)

part_or_later : (rule : ℕ) (raw : RawRule) (rank : ℕ) (o p : Option RuleFault) → Best o (Part rule raw rank) → Best p (From rule raw (rank + 1)) → Best (option_or o p) (From rule raw rank)
part_or_later rule raw rank o p here later =
    best_same (option_or o p) (λ f. Part rule raw rank f ⊎ From rule raw (rank + 1) f) (From rule raw rank)
    (best_or o p (Part rule raw rank) (From rule raw (rank + 1)) here later
    (λ f g (rule_f, rank_f, has_f) (rule_g, rank_g, has_g). later_place f g (rule_f ∙ sym rule_g) (omega (arith, rank_f, rank_g))))
    (λ f either. elim either [
      | inl (is_rule, is_rank, has) ↦ (is_rule, omega (arith, is_rank), has)
      | inr (is_rule, more, has) ↦ (is_rule, omega (arith, more), has)
    ])
    (λ f (is_rule, within, has). elim (cases_lt rank (place_rank f.at)) [
      | inl more ↦ inr (is_rule, omega (arith, more), has)
      | inr less ↦ inl (is_rule, omega (arith, within, less), has)
    ])

at_within : (at : Option (Section × ℕ)) → place_rank at ≤ 4
at_within None = omega arith
at_within (Some (s, i)) = (rank_within s).1

last_part : (rule : ℕ) (raw : RawRule) (o : Option RuleFault) → Best o (Part rule raw 4) → Best o (From rule raw 4)
last_part rule raw o best =
    best_same o (Part rule raw 4) (From rule raw 4) best
    (λ f (is_rule, rank, has). (is_rule, omega (arith, rank), has))
    (λ f (is_rule, within, has). (is_rule, omega (arith, within, at_within f.at), has))

rule_best : (rule : ℕ) (raw : RawRule) → Best (rule_fault rule raw) (From rule raw 0)
rule_best rule raw =
    part_or_later rule raw 0 _ _ (subject_best rule raw)
    (part_or_later rule raw 1 _ _ (section_best rule raw section.Ingress)
    (part_or_later rule raw 2 _ _ (section_best rule raw section.IngressDeny)
    (part_or_later rule raw 3 _ _ (section_best rule raw section.Egress)
    (last_part rule raw _ (section_best rule raw section.EgressDeny)))))

-- ---- the policy
abbrev RuleIs : ℕ → RawRule → RuleFault → Type 0
RuleIs n rule f = From n rule 0 f

fault_there : (f : RuleFault) (o : Option RawRule) → option_map_or (λ rule. has_cause f.number (causes_in rule f.at)) o false ≡ true → (rule : RawRule) × (o ≡ Some rule) × (has_cause f.number (causes_in rule f.at) ≡ true)
fault_there f None has = absurd (true≢false (sym has))
fault_there f (Some rule) has = (rule, refl, has)

policy_best : (raw : RawPolicy) → Best (first_fault raw) (λ f. is_fault_of raw f ≡ true)
policy_best raw =
    best_same (first_fault raw) (At RuleIs 0 raw.rules) (λ f. is_fault_of raw f ≡ true)
    (first_best RuleIs rule_fault rule_best (λ m n x y f g less (is_m, _, _) (is_n, _, _). later_rule f g (omega (arith, less, is_m, is_n))) 0 raw.rules)
    (λ f (i, rule, there, (is, _, has)).
    let at : f.rule ≡ i = omega (arith, is) in
    ap (λ o. option_map_or (λ rule. has_cause f.number (causes_in rule f.at)) o false) (ap (slice_get raw.rules) at ∙ there) ∙ has)
    (λ f has.
    let (rule, there, here) = fault_there f (slice_get raw.rules f.rule) has in
    (f.rule, rule, there, (omega arith, omega arith, here)))

refused_by : (raw : RawPolicy) (fault : RuleFault) (o : Option RuleFault) → judged o (policy_of raw) ≡ Err fault → o ≡ Some fault
refused_by raw fault None is = cc
refused_by raw fault (Some found) is = cc

accepted_by : (raw : RawPolicy) (policy : Policy) (o : Option RuleFault) → judged o (policy_of raw) ≡ Ok policy → o ≡ None
accepted_by raw policy None is = refl
accepted_by raw policy (Some found) is = cc

pub refused_first : (raw : RawPolicy) (fault : RuleFault) → sanitized_of raw ≡ Err fault → Best (Some fault) (λ f. is_fault_of raw f ≡ true)
refused_first raw fault is = subst (λ (o : Option RuleFault). Best o (λ f. is_fault_of raw f ≡ true)) (refused_by raw fault (first_fault raw) is) (policy_best raw)

pub accepted_none : (raw : RawPolicy) (policy : Policy) (fault : RuleFault) → sanitized_of raw ≡ Ok policy → is_fault_of raw fault ≡ false
accepted_none raw policy fault is =
    let none = subst (λ (o : Option RuleFault). Best o (λ f. is_fault_of raw f ≡ true)) (accepted_by raw policy (first_fault raw) is) (policy_best raw) in
    false_from_ne_true (is_fault_of raw fault) (none fault)
