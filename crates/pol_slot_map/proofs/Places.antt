-- No two filters of an endpoint have one place: policies differ by their keys, rules and entries by their numbers, and the
-- sections of a rule by direction and kind.
use Rattle.std.proofs.Common.{◌≡◌, ◌≢◌, ℕ, ◌+◌, ◌≤◌, not, Bool, true, false, cond, List, [], ◌∷◌, ◌++◌, map, ◌⊎◌, inl, inr, refl, sym, ap, ◌∙◌, arith}
use Rattle.std.specs.List.{AllByRecursion, AllPairs, IsDistinct}
use Rattle.std.proofs.lemmas.Bool.{both_ways}
use Rattle.std.proofs.lemmas.List.Elements.{All-from_recursion}
use Rattle.std.proofs.lemmas.List.Kept.{AllPairs-cons}
use Rattle.pol_data.proofs.Every.{every-append, every-weaker}
use Rattle.pol_data.proofs.Members.{In, every-in}
use Rattle.pol_labels.specs.declared.label.Label.{Label}
use Rattle.pol_labels.specs.Match.{matches}
use Rattle.pol_ports.specs.declared.Direction.{Direction}
use Rattle.pol_ports.specs.declared.Direction.TheVariants.{Ingress, Egress}
use Rattle.pol_rule.specs.Covers.{has_effect, section_of}
use Rattle.pol_rule.specs.Keys.{same_key}
use Rattle.pol_rule.specs.declared.policy.Entry.{Entry}
use Rattle.pol_rule.specs.declared.policy.Place.{Place}
use Rattle.pol_rule.specs.declared.policy.PolicyKey.{PolicyKey}
use Rattle.pol_rule.specs.declared.policy.Rule.{Rule}
use Rattle.pol_rule.specs.declared.policy.Section.{Section}
use Rattle.pol_model.specs.declared.options.Options.{Options}
use Rattle.pol_model.specs.declared.request.Request.{Request}
use Rattle.pol_model.specs.declared.request.Request.TheVariants.{AddEndpoint, RemoveEndpoint, AddIdentity, RemoveIdentity, Apply, Remove, SetMode}
use Rattle.pol_model.specs.declared.row.Endpoint.{Endpoint}
use Rattle.pol_model.specs.declared.row.Stamped.{Stamped}
use Rattle.pol_model.specs.After.{after, after_all, start, state_of}
use Rattle.pol_model.specs.Enforced.{allow_section, deny_section}
use Rattle.pol_model.specs.Policies.{is_of_key}
use Rattle.pol_model.specs.State.{State}
use Rattle.pol_model_laws.proofs.Distinct.{differ_filtered}
use Rattle.pol_model_laws.proofs.Membership.{map-In}
use Rattle.pol_model_laws.proofs.PolicyHolders.{applied_differ, same_key-Decides}
use Rattle.pol_filters.specs.declared.filter.Filter.{Filter}
use Rattle.pol_filters.specs.Resolved.{entry_filters, filter_at, filters_in, policy_filters, rule_filters}
use Rattle.pol_distill.specs.Distilled.{filters_at}
use Rattle.pol_kept_map.specs.Applies.{PlacesDiffer}

-- ---- by recursion on a list
abbrev AreApart : Filter → Filter → Type 0
AreApart one other = one.place ≢ other.place

abbrev Differ : List Filter → Type 0
Differ [] = Unit {0}
Differ (one ∷ others) = AllByRecursion (AreApart one) others × Differ others

all_pairs : (filters : List Filter) → Differ filters → AllPairs AreApart filters
all_pairs [] differ = λ i j d less below. absurd (omega arith)
all_pairs (one ∷ others) differ = AllPairs-cons AreApart one others (All-from_recursion (AreApart one) others differ.0) (all_pairs others differ.1)

-- filters of two kinds that are apart
joined : (P Q : Filter → Type 0) → ((one other : Filter) → P one → Q other → AreApart one other)
    → (front back : List Filter) → AllByRecursion P front → AllByRecursion Q back → Differ front → Differ back → Differ (front ++ back)
joined P Q apart [] back all each first second = second
joined P Q apart (one ∷ front) back all each first second = (
  every-append (AreApart one) front back first.0 (every-weaker Q (AreApart one) (λ other its. apart one other all.0 its) back each),
  joined P Q apart front back all.1 each first.1 second,
)

chosen : (P : Filter → Type 0) (b : Bool) (one : Filter) (others : List Filter) → P one → AllByRecursion P others → AllByRecursion P (cond b (one ∷ others) others)
chosen P true one others here rest = (here, rest)
chosen P false one others here rest = rest

chosen_differ : (b : Bool) (one : Filter) (others : List Filter) → AllByRecursion (AreApart one) others → Differ others → Differ (cond b (one ∷ others) others)
chosen_differ true one others apart differ = (apart, differ)
chosen_differ false one others apart differ = differ

either : (P : Filter → Type 0) (b : Bool) (front back : List Filter) → AllByRecursion P front → AllByRecursion P back → AllByRecursion P (cond b (front ++ back) back)
either P true front back all each = every-append P front back all each
either P false front back all each = each

either_differ : (b : Bool) (front back : List Filter) → Differ (front ++ back) → Differ back → Differ (cond b (front ++ back) back)
either_differ true front back both second = both
either_differ false front back both second = second

-- ---- the sections of a rule
-- it is one of the direction's
abbrev IsSideOf : Direction → Section → Type 0
IsSideOf dir part = (part ≡ allow_section dir) ⊎ (part ≡ deny_section dir)

kinds_differ : (dir : Direction) → allow_section dir ≡ deny_section dir → ⊥
kinds_differ Ingress same = cc
kinds_differ Egress same = cc

sides_differ : (part : Section) → IsSideOf Ingress part → IsSideOf Egress part → ⊥
sides_differ part (inl a) (inl b) = cc
sides_differ part (inl a) (inr b) = cc
sides_differ part (inr a) (inl b) = cc
sides_differ part (inr a) (inr b) = cc

-- ---- the entries of a section, from this one on
record IsEntryFrom (key : PolicyKey) (number : ℕ) (part : Section) (first : ℕ) (one : Filter) : Type 0 where
  of_key : one.place.key ≡ key
  of_rule : one.place.rule ≡ number
  of_section : one.place.section ≡ part
  from : first ≤ one.place.entry

module _ (stamped : Stamped) (number : ℕ) (part : Section) where
  abbrev FromEntry : ℕ → Filter → Type 0
  FromEntry first = IsEntryFrom stamped.policy.key number part first

  abbrev made : ℕ → List Entry → List Filter
  made first entries = entry_filters (filter_at stamped number part) first entries

  entries_from : (first : ℕ) (entries : List Entry) → AllByRecursion (FromEntry first) (made first entries)
  entries_from first [] = tt
  entries_from first (entry ∷ others) =
      let itself : first ≤ first = omega arith in
      chosen (FromEntry first) (has_effect entry) (filter_at stamped number part first entry) (made (first + 1) others)
      (record { of_key = refl; of_rule = refl; of_section = refl; from = itself })
      (every-weaker (FromEntry (first + 1)) (FromEntry first)
      (λ one is. record { of_key = is.of_key; of_rule = is.of_rule; of_section = is.of_section; from = let from = is.from in omega (arith, from) })
      (made (first + 1) others) (entries_from (first + 1) others))

  entries_differ : (first : ℕ) (entries : List Entry) → Differ (made first entries)
  entries_differ first [] = tt
  entries_differ first (entry ∷ others) =
      chosen_differ (has_effect entry) (filter_at stamped number part first entry) (made (first + 1) others)
      (every-weaker (FromEntry (first + 1)) (AreApart (filter_at stamped number part first entry))
      (λ one is same. let at : first ≡ one.place.entry = ap (λ (p : Place). p.entry) same in let from = is.from in omega (arith, at, from))
      (made (first + 1) others) (entries_from (first + 1) others))
      (entries_differ (first + 1) others)

-- ---- the rules of a policy, from this one on
record IsOfRule (dir : Direction) (key : PolicyKey) (number : ℕ) (one : Filter) : Type 0 where
  of_key : one.place.key ≡ key
  of_rule : one.place.rule ≡ number
  side : IsSideOf dir one.place.section

record IsRuleFrom (dir : Direction) (key : PolicyKey) (first : ℕ) (one : Filter) : Type 0 where
  of_key : one.place.key ≡ key
  from : first ≤ one.place.rule
  side : IsSideOf dir one.place.section

module _ (stamped : Stamped) (dir : Direction) where
  abbrev of_part : Section → ℕ → Rule → List Filter
  of_part part number rule = made stamped number part 0 (section_of part rule)

  rule_is : (number : ℕ) (rule : Rule) → AllByRecursion (IsOfRule dir stamped.policy.key number) (rule_filters stamped dir number rule)
  rule_is number rule =
      every-append (IsOfRule dir stamped.policy.key number) (of_part (allow_section dir) number rule) (of_part (deny_section dir) number rule)
      (every-weaker (FromEntry stamped number (allow_section dir) 0) (IsOfRule dir stamped.policy.key number)
      (λ one is. record { of_key = is.of_key; of_rule = is.of_rule; side = inl is.of_section })
      (of_part (allow_section dir) number rule) (entries_from stamped number (allow_section dir) 0 (section_of (allow_section dir) rule)))
      (every-weaker (FromEntry stamped number (deny_section dir) 0) (IsOfRule dir stamped.policy.key number)
      (λ one is. record { of_key = is.of_key; of_rule = is.of_rule; side = inr is.of_section })
      (of_part (deny_section dir) number rule) (entries_from stamped number (deny_section dir) 0 (section_of (deny_section dir) rule)))

  rule_differs : (number : ℕ) (rule : Rule) → Differ (rule_filters stamped dir number rule)
  rule_differs number rule =
      joined (FromEntry stamped number (allow_section dir) 0) (FromEntry stamped number (deny_section dir) 0)
      (λ one other is its same. kinds_differ dir (sym is.of_section ∙ ap (λ (p : Place). p.section) same ∙ its.of_section))
      (of_part (allow_section dir) number rule) (of_part (deny_section dir) number rule)
      (entries_from stamped number (allow_section dir) 0 (section_of (allow_section dir) rule))
      (entries_from stamped number (deny_section dir) 0 (section_of (deny_section dir) rule))
      (entries_differ stamped number (allow_section dir) 0 (section_of (allow_section dir) rule))
      (entries_differ stamped number (deny_section dir) 0 (section_of (deny_section dir) rule))

  module _ (labels : List Label) where
    abbrev FromRule : ℕ → Filter → Type 0
    FromRule first = IsRuleFrom dir stamped.policy.key first

    abbrev of_rules : ℕ → List Rule → List Filter
    of_rules first rules = policy_filters stamped labels dir first rules

    rules_from : (first : ℕ) (rules : List Rule) → AllByRecursion (FromRule first) (of_rules first rules)
    rules_from first [] = tt
    rules_from first (rule ∷ others) =
        either (FromRule first) (matches rule.subject labels) (rule_filters stamped dir first rule) (of_rules (first + 1) others)
        (every-weaker (IsOfRule dir stamped.policy.key first) (FromRule first)
        (λ one is. record { of_key = is.of_key; from = let at = is.of_rule in omega (arith, at); side = is.side })
        (rule_filters stamped dir first rule) (rule_is first rule))
        (every-weaker (FromRule (first + 1)) (FromRule first)
        (λ one is. record { of_key = is.of_key; from = let from = is.from in omega (arith, from); side = is.side })
        (of_rules (first + 1) others) (rules_from (first + 1) others))

    rules_differ : (first : ℕ) (rules : List Rule) → Differ (of_rules first rules)
    rules_differ first [] = tt
    rules_differ first (rule ∷ others) =
        either_differ (matches rule.subject labels) (rule_filters stamped dir first rule) (of_rules (first + 1) others)
        (joined (IsOfRule dir stamped.policy.key first) (FromRule (first + 1))
        (λ one other is its same.
        let at : one.place.rule ≡ other.place.rule = ap (λ (p : Place). p.rule) same in
        let here = is.of_rule in
        let from = its.from in
        omega (arith, at, here, from))
        (rule_filters stamped dir first rule) (of_rules (first + 1) others)
        (rule_is first rule) (rules_from (first + 1) others) (rule_differs first rule) (rules_differ (first + 1) others))
        (rules_differ (first + 1) others)

-- ---- all policies
abbrev AllKeysDiffer : List Stamped → Type 0
AllKeysDiffer policies = IsDistinct same_key (map (λ stamped. stamped.policy.key) policies)

record IsOfSome (dir : Direction) (policies : List Stamped) (one : Filter) : Type 0 where
  stamped : Stamped
  there : In stamped policies
  of_key : one.place.key ≡ stamped.policy.key
  side : IsSideOf dir one.place.section

module _ (labels : List Label) (dir : Direction) where
  policies_are : (policies : List Stamped) → AllByRecursion (IsOfSome dir policies) (filters_in policies labels dir)
  policies_are [] = tt
  policies_are (stamped ∷ others) =
      every-append (IsOfSome dir (stamped ∷ others)) (policy_filters stamped labels dir 0 stamped.policy.rules) (filters_in others labels dir)
      (every-weaker (IsRuleFrom dir stamped.policy.key 0) (IsOfSome dir (stamped ∷ others))
      (λ one is. record { stamped = stamped; there = inl refl; of_key = is.of_key; side = is.side })
      (policy_filters stamped labels dir 0 stamped.policy.rules) (rules_from stamped dir labels 0 stamped.policy.rules))
      (every-weaker (IsOfSome dir others) (IsOfSome dir (stamped ∷ others))
      (λ one is. record { stamped = is.stamped; there = inr is.there; of_key = is.of_key; side = is.side })
      (filters_in others labels dir) (policies_are others))

  other_key : (key : PolicyKey) (others : List Stamped) → AllByRecursion (λ k. same_key key k ≡ false) (map (λ s. s.policy.key) others)
      → (stamped : Stamped) → In stamped others → key ≡ stamped.policy.key → ⊥
  other_key key others none stamped there same =
      both_ways (same_key key stamped.policy.key)
      (every-in (λ k. same_key key k ≡ false) (map (λ s. s.policy.key) others) none stamped.policy.key (map-In (λ (s : Stamped). s.policy.key) stamped others there))
      ((same_key-Decides key stamped.policy.key).1 same)

  policies_differ : (policies : List Stamped) → AllKeysDiffer policies → Differ (filters_in policies labels dir)
  unfolding IsDistinct
  policies_differ [] differ = tt
  policies_differ (stamped ∷ others) differ =
      joined (IsRuleFrom dir stamped.policy.key 0) (IsOfSome dir others)
      (λ one other is its same. other_key stamped.policy.key others differ.0 its.stamped its.there (sym is.of_key ∙ ap (λ (p : Place). p.key) same ∙ its.of_key))
      (policy_filters stamped labels dir 0 stamped.policy.rules) (filters_in others labels dir)
      (rules_from stamped dir labels 0 stamped.policy.rules) (policies_are others)
      (rules_differ stamped dir labels 0 stamped.policy.rules) (policies_differ others differ.1)

-- ---- the filters of an endpoint
places_apart : (options : Options) (s : State) (endpoint : Endpoint) → AllKeysDiffer s.policies → PlacesDiffer (filters_at options s endpoint)
places_apart options s endpoint differ =
    all_pairs (filters_in s.policies endpoint.labels Ingress ++ filters_in s.policies endpoint.labels Egress)
    (joined (IsOfSome Ingress s.policies) (IsOfSome Egress s.policies)
    (λ one other is its same.
    sides_differ other.place.section (subst_side (ap (λ (p : Place). p.section) same) is.side) its.side)
    (filters_in s.policies endpoint.labels Ingress) (filters_in s.policies endpoint.labels Egress)
    (policies_are endpoint.labels Ingress s.policies) (policies_are endpoint.labels Egress s.policies)
    (policies_differ endpoint.labels Ingress s.policies differ) (policies_differ endpoint.labels Egress s.policies differ))
  where
    subst_side : {a b : Section} → a ≡ b → IsSideOf Ingress a → IsSideOf Ingress b
    subst_side same (inl is) = inl (sym same ∙ is)
    subst_side same (inr is) = inr (sym same ∙ is)

-- ---- in each state the keys of policies differ
keys_after : (s : State) (request : Request) → AllKeysDiffer s.policies → AllKeysDiffer (after s request).policies
keys_after s (AddEndpoint name labels address) differ = differ
keys_after s (RemoveEndpoint name) differ = differ
keys_after s (AddIdentity name labels) differ = differ
keys_after s (RemoveIdentity name) differ = differ
keys_after s (Apply policy) differ = applied_differ (record { policy = policy; stamp = s.revision + 1 }) s.policies differ
keys_after s (Remove key) differ = differ_filtered (λ p. p.policy.key) same_key-Decides (λ p. not (is_of_key key p)) s.policies differ
keys_after s (SetMode mode) differ = differ

keys_after_all : (s : State) (requests : List Request) → AllKeysDiffer s.policies → AllKeysDiffer (after_all s requests).policies
keys_after_all s [] differ = differ
keys_after_all s (request ∷ requests) differ = keys_after_all (after s request) requests (keys_after s request differ)

none_differ : AllKeysDiffer []
unfolding IsDistinct
none_differ = tt

pub places_differ : (options : Options) (requests : List Request) (endpoint : Endpoint) → PlacesDiffer (filters_at options (state_of options requests) endpoint)
places_differ options requests endpoint =
    places_apart options (state_of options requests) endpoint (keys_after_all (start options) requests none_differ)
