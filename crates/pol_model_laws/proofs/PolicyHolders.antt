-- How many policies name a prefix, after one is applied or removed.
use Rattle.std.proofs.Common.{◌≡◌, ℕ, ◌+◌, ◌&&◌, Bool, true, false, not, cond, List, [], ◌∷◌, ◌++◌, map, filter, Option, None, Some, inl, inr, refl, sym, ap, ◌∙◌, subst, arith, map-id}
use Rattle.std.specs.Bool.{Decides, beq}
use Rattle.std.specs.Cmp.{booleans_Decides}
use Rattle.std.specs.Cmp.Lexicographic.{bytes_decides}
use Rattle.std.specs.List.{IsDistinct, flat_map, list_any, sum_by}
use Rattle.std.specs.Str.{bytes_eq}
use Rattle.std.proofs.lemmas.Bool.{and_from, and_parts, both_ways, cases_Bool, eqb-true, eq-eqb, false_from_ne_true, not-true, or_parts}
use Rattle.std.proofs.lemmas.List.Sums.{sum_by-cons}
use Rattle.pol_addr.specs.declared.network.Prefix.{Prefix}
use Rattle.pol_addr.specs.Prefix.{same_prefix}
use Rattle.pol_rule.specs.declared.policy.Policy.{Policy}
use Rattle.pol_rule.specs.declared.policy.PolicyKey.{PolicyKey}
use Rattle.pol_rule.specs.Keys.{same_key}
use Rattle.pol_rule.specs.Listed.{listed_peers}
use Rattle.pol_rule.specs.Prefixes.{distinct, peer_prefixes, policy_prefixes}
use Rattle.pol_model.specs.declared.row.Stamped.{Stamped}
use Rattle.pol_model_laws.specs.Keeps.{names_prefix}
use Rattle.pol_model.specs.Policies.{is_of_key, policy_at, applied, prefixes_of}
use Rattle.pol_model.specs.Prefixes.{has_prefix}
use Rattle.pol_model_laws.proofs.Distinct.{differ_filtered, differ_inserted, differ_pushed, counted_once}
use Rattle.pol_model_laws.proofs.Ledger.{same_prefix-is}
use Rattle.pol_model_laws.proofs.Membership.{In-filter, In-list_any}
use Rattle.pol_model_laws.proofs.PrefixHolders.{times, same_prefix-itself, same_prefix-turned}

-- the tests decide equality
pub same_prefix-Decides : (a b : Prefix) → Decides (same_prefix a b) (a ≡ b)
same_prefix-Decides a b = (same_prefix-is a b, λ same. subst (λ c. same_prefix a c ≡ true) same (same_prefix-itself a))

pub same_key-Decides : (a b : PolicyKey) → Decides (same_key a b) (a ≡ b)
same_key-Decides a b = (to, λ same. subst (λ c. same_key a c ≡ true) same itself)
  where
    to : same_key a b ≡ true → a ≡ b
    to same =
        let first = and_parts (beq a.cluster_wide b.cluster_wide && bytes_eq a.namespace b.namespace) (bytes_eq a.name b.name) same in
        let kind = and_parts (beq a.cluster_wide b.cluster_wide) (bytes_eq a.namespace b.namespace) first.0 in
        let cluster_wide = (booleans_Decides a.cluster_wide b.cluster_wide).0 kind.0 in
        let namespace = (bytes_decides a.namespace b.namespace).0 kind.1 in
        let name = (bytes_decides a.name b.name).0 first.1 in
        λ i. record { cluster_wide = cluster_wide i; namespace = namespace i; name = name i }

    itself : same_key a a ≡ true
    itself =
        and_from _ _ (and_from _ _ ((booleans_Decides a.cluster_wide a.cluster_wide).1 refl) ((bytes_decides a.namespace a.namespace).1 refl))
        ((bytes_decides a.name a.name).1 refl)

-- a policy's prefixes differ
none_left : (prefix : Prefix) (others : List Prefix) → list_any (λ other. same_prefix other prefix) (filter (λ other. not (same_prefix prefix other)) others) ≡ false
none_left prefix others =
    false_from_ne_true (list_any (λ other. same_prefix other prefix) (filter (λ other. not (same_prefix prefix other)) others)) (λ some.
    let one = In-list_any (λ other. same_prefix other prefix) (filter (λ other. not (same_prefix prefix other)) others) some in
    let kept = In-filter (λ other. not (same_prefix prefix other)) one.0 others one.1 in
    both_ways (same_prefix prefix one.0) (not-true (same_prefix prefix one.0) kept.1) (same_prefix-turned prefix one.0 ∙ one.2))

distinct_differ : (prefixes : List Prefix) → IsDistinct same_prefix (map (λ p. p) (distinct prefixes))
unfolding IsDistinct
distinct_differ [] = tt
distinct_differ (prefix ∷ others) =
    differ_inserted (λ p. p) same_prefix-Decides prefix 0 (filter (λ other. not (same_prefix prefix other)) (distinct others))
    (none_left prefix (distinct others))
    (differ_filtered (λ p. p) same_prefix-Decides (λ other. not (same_prefix prefix other)) (distinct others) (distinct_differ others))

pub policy_differ : (policy : Policy) → IsDistinct same_prefix (policy_prefixes policy)
policy_differ policy = subst (IsDistinct same_prefix) (map-id (policy_prefixes policy)) (distinct_differ (flat_map peer_prefixes (listed_peers policy)))

-- so a policy holds each prefix that it names once
times_none : (prefixes : List Prefix) → times prefixes None ≡ 0
times_none [] = refl
times_none (prefix ∷ others) = sum_by-cons (λ prefix. cond (has_prefix prefix None) 1 0) prefix others ∙ omega (arith, times_none others)

list_any_same : {X : Type 0} (p q : X → Bool) (xs : List X) → ((x : X) → p x ≡ q x) → list_any p xs ≡ list_any q xs
list_any_same p q xs same = λ i. list_any (λ x. same x i) xs

-- one more where the policy names the prefix
abbrev pub one_policy : Option Prefix → Stamped → ℕ
one_policy own stamped = cond (names_prefix own stamped) 1 0

pub times_once : (own : Option Prefix) (stamped : Stamped) → times (policy_prefixes stamped.policy) own ≡ one_policy own stamped
times_once None stamped = times_none (policy_prefixes stamped.policy)
times_once (Some prefix) stamped =
    counted_once (λ p. p) same_prefix-Decides prefix (policy_prefixes stamped.policy) (distinct_differ (flat_map peer_prefixes (listed_peers stamped.policy)))
    ∙ ap (λ b. cond b 1 0) (list_any_same (λ p. same_prefix p prefix) (same_prefix prefix) (policy_prefixes stamped.policy) (λ p. same_prefix-turned p prefix))

-- of the policy that is there, if any
abbrev pub sum_at : (Stamped → ℕ) → Option Stamped → ℕ
sum_at f None = 0
sum_at f (Some stamped) = f stamped

pub times_at : (own : Option Prefix) (o : Option Stamped) → times (prefixes_of o) own ≡ sum_at (one_policy own) o
times_at own None = refl
times_at own (Some stamped) = times_once own stamped

-- a policy that is applied takes the place of that of its key
pub applied_sum : (f : Stamped → ℕ) (new : Stamped) (policies : List Stamped) → sum_by f (applied new policies) + sum_at f (policy_at new.policy.key policies) ≡ sum_by f policies + f new
applied_sum f new [] = omega arith
applied_sum f new (old ∷ others) =
    elim (cases_Bool (is_of_key new.policy.key old)) [
      | inl same ↦ rw same (omega (arith, sum_by-cons f new others, sum_by-cons f old others))
      | inr other ↦ rw other (omega (arith, sum_by-cons f old (applied new others), sum_by-cons f old others, applied_sum f new others))
    ]

-- the keys differ still
applied_new : (new : Stamped) (policies : List Stamped) → list_any (is_of_key new.policy.key) policies ≡ false → applied new policies ≡ policies ++ new ∷ []
applied_new new [] none = refl
applied_new new (old ∷ others) none =
    let parts = or_parts (is_of_key new.policy.key old) _ none in
    let rest = applied_new new others parts.1 in
    rw (parts.0, rest) refl

applied_old : (new : Stamped) (policies : List Stamped) → list_any (is_of_key new.policy.key) policies ≡ true → map (λ s. s.policy.key) (applied new policies) ≡ map (λ s. s.policy.key) policies
applied_old new [] some = absurd cc
applied_old new (old ∷ others) some =
    elim (cases_Bool (is_of_key new.policy.key old)) [
      | inl same ↦
          let key = (same_key-Decides old.policy.key new.policy.key).0 same in
          rw same (ap (λ k. k ∷ map (λ s. s.policy.key) others) (sym key))
      | inr other ↦
          let later : list_any (is_of_key new.policy.key) others ≡ true = rw other at some in
          let rest = applied_old new others later in
          rw other (ap (λ keys. old.policy.key ∷ keys) rest)
    ]

pub applied_differ : (new : Stamped) (policies : List Stamped) → IsDistinct same_key (map (λ s. s.policy.key) policies) → IsDistinct same_key (map (λ s. s.policy.key) (applied new policies))
applied_differ new policies differ =
    elim (cases_Bool (list_any (is_of_key new.policy.key) policies)) [
      | inl some ↦ subst (IsDistinct same_key) (sym (applied_old new policies some)) differ
      | inr none ↦
          subst (λ list. IsDistinct same_key (map (λ s. s.policy.key) list)) (sym (applied_new new policies none))
          (differ_pushed (λ s. s.policy.key) same_key-Decides new policies none differ)
    ]
