-- The canonical map of entries in the order of their keys, by one pass over them.
use Rattle.std.proofs.Common.{◌≡◌, ◌<◌, ◌^◌, Bool, true, false, not, cond, ◌&&◌, List, [], ◌∷◌, Option, None, filter, refl, sym, ◌∙◌, ap, subst}
use Rattle.std.proofs.lemmas.Bool.{and_from, and_parts}
use Rattle.std.proofs.lemmas.List.Sorted.{Contains-permutation, IsPermutation-sym}
use Rattle.std.specs.List.{AllByRecursion}
use Rattle.std.specs.List.Sorted.{IsPermutation}
use Rattle.pol_data.proofs.Every.{every-contained}
use Rattle.pol_data.proofs.Members.{Contains-from_In, every-from_in}
use Rattle.pol_mapkey.specs.Entries.{Entry, is_deny}
use Rattle.pol_mapkey.specs.MapKey.{same_key, strictly_covers}
use Rattle.pol_mapkey.specs.declared.Kind.TheVariants.{Deny}
use Rattle.pol_mapkey.specs.declared.MapKey.{MapKey}
use Rattle.pol_mapkey.proofs.Equality.{same_key-is, same_key-self}
use Rattle.pol_model.specs.PolicyMap.{canonical, is_under_deny, merged}
use Rattle.pol_model_laws.proofs.Canonical.{canonical_ascends, canonical_same}
use Rattle.pol_model_laws.proofs.Merged.{any_from, denies_key, merged_ascends, merged_has, merged_key, merged_kind, passing}
use Rattle.pol_distill.specs.Passing.{Rises, begins_with, is_covered, last_deny}
use Rattle.pol_distill.specs.Sorted.{IsSmall, IsTable}
use Rattle.pol_distill.proofs.Joined.{joined, joined_is}
use Rattle.pol_distill.proofs.Swept.{swept, swept_is}

-- one entry further on
pub one_turn : (deny : Option MapKey) (x : Entry) (rest : List Entry) → swept deny (joined (x ∷ rest))
    ≡ cond (not (begins_with x.0 rest) && not (is_covered deny x.0)) (x ∷ swept (last_deny deny x) (joined rest)) (swept deny (joined rest))
one_turn deny x rest = by_both (begins_with x.0 rest) (is_covered deny x.0) refl
  where
    by_both : (a b : Bool) → is_covered deny x.0 ≡ b → swept deny (cond a (joined rest) (x ∷ joined rest))
        ≡ cond (not a && not b) (x ∷ swept (last_deny deny x) (joined rest)) (swept deny (joined rest))
    by_both true b e = refl
    by_both false true e = ap (λ c. cond c (swept deny (joined rest)) (x ∷ swept (last_deny deny x) (joined rest))) e
    by_both false false e = ap (λ c. cond c (swept deny (joined rest)) (x ∷ swept (last_deny deny x) (joined rest))) e

-- what lies under a deny of some entries lies under one of others that deny the same keys
under_too : (xs ys : List Entry) → ((key : MapKey) → denies_key key xs ≡ denies_key key ys) → (e : Entry) → is_under_deny xs e ≡ true → is_under_deny ys e ≡ true
under_too xs ys same e t =
    let one = passing (λ (o : Entry). is_deny o.1 && strictly_covers o.0 e.0) xs t in
    let both = and_parts (is_deny one.0.1) (strictly_covers one.0.0 e.0) one.2 in
    let there = any_from (λ (o : Entry). is_deny o.1 && same_key o.0 one.0.0) xs one.0 one.1 (and_from _ _ both.0 (same_key-self one.0.0)) in
    let other = passing (λ (o : Entry). is_deny o.1 && same_key o.0 one.0.0) ys (sym (same one.0.0) ∙ there) in
    let two = and_parts (is_deny other.0.1) (same_key other.0.0 one.0.0) other.2 in
    any_from (λ (o : Entry). is_deny o.1 && strictly_covers o.0 e.0) ys other.0 other.1
    (and_from _ _ two.0 (ap (λ k. strictly_covers k e.0) (same_key-is other.0.0 one.0.0 two.1) ∙ both.1))

same_test : (x y : Bool) → (x ≡ true → y ≡ true) → (y ≡ true → x ≡ true) → x ≡ y
same_test true y to back = sym (to refl)
same_test false true to back = back refl
same_test false false to back = refl

-- the merged entries deny the keys that the raw ones deny
merged_denies : (raw : List Entry) (key : MapKey) → denies_key key (merged raw) ≡ denies_key key raw
merged_denies raw key = same_test (denies_key key (merged raw)) (denies_key key raw) from_merged to_merged
  where
    from_merged : denies_key key (merged raw) ≡ true → denies_key key raw ≡ true
    from_merged t =
        let one = passing (λ (o : Entry). is_deny o.1 && same_key o.0 key) (merged raw) t in
        let both = and_parts (is_deny one.0.1) (same_key one.0.0 key) one.2 in
        ap (λ k. denies_key k raw) (sym (same_key-is one.0.0 key both.1)) ∙ merged_kind raw one.0 one.1 ∙ both.0

    to_merged : denies_key key raw ≡ true → denies_key key (merged raw) ≡ true
    to_merged t =
        let one = passing (λ (o : Entry). is_deny o.1 && same_key o.0 key) raw t in
        let both = and_parts (is_deny one.0.1) (same_key one.0.0 key) one.2 in
        let has = any_from (λ (o : Entry). same_key o.0 key) raw one.0 one.1 both.1 in
        any_from (λ (o : Entry). is_deny o.1 && same_key o.0 key) (merged raw) (key, Deny) (merged_has raw (key, Deny) has t) (same_key-self key)

under_merged : (raw : List Entry) (e : Entry) → is_under_deny (merged raw) e ≡ is_under_deny raw e
under_merged raw e =
    same_test (is_under_deny (merged raw) e) (is_under_deny raw e) (under_too (merged raw) raw (merged_denies raw) e)
    (under_too raw (merged raw) (λ key. sym (merged_denies raw key)) e)

filter_same : {X : Type 0} (p q : X → Bool) → ((x : X) → p x ≡ q x) → (xs : List X) → filter p xs ≡ filter q xs
filter_same p q same [] = refl
filter_same p q same (x ∷ xs) = λ i. cond (same x i) (x ∷ filter_same p q same xs i) (filter_same p q same xs i)

merged_small : (raw : List Entry) → AllByRecursion IsSmall raw → AllByRecursion IsSmall (merged raw)
merged_small raw small =
    every-from_in IsSmall (merged raw) (λ e there.
    let one = passing (λ (o : Entry). same_key o.0 e.0) raw (merged_key raw e (Contains-from_In (merged raw) e there)) in
    let Small : MapKey → Type 0 = λ k. k.port.bits < 2 ^ 16 in
    subst Small (same_key-is one.0.0 e.0 one.2) (every-contained IsSmall raw one.0 small one.1))

-- the pass over entries that rise gives their canonical map
pub pass_is : (sorted : List Entry) → Rises sorted → AllByRecursion IsSmall sorted → swept None (joined sorted) ≡ canonical sorted
pass_is sorted up small =
    ap (swept None) (sym (joined_is sorted up))
    ∙ swept_is (merged sorted) (merged_ascends sorted) (merged_small sorted small)
    ∙ filter_same (λ e. not (is_under_deny (merged sorted) e)) (λ e. not (is_under_deny sorted e)) (λ e. ap not (under_merged sorted e)) (merged sorted)

-- a sort changes neither the canonical map nor which ports are there
pub permuted : (raw sorted : List Entry) → IsPermutation raw sorted → canonical sorted ≡ canonical raw
permuted raw sorted moved =
    canonical_same sorted raw (λ e. (Contains-permutation sorted raw e (IsPermutation-sym raw sorted moved), Contains-permutation raw sorted e moved))

pub permuted_small : (raw sorted : List Entry) → IsPermutation raw sorted → AllByRecursion IsSmall raw → AllByRecursion IsSmall sorted
permuted_small raw sorted moved small =
    every-from_in IsSmall sorted (λ e there.
    every-contained IsSmall raw e small (Contains-permutation sorted raw e (IsPermutation-sym raw sorted moved) (Contains-from_In sorted e there)))

-- the canonical map of raw entries is a table
pub canonical_is_table : (raw : List Entry) → IsTable (canonical raw)
canonical_is_table raw = canonical_ascends raw
