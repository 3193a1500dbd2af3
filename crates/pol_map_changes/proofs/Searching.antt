-- A binary search by keys, in a list of changes.
use Rattle.std.proofs.Common.{zero, suc, ◌≡◌, ℕ, ◌<◌, ◌≤◌, Bool, true, false, cond, List, [], ◌∷◌, length, get_or, Some, is_some, Result, Ok, Err, inl, inr, refl, sym, ◌∙◌, ap, subst, arith}
use Rattle.std.proofs.lemmas.Bool.{cases_lt}
use Rattle.std.proofs.lemmas.Cmp.{tied_itself}
use Rattle.std.proofs.lemmas.List.Elements.{All-from_recursion}
use Rattle.std.specs.List.Sorted.{IsBinarySearchResult, IsNonDecreasingBy, IsSearchInRange, IsStrictlySortedBy}
use Rattle.std.specs.Ordering.{eq_by_cmp, is_eq, ordering_index, ordering_reverse}
use Rattle.std.specs.declared.cmp.Ordering.{Ordering}
use Rattle.std.specs.declared.cmp.Ordering.TheVariants.{Less, Equal, Greater}
use Rattle.pol_mapkey.specs.MapKey.{key_cmp}
use Rattle.pol_mapkey.specs.declared.MapKey.{MapKey}
use Rattle.pol_mapkey.specs.contracts.MapKeyOrd.TheImpl as key_ord
use Rattle.pol_mapkey.proofs.Order.{cmp-key_cmp}
use Rattle.pol_mapkey.proofs.KeyOrder.{key_cmp_total, key_cmp-same}
use Rattle.pol_map_changes.specs.declared.change.Change.{Change}
use Rattle.pol_map_changes.specs.Changes.{IsAscending, change_order, key_of, kind_after, said}
use Rattle.pol_map_changes.proofs.Said.{same_of}

-- of two keys in order the first compares no later with a third
compare_rises : (x y k : MapKey) → key_cmp x y ≡ Less → ordering_index (key_cmp x k) ≤ ordering_index (key_cmp y k)
compare_rises x y k less = by_both (key_cmp x k) (key_cmp y k) refl refl
  where
    behind : key_cmp y x ≡ Less → ⊥
    behind e = let wrong : Less ≡ Greater = sym less ∙ (key_cmp_total.antisymm x y ∙ ap ordering_reverse e) in cc

    by_both : (a b : Ordering) → key_cmp x k ≡ a → key_cmp y k ≡ b → ordering_index a ≤ ordering_index b
    by_both Less b e f = omega arith
    by_both Equal Less e f = absurd (behind (ap (key_cmp y) (key_cmp-same x k e) ∙ f))
    by_both Equal Equal e f = omega arith
    by_both Equal Greater e f = omega arith
    by_both Greater Less e f =
        absurd (behind (key_cmp_total.trans y k x f (key_cmp_total.antisymm k x ∙ ap ordering_reverse e)))
    by_both Greater Equal e f = absurd (let wrong : Greater ≡ Less = sym e ∙ ap (key_cmp x) (sym (key_cmp-same y k f)) ∙ less in cc)
    by_both Greater Greater e f = omega arith

-- so the comparisons with a key rise along a list
comparisons_rise : (k : MapKey) (cs : List Change) → IsAscending cs → IsNonDecreasingBy (λ (c : Change). ordering_index (key_cmp (key_of c) k)) cs
unfolding IsStrictlySortedBy
comparisons_rise k [] up i j d le within = absurd (omega arith)
comparisons_rise k (c ∷ cs) up zero zero d le within = omega arith
comparisons_rise k (c ∷ cs) up zero (suc j) d le within =
    compare_rises (key_of c) (key_of (get_or cs j d)) k (All-from_recursion (λ (e : Change). change_order c e ≡ Less) cs up.0 j d (omega arith))
comparisons_rise k (c ∷ cs) up (suc i) zero d le within = absurd (omega arith)
comparisons_rise k (c ∷ cs) up (suc i) (suc j) d le within = comparisons_rise k cs up.1 i j d (omega arith) (omega arith)

-- what a change's key compares to
derived : (c : Change) (k : MapKey) → key_ord.ghosts.cmp (key_of c) k ≡ key_cmp (key_of c) k
derived c k = cmp-key_cmp (key_of c) k

-- a key that stands at a place is said, and one that stands at none isn't
says_at : (k : MapKey) (cs : List Change) (i : ℕ) (d : Change) → i < length cs → key_of (get_or cs i d) ≡ k → true ≡ is_some (said cs k)
says_at k [] i d within is = absurd (omega arith)
says_at k (c ∷ cs) zero d within is =
    ap (λ b. is_some (cond b (Some (kind_after c)) (said cs k)))
    (sym (ap (λ x. eq_by_cmp key_cmp k x) is ∙ ap is_eq (tied_itself key_cmp_total k)))
says_at k (c ∷ cs) (suc i) d within is =
    elim (eq_by_cmp key_cmp k (key_of c)) as (λ b. true ≡ is_some (cond b (Some (kind_after c)) (said cs k))) [
      | true ↦ refl
      | false ↦ says_at k cs i d (omega arith) is
    ]

says_none : (k : MapKey) (cs : List Change) → ((i : ℕ) (d : Change) → i < length cs → key_of (get_or cs i d) ≡ k → ⊥) → false ≡ is_some (said cs k)
says_none k [] none = refl
says_none k (c ∷ cs) none = by (eq_by_cmp key_cmp k (key_of c)) refl (says_none k cs (λ i d within is. none (suc i) d (omega arith) is))
  where
    by : (b : Bool) → eq_by_cmp key_cmp k (key_of c) ≡ b → false ≡ is_some (said cs k) → false ≡ is_some (cond b (Some (kind_after c)) (said cs k))
    by true tie rest = absurd (none 0 c (omega arith) (sym (same_of k (key_of c) tie)))
    by false tie rest = rest

-- the search ends at the key, or no change is of it
abbrev found : Result ℕ ℕ → Bool
found (Ok place) = true
found (Err place) = false

pub searched : (cs : List Change) → IsAscending cs → (k : MapKey) (r : Result ℕ ℕ) → IsSearchInRange r (length cs)
    → IsBinarySearchResult (λ (c : Change). key_ord.ghosts.cmp (key_of c) k) cs r → found r ≡ is_some (said cs k)
searched [] up k (Ok i) within at = absurd (omega arith)
searched (c ∷ cs) up k (Ok i) within at =
    let place = get_or (c ∷ cs) i c in
    says_at k (c ∷ cs) i c within (key_cmp-same (key_of place) k (sym (derived place k) ∙ at c))
searched cs up k (Err i) within parted =
    let rises : IsNonDecreasingBy (λ (c : Change). ordering_index (key_ord.ghosts.cmp (key_of c) k)) cs = λ m n d le below.
    subst (λ a. a ≤ ordering_index (key_ord.ghosts.cmp (key_of (get_or cs n d)) k)) (sym (ap ordering_index (derived (get_or cs m d) k)))
    (subst (λ b. ordering_index (key_cmp (key_of (get_or cs m d)) k) ≤ b) (sym (ap ordering_index (derived (get_or cs n d) k))) (comparisons_rise k cs up m n d le below)) in
    let sides = parted rises in
    says_none k cs (λ j d below is.
    let at : key_ord.ghosts.cmp (key_of (get_or cs j d)) k ≡ Equal =
    derived (get_or cs j d) k ∙ ap (λ x. key_cmp x k) is ∙ tied_itself key_cmp_total k in
    elim (cases_lt j i) [
      | inl before ↦ (let wrong : Less ≡ Equal = sym (sides.0 j d (omega arith) before) ∙ at in cc)
      | inr after ↦ (let wrong : Greater ≡ Equal = sym (sides.1 j d after below) ∙ at in cc)
    ])
