-- A binary search by keys, in a table.
use Rattle.std.proofs.Common.{zero, suc, ◌≡◌, ℕ, ◌<◌, ◌≤◌, List, [], ◌∷◌, length, get_or, Result, Ok, Err, MatchResult, inl, inr, refl, sym, ◌∙◌, ap, subst, arith}
use Rattle.std.proofs.lemmas.Bool.{cases_lt}
use Rattle.std.proofs.lemmas.Cmp.{tied_itself}
use Rattle.std.proofs.lemmas.List.{get_or_default}
use Rattle.std.proofs.lemmas.List.Elements.{All-from_recursion}
use Rattle.std.specs.List.{Contains}
use Rattle.std.specs.List.Sorted.{IsBinarySearchResult, IsNonDecreasingBy, IsSearchInRange, IsStrictlySortedBy}
use Rattle.std.specs.Ordering.{ordering_index, ordering_reverse}
use Rattle.std.specs.declared.cmp.Ordering.{Ordering}
use Rattle.std.specs.declared.cmp.Ordering.TheVariants.{Less, Equal, Greater}
use Rattle.pol_mapkey.specs.Entries.{Entry}
use Rattle.pol_mapkey.specs.MapKey.{key_cmp}
use Rattle.pol_mapkey.specs.declared.Kind.{Kind}
use Rattle.pol_mapkey.specs.declared.MapKey.{MapKey}
use Rattle.pol_mapkey.specs.contracts.MapKeyOrd.TheImpl as key_ord
use Rattle.pol_mapkey.proofs.Order.{cmp-key_cmp}
use Rattle.pol_mapkey.proofs.KeyOrder.{key_cmp_total, key_cmp-same}
use Rattle.pol_distill.specs.Sorted.{IsTable, entry_order}

-- of two keys in order the first compares no later with a third
compare_rises : (x y k : MapKey) → key_cmp x y ≡ Less → ordering_index (key_cmp x k) ≤ ordering_index (key_cmp y k)
compare_rises x y k less = by_both (key_cmp x k) (key_cmp y k) refl refl
  where
    behind : key_cmp y x ≡ Less → ⊥
    behind e = let wrong : Less ≡ Greater = sym less ∙ (key_cmp_total.antisymm x y ∙ ap ordering_reverse e) in cc

    by_both : (a b : Ordering) → key_cmp x k ≡ a → key_cmp y k ≡ b → ordering_index a ≤ ordering_index b
    by_both Less b e f = omega arith
    by_both Equal Less e f = absurd (behind (ap (key_cmp y) (key_cmp-same x k e) ∙ f))
    by_both Equal Equal e f = omega arith
    by_both Equal Greater e f = omega arith
    by_both Greater Less e f =
        absurd (behind (key_cmp_total.trans y k x f (key_cmp_total.antisymm k x ∙ ap ordering_reverse e)))
    by_both Greater Equal e f = absurd (let wrong : Greater ≡ Less = sym e ∙ ap (key_cmp x) (sym (key_cmp-same y k f)) ∙ less in cc)
    by_both Greater Greater e f = omega arith

-- so the comparisons with a key rise along a table
comparisons_rise : (k : MapKey) (xs : List Entry) → IsTable xs → IsNonDecreasingBy (λ (e : Entry). ordering_index (key_cmp e.0 k)) xs
unfolding IsStrictlySortedBy
comparisons_rise k [] up i j d le within = absurd (omega arith)
comparisons_rise k (x ∷ xs) up zero zero d le within = omega arith
comparisons_rise k (x ∷ xs) up zero (suc j) d le within =
    compare_rises x.0 (get_or xs j d).0 k (All-from_recursion (λ (e : Entry). entry_order x e ≡ Less) xs up.0 j d (omega arith))
comparisons_rise k (x ∷ xs) up (suc i) zero d le within = absurd (omega arith)
comparisons_rise k (x ∷ xs) up (suc i) (suc j) d le within = comparisons_rise k xs up.1 i j d (omega arith) (omega arith)

-- what an entry's key compares to
derived : (e : Entry) (k : MapKey) → key_ord.ghosts.cmp e.0 k ≡ key_cmp e.0 k
derived e k = cmp-key_cmp e.0 k

-- the search ends at the key, or the table doesn't have it
pub searched : (xs : List Entry) → IsTable xs → (k : MapKey) (r : Result ℕ ℕ) → IsSearchInRange r (length xs)
    → IsBinarySearchResult (λ (e : Entry). key_ord.ghosts.cmp e.0 k) xs r
    → MatchResult r (λ i. (i < length xs) × ((d : Entry) → (get_or xs i d).0 ≡ k)) (λ i. (kind : Kind) → Contains xs (k, kind) → ⊥)
searched xs up k (Ok i) within found = (within, λ d. key_cmp-same (get_or xs i d).0 k (sym (derived (get_or xs i d) k) ∙ found d))
searched xs up k (Err i) within parted =
    let rises : IsNonDecreasingBy (λ (e : Entry). ordering_index (key_ord.ghosts.cmp e.0 k)) xs = λ m n d le below.
    subst (λ a. a ≤ ordering_index (key_ord.ghosts.cmp (get_or xs n d).0 k)) (sym (ap ordering_index (derived (get_or xs m d) k)))
    (subst (λ b. ordering_index (key_cmp (get_or xs m d).0 k) ≤ b) (sym (ap ordering_index (derived (get_or xs n d) k))) (comparisons_rise k xs up m n d le below)) in
    let sides = parted rises in
    λ kind has.
    let at : key_ord.ghosts.cmp (get_or xs has.0 (k, kind)).0 k ≡ Equal =
    derived (get_or xs has.0 (k, kind)) k ∙ ap (λ (e : Entry). key_cmp e.0 k) has.2 ∙ tied_itself key_cmp_total k in
    elim (cases_lt has.0 i) [
      | inl below ↦ (let wrong : Less ≡ Equal = sym (sides.0 has.0 (k, kind) (omega arith) below) ∙ at in cc)
      | inr above ↦ (let wrong : Greater ≡ Equal = sym (sides.1 has.0 (k, kind) above has.1) ∙ at in cc)
    ]

-- the entry at a place where the key stands
pub there : (xs : List Entry) (i : ℕ) (k : MapKey) (e : Entry) → i < length xs → ((d : Entry) → (get_or xs i d).0 ≡ k) → e ≡ get_or xs i e
    → Contains xs (k, e.1)
there xs i k e within at is =
    let key : e.0 ≡ k = ap (λ (x : Entry). x.0) is ∙ at e in
    let same : e ≡ (k, e.1) = λ j. (key j, e.1) in
    (i, within, get_or_default xs i (k, e.1) e within ∙ sym is ∙ same)
