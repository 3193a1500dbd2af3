-- What lists of changes say of keys, and so what they make of tables.
use Rattle.std.proofs.Common.{◌≡◌, ℕ, zero, suc, Bool, true, false, ◌&&◌, T, cond, List, [], ◌∷◌, map, take, Option, Some, None, refl, sym, ap, subst, ◌∙◌}
use Rattle.std.specs.FinMap as finite
use Rattle.std.specs.FinMap.Entries.{below_all}
use Rattle.std.specs.List.{AllByRecursion}
use Rattle.std.specs.List.Sorted.{IsStrictlySortedBy}
use Rattle.std.specs.Option.{unwrap_or}
use Rattle.std.specs.Ordering.{eq_by_cmp, is_eq, is_lt}
use Rattle.std.specs.declared.cmp.Ordering.{Ordering}
use Rattle.std.specs.declared.cmp.Ordering.TheVariants.{Less, Equal, Greater}
use Rattle.pol_data.proofs.Every.{every-map, every-take}
use Rattle.pol_mapkey.specs.MapKey.{key_cmp}
use Rattle.pol_mapkey.specs.declared.Kind.{Kind}
use Rattle.pol_mapkey.specs.declared.MapKey.{MapKey}
use Rattle.pol_mapkey.proofs.KeyOrder.{key_cmp_total, key_cmp-same}
use Rattle.pol_trie.specs.PolicyMap.{PolicyMap}
use Rattle.pol_map_changes.specs.declared.change.Change.{Change}
use Rattle.pol_map_changes.specs.declared.change.Change.TheVariants.{Set, Clear}
use Rattle.pol_map_changes.specs.Changes.{IsAscending, changed, changed_once, change_order, key_of, kind_after, said}

-- ---- keys that tie are equal
tied : (r : Ordering) → is_eq r ≡ true → r ≡ Equal
tied Less e = cc
tied Equal e = refl
tied Greater e = cc

pub same_of : (a b : MapKey) → eq_by_cmp key_cmp a b ≡ true → a ≡ b
same_of a b e = key_cmp-same a b (tied (key_cmp a b) e)

-- ---- a key below all of the list is none of its keys
pub unsaid : (q : MapKey) (cs : List Change) → AllByRecursion (λ d. key_cmp q (key_of d) ≡ Less) cs → said cs q ≡ None
unsaid q [] all = refl
unsaid q (d ∷ ds) all = ap (λ r. cond (is_eq r) (Some (kind_after d)) (said ds q)) all.0 ∙ unsaid q ds all.1

-- the head's key is none of the rest
pub unsaid_after : (c : Change) (q : MapKey) (cs : List Change) → AllByRecursion (λ d. change_order c d ≡ Less) cs → eq_by_cmp key_cmp q (key_of c) ≡ true → said cs q ≡ None
unsaid_after c q cs above tie = unsaid q cs (subst (λ k. AllByRecursion (λ d. key_cmp k (key_of d) ≡ Less) cs) (sym (same_of q (key_of c) tie)) above)

-- ---- one change, and then all
pub get_once : (c : Change) (t : PolicyMap) (q : MapKey) → finite.get (changed_once c t) q ≡ cond (eq_by_cmp key_cmp q (key_of c)) (kind_after c) (finite.get t q)
get_once (Set key kind) t q = finite.get-insert key_cmp_total t key kind q
get_once (Clear key) t q = finite.get-remove key_cmp_total t key q

pub get_changed : (cs : List Change) → IsAscending cs → (t : PolicyMap) (q : MapKey) → finite.get (changed cs t) q ≡ unwrap_or (said cs q) (finite.get t q)
unfolding IsStrictlySortedBy
get_changed [] ascending t q = refl
get_changed (c ∷ cs) ascending t q = get_changed cs ascending.1 (changed_once c t) q ∙ by (eq_by_cmp key_cmp q (key_of c)) refl (get_once c t q)
  where
    by : (b : Bool) → eq_by_cmp key_cmp q (key_of c) ≡ b → finite.get (changed_once c t) q ≡ cond b (kind_after c) (finite.get t q)
        → unwrap_or (said cs q) (finite.get (changed_once c t) q) ≡ unwrap_or (cond b (Some (kind_after c)) (said cs q)) (finite.get t q)
    by true tie is = ap (λ o. unwrap_or o (finite.get (changed_once c t) q)) (unsaid_after c q cs ascending.0 tie) ∙ is
    by false other is = ap (unwrap_or (said cs q)) is

-- ---- the first changes of a list
pub take_ascends : (n : ℕ) (cs : List Change) → IsAscending cs → IsAscending (take n cs)
unfolding IsStrictlySortedBy
take_ascends zero cs s = tt
take_ascends (suc n) [] s = tt
take_ascends (suc n) (c ∷ cs) s = (every-take (λ d. change_order c d ≡ Less) n cs s.0, take_ascends n cs s.1)

take_unsaid : (n : ℕ) (cs : List Change) (q : MapKey) → said cs q ≡ None → said (take n cs) q ≡ None
take_unsaid zero cs q e = refl
take_unsaid (suc n) [] q e = refl
take_unsaid (suc n) (c ∷ cs) q e = by (eq_by_cmp key_cmp q (key_of c)) e (λ rest. take_unsaid n cs q rest)
  where
    by : (b : Bool) → cond b (Some (kind_after c)) (said cs q) ≡ None → (said cs q ≡ None → said (take n cs) q ≡ None) → cond b (Some (kind_after c)) (said (take n cs) q) ≡ None
    by true e rest = e
    by false e rest = rest e

-- all changes once more
pub said_again : (n : ℕ) (cs : List Change) (q : MapKey) (old : Option Kind) → unwrap_or (said cs q) (unwrap_or (said (take n cs) q) old) ≡ unwrap_or (said cs q) old
said_again n cs q old = by (said cs q) refl
  where
    by : (o : Option (Option Kind)) → said cs q ≡ o → unwrap_or o (unwrap_or (said (take n cs) q) old) ≡ unwrap_or o old
    by None e = ap (λ o. unwrap_or o old) (take_unsaid n cs q e)
    by (Some x) e = refl

-- ---- changes and entries in key order
pub both : (a b : Bool) → T a → T b → T (a && b)
both true b p q = q
both false b p q = p

module _ {X : Type 0} where
  below_from : (k : MapKey) (es : List (MapKey × X)) → AllByRecursion (λ e. key_cmp k e.0 ≡ Less) es → T (below_all key_cmp k es)
  below_from k [] all = tt
  below_from k (e ∷ es) all = subst (λ r. T (is_lt r && below_all key_cmp k es)) (sym all.0) (below_from k es all.1)

  pub sorted_from : (es : List (MapKey × X)) → IsStrictlySortedBy (λ a b. key_cmp a.0 b.0) es → T (finite.is_sorted key_cmp es)
  unfolding IsStrictlySortedBy
  sorted_from [] s = tt
  sorted_from (e ∷ es) s = both (below_all key_cmp e.0 es) (finite.is_sorted key_cmp es) (below_from e.0 es s.0) (sorted_from es s.1)

abbrev pub entry_of : Change → MapKey × Option Kind
entry_of c = (key_of c, kind_after c)

pub entries_ascend : (cs : List Change) → IsAscending cs → IsStrictlySortedBy (λ (a b : MapKey × Option Kind). key_cmp a.0 b.0) (map entry_of cs)
unfolding IsStrictlySortedBy
entries_ascend [] s = tt
entries_ascend (c ∷ cs) s = (every-map (λ (e : MapKey × Option Kind). key_cmp (key_of c) e.0 ≡ Less) entry_of cs s.0, entries_ascend cs s.1)
