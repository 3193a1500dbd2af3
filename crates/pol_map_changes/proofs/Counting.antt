-- A list of changes sets at most as many keys as the table has that it makes.
use Rattle.std.proofs.Common.{◌≡◌, ◌+◌, ◌≤◌, Bool, true, false, cond, List, [], ◌∷◌, Option, Some, None, is_some, refl, sym, ap, ◌∙◌, arith}
use Rattle.std.specs.FinMap as finite
use Rattle.std.proofs.lemmas.List.Sums.{sum_by-cons}
use Rattle.std.specs.List.Sorted.{IsStrictlySortedBy}
use Rattle.std.specs.Option.{unwrap_or}
use Rattle.std.specs.Cmp.{tied_itself}
use Rattle.std.specs.Ordering.{eq_by_cmp, is_eq}
use Rattle.pol_mapkey.specs.MapKey.{key_cmp}
use Rattle.pol_mapkey.specs.declared.Kind.{Kind}
use Rattle.pol_mapkey.specs.declared.MapKey.{MapKey}
use Rattle.pol_mapkey.proofs.KeyOrder.{key_cmp_total, key_cmp-same}
use Rattle.pol_trie.specs.PolicyMap.{PolicyMap}
use Rattle.pol_map_changes.specs.declared.change.Change.{Change}
use Rattle.pol_map_changes.specs.declared.change.Change.TheVariants.{Set, Clear}
use Rattle.pol_map_changes.specs.Changes.{IsAscending, changed, kind_after, said, set_count}
use Rattle.pol_map_changes.proofs.Said.{get_changed, unsaid, unsaid_after}

key_ties : (key : MapKey) → eq_by_cmp key_cmp key key ≡ true
key_ties key = ap is_eq (tied_itself key_cmp_total key)

-- a key that isn't there is one more
one_key_more : (table : PolicyMap) (key : MapKey) (kind : Kind) → finite.get table key ≡ None → finite.len (finite.insert table key kind) ≡ finite.len table + 1
one_key_more table key kind none =
    finite.len-insert key_cmp_total table key kind ∙ ap (λ (o : Option Kind). cond (is_some o) (finite.len table) (finite.len table + 1)) none

module _ (key : MapKey) (kind : Kind) (cs : List Change) (ascending : IsAscending (Set key kind ∷ cs)) (table : PolicyMap) where
  abbrev without : PolicyMap
  without = finite.remove table key

  rest_ascends : IsAscending cs
  unfolding IsStrictlySortedBy
  rest_ascends = ascending.1

  gone : finite.get without key ≡ None
  gone = finite.get-remove key_cmp_total table key key ∙ ap (λ (b : Bool). cond b None (finite.get table key)) (key_ties key)

  absent : finite.get (changed cs without) key ≡ None
  unfolding IsStrictlySortedBy
  absent = get_changed cs rest_ascends without key ∙ ap (λ o. unwrap_or o (finite.get without key)) (unsaid key cs ascending.0) ∙ gone

  later_at : (q : MapKey) (tie : Bool) → eq_by_cmp key_cmp q key ≡ tie
      → unwrap_or (said cs q) (cond tie (Some kind) (finite.get table q)) ≡ cond tie (Some kind) (unwrap_or (said cs q) (cond tie None (finite.get table q)))
  unfolding IsStrictlySortedBy
  later_at q true tie = ap (λ o. unwrap_or o (Some kind)) (unsaid_after (Set key kind) q cs ascending.0 tie)
  later_at q false tie = refl

  -- the key may be set after the others
  set_last : changed cs (finite.insert table key kind) ≡ finite.insert (changed cs without) key kind
  set_last =
      finite.same_map key_cmp_total key_cmp-same (changed cs (finite.insert table key kind)) (finite.insert (changed cs without) key kind) (λ q.
      get_changed cs rest_ascends (finite.insert table key kind) q
      ∙ ap (unwrap_or (said cs q)) (finite.get-insert key_cmp_total table key kind q)
      ∙ later_at q (eq_by_cmp key_cmp q key) refl
      ∙ ap (λ o. cond (eq_by_cmp key_cmp q key) (Some kind) (unwrap_or (said cs q) o)) (sym (finite.get-remove key_cmp_total table key q))
      ∙ ap (λ o. cond (eq_by_cmp key_cmp q key) (Some kind) o) (sym (get_changed cs rest_ascends without q))
      ∙ sym (finite.get-insert key_cmp_total (changed cs without) key kind q))

  counted : finite.len (changed (Set key kind ∷ cs) table) ≡ finite.len (changed cs without) + 1
  counted = ap finite.len set_last ∙ one_key_more (changed cs without) key kind absent

pub sets_fit : (cs : List Change) → IsAscending cs → (table : PolicyMap) → set_count cs ≤ finite.len (changed cs table)
unfolding IsStrictlySortedBy
sets_fit [] ascending table = omega arith
sets_fit (Clear key ∷ cs) ascending table = let rest = sets_fit cs ascending.1 (finite.remove table key) in omega (arith, rest)
sets_fit (Set key kind ∷ cs) ascending table =
    let rest = sets_fit cs ascending.1 (finite.remove table key) in
    let one : set_count (Set key kind ∷ cs) ≡ 1 + set_count cs = sum_by-cons (λ (c : Change). cond (is_some (kind_after c)) 1 0) (Set key kind) cs in
    let all = counted key kind cs ascending table in
    omega (arith, rest, one, all)
