-- What is left of a list where each `Clear` of a key that a base doesn't name goes.
use Rattle.std.proofs.Common.{◌≡◌, ◌+◌, ◌≤◌, Bool, true, false, cond, List, [], ◌∷◌, filter, length, map, Option, Some, None, is_some, refl, sym, ap, subst, ◌∙◌, arith}
use Rattle.std.specs.FinMap as finite
use Rattle.std.specs.FinMap.Entries.{same_entries}
use Rattle.std.proofs.lemmas.List.{length-map}
use Rattle.std.proofs.lemmas.List.Kept.{IsStrictlySortedBy-filter}
use Rattle.std.proofs.lemmas.List.Sums.{sum_by-cons}
use Rattle.std.specs.Cmp.{tied_itself}
use Rattle.std.specs.List.{AllByRecursion}
use Rattle.std.specs.List.Sorted.{IsStrictlySortedBy}
use Rattle.std.specs.Option.{unwrap_or}
use Rattle.std.specs.Ordering.{eq_by_cmp, is_eq, ordering_reverse}
use Rattle.std.specs.declared.cmp.Ordering.TheVariants.{Less}
use Rattle.pol_mapkey.specs.Entries.{Entry}
use Rattle.pol_mapkey.specs.MapKey.{key_cmp}
use Rattle.pol_mapkey.specs.declared.Kind.{Kind}
use Rattle.pol_mapkey.specs.declared.MapKey.{MapKey}
use Rattle.pol_mapkey.proofs.KeyOrder.{key_cmp_total, key_cmp-same}
use Rattle.pol_trie.specs.PolicyMap.{PolicyMap}
use Rattle.pol_map_changes.specs.declared.change.Change.{Change}
use Rattle.pol_map_changes.specs.declared.change.Change.TheVariants.{Set, Clear}
use Rattle.pol_map_changes.specs.Changes.{AreFew, HasOnlyKeysOf, IsAscending, changed, change_order, difference_at, key_of, kind_after, said, set_count, table_of, whole}
use Rattle.pol_map_changes.specs.LeftOut.{matters}
use Rattle.pol_map_changes.proofs.Counting.{sets_fit}
use Rattle.pol_map_changes.proofs.Differences.{said_whole, tables_have_their_entries}
use Rattle.pol_map_changes.proofs.Said.{entries_ascend, entry_of, get_changed, same_of, sorted_from, unsaid_after}

pub left_ascends : (base cs : List Change) → IsAscending cs → IsAscending (filter (matters base) cs)
left_ascends base cs up = IsStrictlySortedBy-filter change_order (matters base) cs up

-- ---- what the list makes of a table stays
none_of : {X : Type 0} (o : Option X) → is_some o ≡ false → o ≡ None
none_of None absent = refl
none_of (Some x) absent = cc

module _ (base : List Change) (table : PolicyMap) (only : HasOnlyKeysOf base table) where
  -- at each key
  left_says : (q : MapKey) (cs : List Change) → IsAscending cs → unwrap_or (said (filter (matters base) cs) q) (finite.get table q) ≡ unwrap_or (said cs q) (finite.get table q)
  unfolding IsStrictlySortedBy
  left_says q [] up = refl
  left_says q (Set key kind ∷ cs) up =
      elim (eq_by_cmp key_cmp q key) as (λ b. unwrap_or (cond b (Some (Some kind)) (said (filter (matters base) cs) q)) (finite.get table q) ≡ unwrap_or (cond b (Some (Some kind)) (said cs q)) (finite.get table q)) [
        | true ↦ refl
        | false ↦ left_says q cs up.1
      ]
  left_says q (Clear key ∷ cs) up = by (is_some (said base key)) refl (eq_by_cmp key_cmp q key) refl (left_says q cs up.1)
    where
      one : (tie : Bool) → unwrap_or (said (filter (matters base) cs) q) (finite.get table q) ≡ unwrap_or (said cs q) (finite.get table q)
          → unwrap_or (cond tie (Some None) (said (filter (matters base) cs) q)) (finite.get table q) ≡ unwrap_or (cond tie (Some None) (said cs q)) (finite.get table q)
      one true rest = refl
      one false rest = rest

      by : (there : Bool) → is_some (said base key) ≡ there → (tie : Bool) → eq_by_cmp key_cmp q key ≡ tie
          → unwrap_or (said (filter (matters base) cs) q) (finite.get table q) ≡ unwrap_or (said cs q) (finite.get table q)
          → unwrap_or (said (cond there (Clear key ∷ filter (matters base) cs) (filter (matters base) cs)) q) (finite.get table q) ≡ unwrap_or (cond tie (Some None) (said cs q)) (finite.get table q)
      by true named tie ties rest =
          ap (λ b. unwrap_or (cond b (Some None) (said (filter (matters base) cs) q)) (finite.get table q)) ties ∙ one tie rest
      by false unnamed true ties rest =
          rest ∙ ap (λ o. unwrap_or o (finite.get table q)) (unsaid_after (Clear key) q cs up.0 ties)
          ∙ ap (λ k. finite.get table k) (same_of q key ties) ∙ only key (none_of (said base key) unnamed)
      by false unnamed false ties rest = rest

  pub left_leads : (cs : List Change) → IsAscending cs → changed (filter (matters base) cs) table ≡ changed cs table
  left_leads cs up =
      finite.same_map key_cmp_total key_cmp-same (changed (filter (matters base) cs) table) (changed cs table)
      (λ q. get_changed (filter (matters base) cs) (left_ascends base cs up) table q ∙ left_says q cs up ∙ sym (get_changed cs up table q))

-- a table has only keys that its whole list names
only_none : (o : Option Kind) → difference_at None o ≡ None → o ≡ None
only_none None is = refl
only_none (Some kind) is = cc

pub named_whole : (es : List Entry) → HasOnlyKeysOf (whole es) (table_of es)
named_whole es q none = finite.get-from_entries key_cmp_total es q ∙ only_none (finite.find key_cmp q es) (sym (said_whole es q) ∙ none)

-- ---- how many are left
-- a table with a value for each key that the base names
abbrev Named : Type 0
Named = finite.FinMap key_cmp (Option Kind)

one_less : (table : Named) (key : MapKey) (there : is_some (finite.get table key) ≡ true) → finite.len (finite.remove table key) + 1 ≡ finite.len table
one_less table key there = by (finite.get table key) refl there
  where
    gone : finite.get (finite.remove table key) key ≡ None
    gone = finite.get-remove key_cmp_total table key key ∙ ap (λ (b : Bool). cond b None (finite.get table key)) (ap is_eq (tied_itself key_cmp_total key))

    at : (kind : Option Kind) → finite.get table key ≡ Some kind → (q : MapKey) (tie : Bool) → eq_by_cmp key_cmp q key ≡ tie
        → cond tie (Some kind) (cond tie None (finite.get table q)) ≡ finite.get table q
    at kind is q true ties = sym is ∙ ap (λ k. finite.get table k) (sym (same_of q key ties))
    at kind is q false ties = refl

    again : (kind : Option Kind) → finite.get table key ≡ Some kind → finite.insert (finite.remove table key) key kind ≡ table
    again kind is =
        finite.same_map key_cmp_total key_cmp-same (finite.insert (finite.remove table key) key kind) table (λ q.
        finite.get-insert key_cmp_total (finite.remove table key) key kind q
        ∙ ap (λ o. cond (eq_by_cmp key_cmp q key) (Some kind) o) (finite.get-remove key_cmp_total table key q)
        ∙ at kind is q (eq_by_cmp key_cmp q key) refl)

    by : (o : Option (Option Kind)) → finite.get table key ≡ o → is_some o ≡ true → finite.len (finite.remove table key) + 1 ≡ finite.len table
    by None is some = cc
    by (Some kind) is some =
        sym (finite.len-insert key_cmp_total (finite.remove table key) key kind
        ∙ ap (λ (o : Option (Option Kind)). cond (is_some o) (finite.len (finite.remove table key)) (finite.len (finite.remove table key) + 1)) gone)
        ∙ ap finite.len (again kind is)

-- the same test by the table
abbrev in_table : Named → Change → Bool
in_table table (Set key kind) = true
in_table table (Clear key) = is_some (finite.get table key)

-- a key below those of a list is none that it clears
apart : (key : MapKey) (table : Named) (cs : List Change) → AllByRecursion (λ d. key_cmp key (key_of d) ≡ Less) cs
    → filter (in_table (finite.remove table key)) cs ≡ filter (in_table table) cs
apart key table [] all = refl
apart key table (Set k kind ∷ cs) all = ap (λ r. Set k kind ∷ r) (apart key table cs all.1)
apart key table (Clear k ∷ cs) all =
    let other : eq_by_cmp key_cmp k key ≡ false = ap is_eq (key_cmp_total.antisymm k key ∙ ap ordering_reverse all.0) in
    let same : finite.get (finite.remove table key) k ≡ finite.get table k =
    finite.get-remove key_cmp_total table key k ∙ ap (λ (b : Bool). cond b None (finite.get table k)) other in
    (λ i. cond (is_some (same i)) (Clear k ∷ apart key table cs all.1 i) (apart key table cs all.1 i))

few_in : (cs : List Change) → IsAscending cs → (table : Named) → length (filter (in_table table) cs) ≤ finite.len table + set_count (filter (in_table table) cs)
unfolding IsStrictlySortedBy
few_in [] up table = omega arith
few_in (Set key kind ∷ cs) up table =
    let rest = few_in cs up.1 table in
    let one : set_count (Set key kind ∷ filter (in_table table) cs) ≡ 1 + set_count (filter (in_table table) cs) =
    sum_by-cons (λ (c : Change). cond (is_some (kind_after c)) 1 0) (Set key kind) (filter (in_table table) cs) in
    omega (arith, rest, one)
few_in (Clear key ∷ cs) up table = by (is_some (finite.get table key)) refl (few_in cs up.1 (finite.remove table key)) (few_in cs up.1 table)
  where
    by : (there : Bool) → is_some (finite.get table key) ≡ there
        → length (filter (in_table (finite.remove table key)) cs) ≤ finite.len (finite.remove table key) + set_count (filter (in_table (finite.remove table key)) cs)
        → length (filter (in_table table) cs) ≤ finite.len table + set_count (filter (in_table table) cs)
        → length (cond there (Clear key ∷ filter (in_table table) cs) (filter (in_table table) cs))
        ≤ finite.len table + set_count (cond there (Clear key ∷ filter (in_table table) cs) (filter (in_table table) cs))
    by true named without own =
        let less = one_less table key named in
        let rest : length (filter (in_table table) cs) ≤ finite.len (finite.remove table key) + set_count (filter (in_table table) cs) =
        subst (λ (l : List Change). length l ≤ finite.len (finite.remove table key) + set_count l) (apart key table cs up.0) without in
        let none : set_count (Clear key ∷ filter (in_table table) cs) ≡ 0 + set_count (filter (in_table table) cs) =
        sum_by-cons (λ (c : Change). cond (is_some (kind_after c)) 1 0) (Clear key) (filter (in_table table) cs) in
        omega (arith, less, rest, none)
    by false unnamed without own = own

-- the base as such a table
module _ (base : List Change) (ascends : IsAscending base) where
  abbrev names : Named
  names = finite.from_entries (map entry_of base)

  names_len : finite.len names ≡ length base
  names_len =
      finite.len-entries names
      ∙ ap length (same_entries key_cmp key_cmp_total key_cmp-same (finite.entries names) (map entry_of base) (finite.entries_sorted names)
      (sorted_from (map entry_of base) (entries_ascend base ascends))
      (λ q. sym (finite.get-entries names q) ∙ finite.get-from_entries key_cmp_total (map entry_of base) q))
      ∙ length-map base entry_of

  same_test : (cs : List Change) → filter (in_table names) cs ≡ filter (matters base) cs
  same_test [] = refl
  same_test (Set key kind ∷ cs) = ap (λ r. Set key kind ∷ r) (same_test cs)
  same_test (Clear key ∷ cs) =
      λ i. cond (is_some (finite.get-from_entries key_cmp_total (map entry_of base) key i)) (Clear key ∷ same_test cs i) (same_test cs i)

  pub left_few : (cs : List Change) → IsAscending cs → AreFew base (filter (matters base) cs)
  left_few cs up =
      subst (λ n. length (filter (matters base) cs) ≤ n + set_count (filter (matters base) cs)) names_len
      (subst (λ (l : List Change). length l ≤ finite.len names + set_count l) (same_test cs) (few_in cs up names))

-- so the keys of both tables bound them, where they lead from the one to the other
pub few_lead : (base : List Entry) (cs : List Change) → IsAscending cs → AreFew (whole base) cs → (es : List Entry) → IsStrictlySortedBy (λ a b. key_cmp a.0 b.0) es
    → changed cs (table_of base) ≡ table_of es → length cs ≤ length base + length es
few_lead base cs up few es sorted leads =
    let sets : set_count cs ≤ finite.len (changed cs (table_of base)) = sets_fit cs up (table_of base) in
    let whole_len : length (whole base) ≡ length base = length-map base (λ (e : Entry). Set e.0 e.1) in
    let map_len : finite.len (changed cs (table_of base)) ≡ length es =
    ap finite.len leads ∙ finite.len-entries (table_of es) ∙ ap length (tables_have_their_entries es sorted) in
    omega (arith, few, sets, whole_len, map_len)
