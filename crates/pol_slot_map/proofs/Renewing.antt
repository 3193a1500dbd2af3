-- The changes that clear each key of one map and set each entry of another: they lead from the one to the other, and there
-- are no more of them than entries.
use Rattle.std.proofs.Common.{◌≡◌, ℕ, ◌+◌, ◌≤◌, true, false, cond, List, [], ◌∷◌, length, map, Option, None, Some, refl, sym, ap, subst, ◌∙◌, arith}
use Rattle.std.specs.FinMap as finite
use Rattle.std.specs.FinMap.Entries.{by_order}
use Rattle.std.specs.List.Sorted.{IsStrictlySortedBy}
use Rattle.std.specs.Option.{option_or, unwrap_or}
use Rattle.std.specs.Ordering.{eq_by_cmp}
use Rattle.std.specs.declared.cmp.Ordering.{Ordering}
use Rattle.std.specs.declared.cmp.Ordering.TheVariants.{Less, Equal, Greater}
use Rattle.std.proofs.lemmas.List.{length-map}
use Rattle.pol_data.proofs.Every.{every-map}
use Rattle.pol_mapkey.specs.Entries.{Entry}
use Rattle.pol_mapkey.specs.MapKey.{key_cmp}
use Rattle.pol_mapkey.specs.declared.Kind.{Kind}
use Rattle.pol_mapkey.specs.declared.MapKey.{MapKey}
use Rattle.pol_mapkey.proofs.KeyOrder.{key_cmp_total, key_cmp-same}
use Rattle.pol_map_changes.specs.declared.change.Change.{Change}
use Rattle.pol_map_changes.specs.declared.change.Change.TheVariants.{Set}
use Rattle.pol_map_changes.specs.Changes.{IsAscending, changed, change_order, said, table_of, whole}
use Rattle.pol_map_changes.specs.Merged.{merged, merged_from}
use Rattle.pol_map_changes.proofs.Said.{get_changed}
use Rattle.pol_map_changes.proofs.Merging.{merged_ascends, merged_leads, merged_said}
use Rattle.pol_map_changes.proofs.Differences.{differences_lead, lists_are_what_they_say, whole_ascends, whole_is_difference}
use Rattle.pol_kept_map.specs.Work.{WorkOf, map_of}
use Rattle.pol_kept_map.proofs.Works.{is_table}
use Rattle.pol_slot_map.specs.Base.{IsFew}
use Rattle.pol_slot_map.specs.Renewed.{clear_of, cleared, entries_of, renewed}

-- ---- what is kept as a map is in key order
no_entries : IsStrictlySortedBy (λ (a b : Entry). key_cmp a.0 b.0) []
unfolding IsStrictlySortedBy
no_entries = tt

pub sorted_of : (base : Option WorkOf) → IsStrictlySortedBy (λ (a b : Entry). key_cmp a.0 b.0) (entries_of base)
sorted_of None = no_entries
sorted_of (Some work) = is_table (map_of work) work.filters work.rows refl

-- ---- what clears say of a key that has this kind, if any
abbrev cleared_kind : Option Kind → Option (Option Kind)
cleared_kind None = None
cleared_kind (Some kind) = Some None

gone : (o : Option Kind) → unwrap_or (cleared_kind o) o ≡ None
gone None = refl
gone (Some kind) = refl

said_cleared : (es : List Entry) (q : MapKey) → said (cleared es) q ≡ cleared_kind (finite.find key_cmp q es)
said_cleared [] q = refl
said_cleared (e ∷ es) q =
    elim (eq_by_cmp key_cmp q e.0) as (λ b. cond b (Some None) (said (cleared es) q) ≡ cleared_kind (cond b (Some e.1) (finite.find key_cmp q es))) [
      | true ↦ refl
      | false ↦ said_cleared es q
    ]

-- ---- clears are in key order, as the changes are
pub clears_ascend : (cs : List Change) → IsAscending cs → IsAscending (map clear_of cs)
unfolding IsStrictlySortedBy
clears_ascend [] up = tt
clears_ascend (c ∷ cs) up = (every-map (λ d. change_order (clear_of c) d ≡ Less) clear_of cs up.0, clears_ascend cs up.1)

module _ (before after : List Entry) (one : IsStrictlySortedBy (λ (a b : Entry). key_cmp a.0 b.0) before) (other : IsStrictlySortedBy (λ (a b : Entry). key_cmp a.0 b.0) after) where
  cleared_up : IsAscending (cleared before)
  cleared_up = clears_ascend (whole before) (whole_ascends before one)

  pub renewed_up : IsAscending (renewed before after)
  renewed_up = merged_ascends (cleared before) (whole after) cleared_up (whole_ascends after other)

  -- a list that says the same is that one
  pub renewed_is : (list : List Change) → IsAscending list
      → ((q : MapKey) → said list q ≡ option_or (said (whole after) q) (said (cleared before) q)) → list ≡ renewed before after
  renewed_is list up says =
      lists_are_what_they_say list (renewed before after) up renewed_up (λ q. says q ∙ sym (merged_said (cleared before) (whole after) (whole_ascends after other) q))

  -- ---- all keys of the one map go
  all_go : changed (cleared before) (table_of before) ≡ finite.empty
  all_go =
      finite.same_map key_cmp_total key_cmp-same (changed (cleared before) (table_of before)) finite.empty
      (λ q. get_changed (cleared before) cleared_up (table_of before) q
      ∙ ap (λ o. unwrap_or o (finite.get (table_of before) q))
      (said_cleared before q ∙ ap cleared_kind (sym (finite.get-from_entries key_cmp_total before q)))
      ∙ gone (finite.get (table_of before) q)
      ∙ sym (finite.get-empty key_cmp q))

  -- ---- so the changes lead from the one map to the other
  pub renewed_leads : changed (renewed before after) (table_of before) ≡ table_of after
  renewed_leads =
      merged_leads (cleared before) (whole after) cleared_up (whole_ascends after other) (table_of before)
      ∙ ap (changed (whole after)) all_go
      ∙ differences_lead (whole after) finite.empty (table_of after) (whole_is_difference after other)

-- ---- how many there are
by_order_length : (o : Ordering) (a b c : List Change) (n : ℕ) → length a ≤ n → length b ≤ n → length c ≤ n → length (by_order o a b c) ≤ n
by_order_length Less a b c n one two three = one
by_order_length Equal a b c n one two three = two
by_order_length Greater a b c n one two three = three

from_length : (c : Change) (cs : List Change) → ((ys : List Change) → length (merged cs ys) ≤ length cs + length ys)
    → (ys : List Change) → length (merged_from c (merged cs) ys) ≤ 1 + length cs + length ys
from_length c cs rest [] = let few = rest [] in omega (arith, few)
from_length c cs rest (d ∷ ds) =
    let before = rest (d ∷ ds) in
    let both = rest ds in
    let later = from_length c cs rest ds in
    by_order_length (change_order c d) (c ∷ merged cs (d ∷ ds)) (d ∷ merged cs ds) (d ∷ merged_from c (merged cs) ds) (1 + length cs + length (d ∷ ds))
    (omega (arith, before)) (omega (arith, both)) (omega (arith, later))

merged_length : (xs ys : List Change) → length (merged xs ys) ≤ length xs + length ys
merged_length [] ys = omega arith
merged_length (c ∷ cs) ys = let few = from_length c cs (λ zs. merged_length cs zs) ys in omega (arith, few)

pub renewed_few : (before after : List Entry) → IsFew (renewed before after) before after
renewed_few before after =
    let few = merged_length (cleared before) (whole after) in
    let one : length (cleared before) ≡ length (whole before) = length-map (whole before) clear_of in
    let keys : length (whole before) ≡ length before = length-map before (λ (e : Entry). Set e.0 e.1) in
    let sets : length (whole after) ≡ length after = length-map after (λ (e : Entry). Set e.0 e.1) in
    omega (arith, few, one, keys, sets)

-- ---- of two maps that are kept by what they are made of
module _ (base : Option WorkOf) (map work : WorkOf) (entries : List Entry) (changes : List Change) (made : changes ≡ renewed (entries_of base) (map_of map))
    (from : entries_of base ≡ entries) (to : map ≡ work) where
  is_renewed : changes ≡ renewed entries (map_of work)
  is_renewed = made ∙ (λ i. renewed (from i) (map_of (to i)))

  sorted_from : IsStrictlySortedBy (λ (a b : Entry). key_cmp a.0 b.0) entries
  sorted_from = subst (λ (es : List Entry). IsStrictlySortedBy (λ (a b : Entry). key_cmp a.0 b.0) es) from (sorted_of base)

  pub between_leads : changed changes (table_of entries) ≡ table_of (map_of work)
  between_leads =
      ap (λ (cs : List Change). changed cs (table_of entries)) is_renewed ∙ renewed_leads entries (map_of work) sorted_from (sorted_of (Some work))

  pub between_few : IsFew changes entries (map_of work)
  between_few = subst (λ (cs : List Change). IsFew cs entries (map_of work)) (sym is_renewed) (renewed_few entries (map_of work))
