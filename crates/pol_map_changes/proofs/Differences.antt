-- The difference of two tables.
use Rattle.std.proofs.Common.{◌≡◌, Bool, true, false, cond, List, [], ◌∷◌, map, take, Option, Some, None, refl, sym, ap, ◌∙◌}
use Rattle.std.specs.FinMap as finite
use Rattle.std.specs.FinMap.Entries.{same_entries}
use Rattle.std.specs.List.Sorted.{IsStrictlySortedBy}
use Rattle.std.specs.Option.{option_or, unwrap_or}
use Rattle.std.specs.Ordering.{eq_by_cmp}
use Rattle.std.specs.declared.cmp.Ordering.TheVariants.{Less}
use Rattle.pol_data.proofs.Every.{every-map}
use Rattle.pol_mapkey.specs.Entries.{Entry}
use Rattle.pol_mapkey.specs.MapKey.{key_cmp}
use Rattle.pol_mapkey.specs.declared.Kind.{Kind}
use Rattle.pol_mapkey.specs.declared.Kind.TheVariants.{Allow, Deny}
use Rattle.pol_mapkey.specs.declared.MapKey.{MapKey}
use Rattle.pol_mapkey.proofs.KeyOrder.{key_cmp_total, key_cmp-same}
use Rattle.pol_map_changes.specs.declared.change.Change.{Change}
use Rattle.pol_map_changes.specs.declared.change.Change.TheVariants.{Set, Clear}
use Rattle.pol_map_changes.specs.Changes.{IsAscending, changed, change_order, difference_at, said, table_of, whole}
use Rattle.pol_map_changes.specs.Laws.{ChangesMayBeMadeAgain, DifferencesAreUnique, DifferencesLead, LaterChangeStands, ListsAreWhatTheySay, NoneDiffers, TablesHaveTheirEntries, WholeIsDifference}
use Rattle.pol_map_changes.proofs.Said.{entries_ascend, entry_of, get_changed, said_again, sorted_from, take_ascends}

-- ---- at one key
made : (a b : Option Kind) → unwrap_or (difference_at a b) a ≡ b
made None None = refl
made None (Some b) = refl
made (Some a) None = refl
made (Some Allow) (Some Allow) = refl
made (Some Allow) (Some Deny) = refl
made (Some Deny) (Some Allow) = refl
made (Some Deny) (Some Deny) = refl

nothing : (a : Option Kind) → None ≡ difference_at a a
nothing None = refl
nothing (Some Allow) = refl
nothing (Some Deny) = refl

-- ---- the laws
pub differences_lead : DifferencesLead
differences_lead changes before after d =
    finite.same_map key_cmp_total key_cmp-same (changed changes before) after
    (λ q. get_changed changes d.ascending before q ∙ ap (λ o. unwrap_or o (finite.get before q)) (d.exact q) ∙ made (finite.get before q) (finite.get after q))

-- a change from its key and the kind afterwards
abbrev change_of : MapKey × Option Kind → Change
change_of e = elim e.1 [ None ↦ Clear e.0 | Some kind ↦ Set e.0 kind ]

back : (cs : List Change) → map change_of (map entry_of cs) ≡ cs
back [] = refl
back (Set key kind ∷ cs) = ap (λ r. Set key kind ∷ r) (back cs)
back (Clear key ∷ cs) = ap (λ r. Clear key ∷ r) (back cs)

pub lists_are_what_they_say : ListsAreWhatTheySay
lists_are_what_they_say one other s z same =
    let entries : map entry_of one ≡ map entry_of other = same_entries key_cmp key_cmp_total key_cmp-same (map entry_of one) (map entry_of other)
    (sorted_from (map entry_of one) (entries_ascend one s)) (sorted_from (map entry_of other) (entries_ascend other z)) same in
    sym (back one) ∙ ap (map change_of) entries ∙ back other

pub differences_are_unique : DifferencesAreUnique
differences_are_unique one other before after d e = lists_are_what_they_say one other d.ascending e.ascending (λ q. d.exact q ∙ sym (e.exact q))

empty_ascends : IsAscending []
unfolding IsStrictlySortedBy
empty_ascends = tt

pub none_differs : NoneDiffers
none_differs changes before after d = (
  λ none. ap (λ cs. changed cs before) (sym none) ∙ differences_lead changes before after d,
  λ same. differences_are_unique changes [] before after d
      (record { ascending = empty_ascends; exact = λ q. nothing (finite.get before q) ∙ ap (λ t. difference_at (finite.get before q) (finite.get t q)) same }),
)

-- ---- whole tables
pub whole_ascends : (es : List Entry) → IsStrictlySortedBy (λ a b. key_cmp a.0 b.0) es → IsAscending (whole es)
unfolding IsStrictlySortedBy
whole_ascends [] s = tt
whole_ascends (e ∷ es) s = (every-map (λ d. change_order (Set e.0 e.1) d ≡ Less) (λ (x : Entry). Set x.0 x.1) es s.0, whole_ascends es s.1)

pub said_whole : (es : List Entry) (q : MapKey) → said (whole es) q ≡ difference_at None (finite.find key_cmp q es)
said_whole [] q = refl
said_whole (e ∷ es) q =
    elim (eq_by_cmp key_cmp q e.0) as (λ b. cond b (Some (Some e.1)) (said (whole es) q) ≡ difference_at None (cond b (Some e.1) (finite.find key_cmp q es))) [
      | true ↦ refl
      | false ↦ said_whole es q
    ]

pub whole_is_difference : WholeIsDifference
whole_is_difference es s = record {
  ascending = whole_ascends es s;
  exact = λ q.
      let before : None ≡ finite.get {X = Kind} {R = key_cmp} finite.empty q = sym (finite.get-empty key_cmp q) in
      let after : finite.find key_cmp q es ≡ finite.get (table_of es) q = sym (finite.get-from_entries key_cmp_total es q) in
      said_whole es q ∙ (λ i. difference_at (before i) (after i));
}

pub tables_have_their_entries : TablesHaveTheirEntries
tables_have_their_entries es s =
    same_entries key_cmp key_cmp_total key_cmp-same (finite.entries (table_of es)) es (finite.entries_sorted (table_of es)) (sorted_from es s)
    (λ q. sym (finite.get-entries (table_of es) q) ∙ finite.get-from_entries key_cmp_total es q)

pub made_again : ChangesMayBeMadeAgain
made_again cs before now s partly =
    finite.same_map key_cmp_total key_cmp-same (changed cs now) (changed cs before)
    (λ q. get_changed cs s now q
    ∙ ap (unwrap_or (said cs q)) (ap (λ t. finite.get t q) partly.1 ∙ get_changed (take partly.0 cs) (take_ascends partly.0 cs s) before q)
    ∙ said_again partly.0 cs q (finite.get before q)
    ∙ sym (get_changed cs s before q))

-- ---- the example
two_ascend : (low high : MapKey) → key_cmp low high ≡ Less → IsAscending (Clear low ∷ Set high Deny ∷ [])
unfolding IsStrictlySortedBy
two_ascend low high p = ((p, tt), (tt, tt))

pub later_change_stands : LaterChangeStands
later_change_stands low high p both s says =
    lists_are_what_they_say both (Clear low ∷ Set high Deny ∷ []) s (two_ascend low high p) (λ q. says q ∙ at (eq_by_cmp key_cmp q low) (said (Set high Deny ∷ []) q))
  where
    at : (b : Bool) (o : Option (Option Kind)) → option_or (cond b (Some None) o) (cond b (Some (Some Allow)) None) ≡ cond b (Some None) o
    at true o = refl
    at false None = refl
    at false (Some x) = refl
