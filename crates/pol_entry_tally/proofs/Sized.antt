-- The size of a map after its changes.
use Rattle.std.proofs.Common.{◌≡◌, ℕ, ◌+◌, ◌-◌, ◌<◌, ◌&&◌, Bool, true, false, cond, not, List, [], ◌∷◌, length, count_by, Option, Some, None, is_some, refl, sym, ◌∙◌, ap, subst, inl, inr, arith}
use Rattle.std.specs.FinMap as finite
use Rattle.std.specs.List.{AllByRecursion}
use Rattle.std.specs.List.Sorted.{IsStrictlySortedBy}
use Rattle.std.specs.Ordering.{eq_by_cmp}
use Rattle.std.specs.declared.cmp.Ordering.TheVariants.{Less}
use Rattle.std.proofs.lemmas.Bool.{cases_eq, false_from_ne_true}
use Rattle.std.proofs.lemmas.Cmp.{tied_itself}
use Rattle.pol_data.proofs.Counts.{count_by-cons}
use Rattle.pol_data.proofs.Every.{every-append}
use Rattle.pol_mapkey.specs.Entries.{Entry}
use Rattle.pol_mapkey.specs.MapKey.{key_cmp}
use Rattle.pol_mapkey.specs.declared.Kind.{Kind}
use Rattle.pol_mapkey.specs.declared.MapKey.{MapKey}
use Rattle.pol_mapkey.proofs.KeyOrder.{key_cmp_total}
use Rattle.pol_model.specs.PolicyMap.{canonical}
use Rattle.pol_distill.specs.Sorted.{IsSmall}
use Rattle.pol_distill.proofs.OnePass.{canonical_is_table}
use Rattle.pol_map_changes.specs.declared.change.Change.{Change}
use Rattle.pol_map_changes.specs.declared.change.Change.TheVariants.{Set, Clear}
use Rattle.pol_map_changes.specs.Changes.{IsAscending, change_order, changed, changed_once, difference_at, key_of, kind_after, same_kind, table_of}
use Rattle.pol_map_changes.proofs.Differences.{differences_lead, tables_have_their_entries}
use Rattle.pol_map_changes.proofs.Said.{get_once, same_of}
use Rattle.pol_trie.specs.PolicyMap.{PolicyMap}
use Rattle.pol_entry_tally.specs.Affected.{Lists, change_at}
use Rattle.pol_entry_tally.specs.Sizes.{clear_count, is_clear, new_count}
use Rattle.pol_entry_tally.specs.Times.{Times, kind_of, times}
use Rattle.pol_entry_tally.proofs.Differ.{made}
use Rattle.pol_entry_tally.proofs.OfEntries.{reads}
use Rattle.pol_entry_tally.proofs.Whole.{listed_is}

-- a lesser key is another one
apart : (k q : MapKey) → key_cmp k q ≡ Less → eq_by_cmp key_cmp q k ≡ false
apart k q less =
    false_from_ne_true (eq_by_cmp key_cmp q k) (λ tie.
    let own : key_cmp k k ≡ Less = subst (λ x. key_cmp k x ≡ Less) (same_of q k tie) less in
    let tied = tied_itself key_cmp_total k in
    cc)

-- a table that has a key has an entry
positive : (t : PolicyMap) (key : MapKey) → finite.contains_key t key ≡ true → 0 < finite.len t
positive t key has =
    elim (cases_eq (finite.len t) 0) [
      | inl zero ↦ absurd (
          let none : finite.contains_key t key ≡ false = ap (λ (m : PolicyMap). finite.contains_key m key) (finite.empty_of_len t zero) ∙ ap is_some (finite.get-empty key_cmp key) in
          cc
          )
      | inr differs ↦ omega (arith, differs)
    ]

set_step : (b : Bool) (n m : ℕ) → m ≡ cond b n (n + 1) → m + 0 ≡ n + cond (not b) 1 0
set_step true n m is = omega (arith, is)
set_step false n m is = omega (arith, is)

clear_step : (n m : ℕ) → 0 < n → m ≡ n - 1 → m + 1 ≡ n + 0
clear_step n m some is = omega (arith, some, is)

module _ (f : MapKey → Bool) where
  abbrev news : Change → Bool
  news c = is_some (kind_after c) && not (f (key_of c))

  once : (c : Change) (t : PolicyMap) → finite.contains_key t (key_of c) ≡ f (key_of c) → (is_clear c ≡ true → f (key_of c) ≡ true)
      → finite.len (changed_once c t) + cond (is_clear c) 1 0 ≡ finite.len t + cond (news c) 1 0
  once (Set key kind) t has clears =
      set_step (f key) (finite.len t) (finite.len (finite.insert t key kind)) (finite.len-insert key_cmp_total t key kind ∙ ap (λ b. cond b (finite.len t) (finite.len t + 1)) has)
  once (Clear key) t has clears =
      let there : finite.contains_key t key ≡ true = has ∙ clears refl in
      clear_step (finite.len t) (finite.len (finite.remove t key)) (positive t key there) (finite.len-remove key_cmp_total t key ∙ ap (λ b. cond b (finite.len t - 1) (finite.len t)) there)

  -- what holds of greater keys still does
  kept : (c : Change) (t : PolicyMap) (cs : List Change) → AllByRecursion (λ d. change_order c d ≡ Less) cs
      → AllByRecursion (λ d. finite.contains_key t (key_of d) ≡ f (key_of d)) cs → AllByRecursion (λ d. finite.contains_key (changed_once c t) (key_of d) ≡ f (key_of d)) cs
  kept c t [] above has = tt
  kept c t (d ∷ ds) above has = (
    ap is_some (get_once c t (key_of d) ∙ ap (λ b. cond b (kind_after c) (finite.get t (key_of d))) (apart (key_of c) (key_of d) above.0)) ∙ has.0,
    kept c t ds above.1 has.1,
  )

  grown : (cs : List Change) (t : PolicyMap) → IsAscending cs → AllByRecursion (λ c. finite.contains_key t (key_of c) ≡ f (key_of c)) cs
      → AllByRecursion (λ c. is_clear c ≡ true → f (key_of c) ≡ true) cs → finite.len (changed cs t) + count_by is_clear cs ≡ finite.len t + count_by news cs
  unfolding IsStrictlySortedBy
  grown [] t up has clears = refl
  grown (c ∷ cs) t up has clears =
      omega (arith, once c t has.0 clears.0, grown cs (changed_once c t) up.1 (kept c t cs up.0 has.1) clears.1, count_by-cons is_clear c cs, count_by-cons news c cs)

-- a key that is cleared had an entry
module _ (before after : MapKey → Option Kind) where
  abbrev Had : Change → Type 0
  Had c = is_clear c ≡ true → is_some (before (key_of c)) ≡ true

  one_had : (key : MapKey) (b a : Option Kind) → before key ≡ b → AllByRecursion Had (change_at key (difference_at b a))
  one_had key None None e = tt
  one_had key None (Some a) e = ((λ t. cc), tt)
  one_had key (Some b) None e = ((λ t. ap is_some e), tt)
  one_had key (Some b) (Some a) e = by (same_kind b a)
    where
      by : (x : Bool) → AllByRecursion Had (change_at key (cond x None (Some (Some a))))
      by true = tt
      by false = ((λ t. cc), tt)

  all_had : (keys : List MapKey) → AllByRecursion Had (made (λ key. difference_at (before key) (after key)) keys)
  all_had [] = tt
  all_had (key ∷ keys) =
      every-append Had (change_at key (difference_at (before key) (after key))) (made (λ key. difference_at (before key) (after key)) keys) (one_had key (before key) (after key) refl) (all_had keys)

every : {X : Type 0} (P : X → Type 0) → ((x : X) → P x) → (xs : List X) → AllByRecursion P xs
every P holds [] = tt
every P holds (x ∷ xs) = (holds x, every P holds xs)

table_len : (raw : List Entry) → finite.len (table_of (canonical raw)) ≡ length (canonical raw)
table_len raw = finite.len-entries (table_of (canonical raw)) ∙ ap length (tables_have_their_entries (canonical raw) (canonical_is_table raw))

module _ (was_times is_times : Times) (changes : List Change) (before after : List Entry)
    (was : (q : MapKey) (k : Kind) → was_times q k ≡ times before q k) (is : (q : MapKey) (k : Kind) → is_times q k ≡ times after q k) where
  pub listed_size : AllByRecursion IsSmall before → AllByRecursion IsSmall after
      → Lists was_times is_times changes → length (canonical after) + clear_count changes ≡ length (canonical before) + new_count was_times changes
  listed_size small small_after lists =
      let difference = listed_is was_times is_times changes before after was is small small_after lists in
      let leads : changed changes (table_of (canonical before)) ≡ table_of (canonical after) = differences_lead changes (table_of (canonical before)) (table_of (canonical after)) difference in
      let has : (c : Change) → finite.contains_key (table_of (canonical before)) (key_of c) ≡ is_some (kind_of was_times (key_of c)) = λ c.
      ap is_some (finite.get-from_entries key_cmp_total (canonical before) (key_of c) ∙ reads before small (key_of c)
      ∙ ap (λ (counts : Times). kind_of counts (key_of c)) (λ i q k. sym (was q k) i)) in
      let had : AllByRecursion (λ c. is_clear c ≡ true → is_some (kind_of was_times (key_of c)) ≡ true) changes =
      subst (AllByRecursion (λ c. is_clear c ≡ true → is_some (kind_of was_times (key_of c)) ≡ true)) (sym lists.made)
      (all_had (kind_of was_times) (kind_of is_times) lists.keys) in
      omega (
        arith,
        table_len before,
        table_len after,
        ap (finite.len {R = key_cmp}) leads,
        grown (λ q. is_some (kind_of was_times q)) changes (table_of (canonical before)) difference.ascending (every _ has changes) had,
      )
