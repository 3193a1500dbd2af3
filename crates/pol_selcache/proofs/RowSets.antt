-- Which numbers the sets of a peer over some rows have.
use Rattle.std.proofs.Common.{◌≡◌, ℕ, ◌==◌, ◌<◌, ◌&&◌, ◌||◌, Bool, true, false, cond, not, List, [], ◌∷◌, map, filter, Some, refl, sym, ap, ◌∙◌, subst, inl, inr, arith}
use Rattle.std.specs.List.{AllByRecursion, list_any}
use Rattle.std.specs.List.Sorted.{IsStrictlySortedBy}
use Rattle.std.specs.Option.{option_map_or}
use Rattle.std.specs.Ordering.{nat_cmp}
use Rattle.std.proofs.lemmas.Bool.{and_parts, cases_Bool, eqb-true, and_right, ne_eqb}
use Rattle.std.proofs.lemmas.Map.Views.{any-filter_same}
use Rattle.pol_model_laws.proofs.Membership.{In-filter, In-map, filter-In, list_any-map, map-In}
use Rattle.pol_model_laws.proofs.SelectedPeerSets.{set_ascends}
use Rattle.pol_model_laws.specs.Holding.{row_of}
use Rattle.pol_model.specs.declared.row.IdentityRow.{IdentityRow}
use Rattle.pol_addr.specs.Prefix.{covers}
use Rattle.pol_headings.specs.Stands.{stands_under}
use Rattle.pol_headings.proofs.Selected.{selected_stands}
use Rattle.pol_model.specs.Selects.{selects_row, set_at}
use Rattle.pol_model.proofs.AscendingStates.{RowsAscend}
use Rattle.pol_model.proofs.Ascents.{filter_ascends}
use Rattle.pol_rule.specs.declared.policy.Peer.{Peer}
use Rattle.pol_rule.specs.declared.policy.Peer.TheVariants as peer
use Rattle.pol_ident.specs.Look.{selects_held}
use Rattle.pol_set_changes.specs.Ids.{has}
use Rattle.pol_selcache.specs.Held.{judged_under, rows_judged}
use Rattle.pol_selcache.specs.Live.{rows_without}
use Rattle.std.proofs.lemmas.List.Kept.{IsStrictlySortedBy-filter}
use Rattle.pol_data.proofs.Members.{In}
use Rattle.pol_selcache.proofs.Numbers.{In-has, has-In, has-filter, same_numbers, strict_from_ascends}

module _ {X : Type 0} where
  -- what some filtered element passes
  pub any_filter : (test p : X → Bool) (xs : List X) → list_any test (filter p xs) ≡ list_any (λ x. p x && test x) xs
  any_filter test p [] = refl
  any_filter test p (x ∷ xs) =
      elim (p x) as (λ b. list_any test (cond b (x ∷ filter p xs) (filter p xs)) ≡ ((b && test x) || list_any (λ y. p y && test y) xs)) [
        | true ↦ ap (λ b. test x || b) (any_filter test p xs)
        | false ↦ any_filter test p xs
      ]

module _ (p : Peer) where
  abbrev is_selected_as : ℕ → IdentityRow → Bool
  is_selected_as n row = selects_row p row && (row.number == n)

  pub has-set_at : (n : ℕ) (rows : List IdentityRow) → has n (set_at rows p) ≡ list_any (is_selected_as n) rows
  has-set_at n rows =
      list_any-map (λ row. row.number) (λ own. own == n) (filter (selects_row p) rows)
      ∙ any_filter (λ row. row.number == n) (selects_row p) rows

  -- without some numbers' rows the set is without them
  pub has-set_without : (n : ℕ) (numbers : List ℕ) (rows : List IdentityRow) → has n (set_at (rows_without numbers rows) p) ≡ (not (has n numbers) && has n (set_at rows p))
  has-set_without n numbers rows =
      has-set_at n (rows_without numbers rows)
      ∙ any-filter_same (is_selected_as n) (λ row. not (has row.number numbers)) (not (has n numbers))
      (λ row passes. ap (λ m. not (has m numbers)) (eqb-true row.number n (second (selects_row p row) (row.number == n) passes))) rows
      ∙ ap (λ b. not (has n numbers) && b) (sym (has-set_at n rows))
    where
      second : (a b : Bool) → (a && b) ≡ true → b ≡ true
      second true b both = both
      second false b both = absurd (let wrong : ⊥ = cc in wrong)

  none_above : (n : ℕ) (rows : List IdentityRow) → AllByRecursion (λ m. n < m) (map (λ row. row.number) rows) → list_any (is_selected_as n) rows ≡ false
  none_above n [] above = refl
  none_above n (row ∷ rows) above =
      let other : (row.number == n) ≡ false = ne_eqb row.number n (λ same. let more = above.0 in omega arith) in
      ap (λ b. b || list_any (is_selected_as n) rows) (and_right (selects_row p row) (row.number == n) other)
      ∙ none_above n rows above.1

  -- a number is in the set exactly where it is held and selected
  pub has-held : (n : ℕ) (rows : List IdentityRow) → RowsAscend rows → selects_held rows p n ≡ has n (set_at rows p)
  has-held n rows ascend = held n rows ascend ∙ sym (has-set_at n rows)
    where
      held : (n : ℕ) (rows : List IdentityRow) → RowsAscend rows → selects_held rows p n ≡ list_any (is_selected_as n) rows
      held n [] ascend = refl
      held n (row ∷ rows) ascend =
          elim (cases_Bool (row.number == n)) [
            | inl same ↦
                let none = none_above n rows (subst (λ m. AllByRecursion (λ k. m < k) (map (λ r. r.number) rows)) (eqb-true row.number n same) ascend.0) in
                rw (same, none) (sides (selects_row p row))
            | inr other ↦
                let rest = held n rows ascend.1 in
                ap (λ b. option_map_or (selects_row p) (cond b (Some row) (row_of n rows)) false) other
                ∙ rest
                ∙ ap (λ b. b || list_any (is_selected_as n) rows) (sym (and_right (selects_row p row) (row.number == n) other))
          ]
        where
          sides : (b : Bool) → b ≡ ((b && true) || false)
          sides true = refl
          sides false = refl

  pub set_sorted : (rows : List IdentityRow) → RowsAscend rows → IsStrictlySortedBy nat_cmp (set_at rows p)
  set_sorted rows ascend = strict_from_ascends (set_at rows p) (set_ascends rows p ascend)

pub rows_without_ascend : (numbers : List ℕ) (rows : List IdentityRow) → RowsAscend rows → RowsAscend (rows_without numbers rows)
rows_without_ascend numbers rows ascend = filter_ascends (λ row. row.number) (λ row. not (has row.number numbers)) rows ascend

-- of these rows' numbers those that the peer selects are its set, where these rows have all that it selects
module _ (p : Peer) (rows few : List IdentityRow) (ascend : RowsAscend rows) (few_ascend : RowsAscend few)
    (has_all : (row : IdentityRow) → In row rows → selects_row p row ≡ true → In row few) where
  abbrev numbers : List ℕ
  numbers = map (λ row. row.number) few

  is_among : (n : ℕ) → has n (set_at rows p) ≡ true → has n numbers ≡ true
  is_among n there =
      let found = In-map (λ (row : IdentityRow). row.number) n (filter (selects_row p) rows) (In-has n (set_at rows p) there) in
      let selected = In-filter (selects_row p) found.0 rows found.1 in
      let its : In found.0 few = has_all found.0 selected.0 selected.1 in
      has-In n numbers (subst (λ m. In m numbers) found.2 (map-In (λ (row : IdentityRow). row.number) found.0 few its))

  pub selected_among : filter (selects_held rows p) numbers ≡ set_at rows p
  selected_among =
      same_numbers _ _
      (IsStrictlySortedBy-filter nat_cmp (selects_held rows p) _ (strict_from_ascends numbers few_ascend))
      (set_sorted p rows ascend)
      (λ n. has-filter (selects_held rows p) n numbers
      ∙ ap (λ b. b && has n numbers) (has-held p n rows ascend)
      ∙ within (has n (set_at rows p)) (has n numbers) (is_among n))
    where
      within : (a b : Bool) → (a ≡ true → b ≡ true) → (a && b) ≡ a
      within true b implies = implies refl
      within false b implies = refl

-- who is selected is judged
selected_judged : (p : Peer) (row : IdentityRow) → selects_row p row ≡ true → stands_under (judged_under p) row ≡ true
selected_judged (peer.Labels selector) row selected = selected_stands (peer.Labels selector) row selected
selected_judged (peer.Cidr prefix except) row selected = (and_parts (option_map_or (covers prefix) row.prefix false) _ selected).0
selected_judged (peer.Entity entity) row selected = selected_stands (peer.Entity entity) row selected

-- of the numbers that are judged those that the peer selects are its set
pub judged_selected : (rows : List IdentityRow) (p : Peer) → RowsAscend rows → filter (selects_held rows p) (map (λ row. row.number) (rows_judged rows p)) ≡ set_at rows p
judged_selected rows p ascend =
    selected_among p rows (rows_judged rows p) ascend (filter_ascends (λ row. row.number) (stands_under (judged_under p)) rows ascend)
    (λ row there selected. filter-In (stands_under (judged_under p)) row rows there (selected_judged p row selected))
