-- A plan makes the sets exact.
use Rattle.std.proofs.Common.{◌≡◌, ℕ, ◌==◌, ◌<◌, ◌&&◌, Bool, true, false, cond, List, [], ◌∷◌, map, find, Option, Some, None, refl, sym, ap, ◌∙◌, subst, inl, inr, arith}
use Rattle.std.specs.List.{AllByRecursion, filter_map, cons_option}
use Rattle.std.specs.List.Sorted.{IsStrictlySortedBy}
use Rattle.std.specs.Option.{option_map_or}
use Rattle.std.specs.Ordering.{nat_cmp}
use Rattle.std.proofs.lemmas.Bool.{and_parts, eq-eqb, ne_eqb, not_from_false, true_from_ne_false}
use Rattle.pol_data.proofs.Members.{In}
use Rattle.pol_model.specs.Ascending.{Ascends}
use Rattle.pol_model.specs.declared.row.IdentityRow.{IdentityRow}
use Rattle.pol_model.specs.Selects.{set_at}
use Rattle.pol_model.proofs.AscendingStates.{RowsAscend}
use Rattle.pol_set_changes.specs.Ids.{has, without}
use Rattle.pol_selcache.specs.Live.{Live, AreExact}
use Rattle.pol_selcache.specs.Plan.{Planned, is_empty, change_to, changes_for, changed}
use Rattle.pol_selcache.proofs.Numbers.{has-without, has_none, same_numbers}
use Rattle.pol_selcache.proofs.RowSets.{set_sorted}

abbrev pub is_of : ℕ → Planned → Bool
is_of number change = change.selector == number

-- ---- a list that neither has more nor less is the same
no_more : (n : ℕ) (xs ys : List ℕ) → is_empty (without xs ys) ≡ true → has n xs ≡ true → has n ys ≡ true
no_more n xs ys empty there =
    true_from_ne_false (has n ys) (λ absent.
    let none : has n (without xs ys) ≡ false = has_none n (without xs ys) empty in
    let some : has n (without xs ys) ≡ true = has-without n xs ys ∙ (λ i. not_from_false (has n ys) absent i && there i) in
    let wrong : true ≡ false = sym some ∙ none in cc)

pub unmoved : (xs ys : List ℕ) → IsStrictlySortedBy nat_cmp xs → IsStrictlySortedBy nat_cmp ys → (is_empty (without ys xs) && is_empty (without xs ys)) ≡ true → xs ≡ ys
unmoved xs ys xs_sorted ys_sorted still =
    let both = and_parts (is_empty (without ys xs)) (is_empty (without xs ys)) still in
    same_numbers xs ys xs_sorted ys_sorted (λ n. agree (has n xs) (has n ys) (no_more n xs ys both.1) (no_more n ys xs both.0))
  where
    agree : (a b : Bool) → (a ≡ true → b ≡ true) → (b ≡ true → a ≡ true) → a ≡ b
    agree true b to back = sym (to refl)
    agree false true to back = back refl
    agree false false to back = refl

-- ---- the change of a selector is found by its number
module _ (f : Live → Option Planned) (own : (s : Live) (change : Planned) → f s ≡ Some change → change.selector ≡ s.number) where
  none_later : (n : ℕ) (live : List Live) → AllByRecursion (λ m. n < m) (map (λ s. s.number) live) → find (is_of n) (filter_map f live) ≡ None
  none_later n [] above = refl
  none_later n (s ∷ live) above = by (f s) refl (none_later n live above.1)
    where
      by : (o : Option Planned) → f s ≡ o → find (is_of n) (filter_map f live) ≡ None → find (is_of n) (cons_option o (filter_map f live)) ≡ None
      by None is rest = rest
      by (Some change) is rest =
          let other : is_of n change ≡ false = ne_eqb change.selector n (λ same. let at = own s change is in let more = above.0 in omega arith) in
          ap (λ b. cond b (Some change) (find (is_of n) (filter_map f live))) other ∙ rest

  above_In : (n : ℕ) (t : Live) (live : List Live) → AllByRecursion (λ m. n < m) (map (λ s. s.number) live) → In t live → n < t.number
  above_In n t [] above there = elim there [ ]
  above_In n t (s ∷ live) above (inl same) = subst (λ u. n < u.number) same above.0
  above_In n t (s ∷ live) above (inr later) = above_In n t live above.1 later

  pub found_own : (t : Live) (live : List Live) → Ascends (map (λ s. s.number) live) → In t live → find (is_of t.number) (filter_map f live) ≡ f t
  found_own t [] ascend there = elim there [ ]
  found_own t (s ∷ live) ascend (inl same) =
      subst (λ u. find (is_of u.number) (filter_map f (s ∷ live)) ≡ f u) same (by (f s) refl)
    where
      by : (o : Option Planned) → f s ≡ o → find (is_of s.number) (cons_option o (filter_map f live)) ≡ o
      by None is = none_later s.number live ascend.0
      by (Some change) is = ap (λ b. cond b (Some change) (find (is_of s.number) (filter_map f live))) (eq-eqb change.selector s.number (own s change is))
  found_own t (s ∷ live) ascend (inr later) = by (f s) refl (found_own t live ascend.1 later)
    where
      by : (o : Option Planned) → f s ≡ o → find (is_of t.number) (filter_map f live) ≡ f t → find (is_of t.number) (cons_option o (filter_map f live)) ≡ f t
      by None is rest = rest
      by (Some change) is rest =
          let other : is_of t.number change ≡ false = ne_eqb change.selector t.number (λ same. let at = own s change is in let more = above_In s.number t live ascend.0 later in omega arith) in
          ap (λ b. cond b (Some change) (find (is_of t.number) (filter_map f live))) other ∙ rest

pub change_of_own : (set : List ℕ) (s : Live) (change : Planned) → change_to set s ≡ Some change → change.selector ≡ s.number
change_of_own set s change is = by (is_empty (without set s.set) && is_empty (without s.set set)) is
  where
    by : (b : Bool) → cond b None (Some (record { selector = s.number; gained = without set s.set; lost = without s.set set; set = set })) ≡ Some change → change.selector ≡ s.number
    by true is = absurd (let wrong : ⊥ = cc in wrong)
    by false is = ap (λ o. option_map_or (λ (c : Planned). c.selector) o 0) (sym is)

-- ---- so each set is that of its peer over the rows
module _ (rows before : List IdentityRow) (ascend : RowsAscend rows) (before_ascend : RowsAscend before) where
  planned_set : (s : Live) → s.set ≡ set_at before s.peer → option_map_or (λ (change : Planned). change.set) (change_to (set_at rows s.peer) s) s.set ≡ set_at rows s.peer
  planned_set s exact = by (is_empty (without (set_at rows s.peer) s.set) && is_empty (without s.set (set_at rows s.peer))) refl
    where
      by : (b : Bool) → (is_empty (without (set_at rows s.peer) s.set) && is_empty (without s.set (set_at rows s.peer))) ≡ b
          → option_map_or (λ (change : Planned). change.set) (cond b None (Some (record { selector = s.number; gained = without (set_at rows s.peer) s.set; lost = without s.set (set_at rows s.peer); set = set_at rows s.peer }))) s.set ≡ set_at rows s.peer
      by true still = unmoved s.set (set_at rows s.peer) (subst (IsStrictlySortedBy nat_cmp) (sym exact) (set_sorted s.peer before before_ascend)) (set_sorted s.peer rows ascend) still
      by false moves = refl

  made_exact : (all live : List Live) → ((s : Live) → In s live → In s all) → Ascends (map (λ s. s.number) all) → AreExact before live
      → AreExact rows (changed (changes_for rows all) live)
  made_exact all [] part numbers exact = tt
  made_exact all (s ∷ live) part numbers exact = (
    ap (λ o. option_map_or (λ (change : Planned). change.set) o s.set) (found_own (λ t. change_to (set_at rows t.peer) t) (λ t change is. change_of_own (set_at rows t.peer) t change is) s all numbers (part s (inl refl)))
        ∙ planned_set s exact.0,
    made_exact all live (λ t there. part t (inr there)) numbers exact.1,
  )

  pub plan_makes_exact : (live : List Live) → Ascends (map (λ s. s.number) live) → AreExact before live → AreExact rows (changed (changes_for rows live) live)
  plan_makes_exact live numbers exact = made_exact live live (λ s there. there) numbers exact
