-- Sets over rows of which some came or went.
use Rattle.std.proofs.Common.{◌≡◌, ℕ, ◌==◌, ◌&&◌, Bool, true, false, not, List, filter, refl, sym, ap, ◌∙◌}
use Rattle.std.specs.List.{Contains}
use Rattle.std.specs.Ordering.{nat_cmp}
use Rattle.std.proofs.lemmas.List.Kept.{IsStrictlySortedBy-filter}
use Rattle.pol_data.proofs.Every.{every-weaker}
use Rattle.pol_data.proofs.Members.{In-from_Contains, every-in}
use Rattle.pol_model_laws.specs.Holding.{has_row, IsPartOf}
use Rattle.pol_model_laws.proofs.HoldingLaws.{part_set}
use Rattle.pol_model_laws.proofs.Membership.{In-filter, In-map, list_any-In}
use Rattle.std.proofs.lemmas.Bool.{eq-eqb}
use Rattle.pol_model.specs.declared.row.IdentityRow.{IdentityRow}
use Rattle.pol_model.specs.Selects.{selects_row, set_at}
use Rattle.pol_model.proofs.AscendingStates.{RowsAscend}
use Rattle.pol_rule.specs.declared.policy.Peer.{Peer}
use Rattle.pol_set_changes.specs.Ids.{has}
use Rattle.pol_selcache.specs.Live.{Live, AreExact, rows_without}
use Rattle.pol_selcache.proofs.Numbers.{In-has, has-filter, same_numbers}
use Rattle.pol_selcache.proofs.RowSets.{has-set_without, rows_without_ascend, set_sorted}

-- what a set has, has a row
has_its_row : (n : ℕ) (rows : List IdentityRow) (p : Peer) → has n (set_at rows p) ≡ true → has_row n rows ≡ true
has_its_row n rows p there =
    let found = In-map (λ (row : IdentityRow). row.number) n (filter (selects_row p) rows) (In-has n (set_at rows p) there) in
    list_any-In (λ row. row.number == n) found.0 rows (In-filter (selects_row p) found.0 rows found.1).0 (eq-eqb found.0.number n found.2)

-- The numbers are those of all rows that the part has not: without their rows a set is that over the part.
module _ (part all : List IdentityRow) (numbers : List ℕ) (ascend : RowsAscend all) (is_part : IsPartOf part all)
    (are : (n : ℕ) → has_row n all ≡ true → has n numbers ≡ not (has_row n part)) (p : Peer) where
  agree : (held comes own : Bool) → (held ≡ true → comes ≡ not own) → (not comes && held) ≡ (own && held)
  agree true comes own is = by comes own (is refl)
    where
      by : (comes own : Bool) → comes ≡ not own → (not comes && true) ≡ (own && true)
      by true true is = absurd (let wrong : ⊥ = cc in wrong)
      by true false is = refl
      by false true is = refl
      by false false is = absurd (let wrong : ⊥ = cc in wrong)
  agree false true true is = refl
  agree false true false is = refl
  agree false false true is = refl
  agree false false false is = refl

  pub set_of_part : set_at (rows_without numbers all) p ≡ set_at part p
  set_of_part =
      same_numbers _ _
      (set_sorted p (rows_without numbers all) (rows_without_ascend numbers all ascend))
      (IsStrictlySortedBy-filter nat_cmp (λ n. has_row n part) (set_at all p) (set_sorted p all ascend))
      (λ n. has-set_without p n numbers all
      ∙ agree (has n (set_at all p)) (has n numbers) (has_row n part) (λ there. are n (has_its_row n all p there))
      ∙ sym (has-filter (λ m. has_row m part) n (set_at all p)))
      ∙ sym (part_set part all p is_part)

pub exact_as_come : (part all : List IdentityRow) (come : List ℕ) (live : List Live) → RowsAscend all → IsPartOf part all
    → ((n : ℕ) → has_row n all ≡ true → has n come ≡ not (has_row n part)) → AreExact part live → AreExact (rows_without come all) live
exact_as_come part all come live ascend is_part are exact =
    every-weaker (λ s. s.set ≡ set_at part s.peer) (λ s. s.set ≡ set_at (rows_without come all) s.peer)
    (λ s is. is ∙ sym (set_of_part part all come ascend is_part are s.peer)) live exact

pub exact_as_gone : (all part : List IdentityRow) (gone : List ℕ) (live : List Live) → RowsAscend all → IsPartOf part all
    → ((n : ℕ) → has_row n all ≡ true → has n gone ≡ not (has_row n part)) → AreExact (rows_without gone all) live → AreExact part live
exact_as_gone all part gone live ascend is_part are exact =
    every-weaker (λ s. s.set ≡ set_at (rows_without gone all) s.peer) (λ s. s.set ≡ set_at part s.peer)
    (λ s is. is ∙ set_of_part part all gone ascend is_part are s.peer) live exact

pub late_as_early : (rows : List IdentityRow) (early late : List Live) (s t : Live) → AreExact rows early → AreExact rows late → Contains early s → Contains late t → s.peer ≡ t.peer → s.set ≡ t.set
late_as_early rows early late s t early_exact late_exact s_in t_in same =
    every-in (λ u. u.set ≡ set_at rows u.peer) early early_exact s (In-from_Contains early s s_in)
    ∙ ap (set_at rows) same
    ∙ sym (every-in (λ u. u.set ≡ set_at rows u.peer) late late_exact t (In-from_Contains late t t_in))
