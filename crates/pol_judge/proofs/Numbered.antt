-- Rows that ascend by number: at most one has a number.
use Rattle.std.proofs.Common.{◌≡◌, ℕ, ◌==◌, ◌<◌, ◌&&◌, ◌||◌, Bool, true, false, List, [], ◌∷◌, map, refl, sym, ap, inl, inr, subst, arith}
use Rattle.std.specs.List.{AllByRecursion, list_any}
use Rattle.std.specs.Option.{option_map_or}
use Rattle.std.proofs.lemmas.Bool.{cases_Bool, eqb-true, ne_eqb}
use Rattle.pol_model_laws.specs.Holding.{row_of}
use Rattle.pol_model.specs.declared.row.IdentityRow.{IdentityRow}
use Rattle.pol_model.proofs.AscendingStates.{RowsAscend}
use Rattle.pol_model.specs.Selects.{is_all, selects_number, selects_row}
use Rattle.pol_rule.specs.declared.policy.Peer.{Peer}
use Rattle.pol_model_laws.specs.Keeps.{KeepsRows}
use Rattle.pol_ident.specs.Look.{selects_held}

or_false : (b : Bool) → (b || false) ≡ b
or_false true = refl
or_false false = refl

module _ (passes : IdentityRow → Bool) where
  none_above : (n : ℕ) (rows : List IdentityRow) → AllByRecursion (λ m. n < m) (map (λ row. row.number) rows) → list_any (λ row. (row.number == n) && passes row) rows ≡ false
  none_above n [] above = refl
  none_above n (row ∷ rows) above =
      let other : (row.number == n) ≡ false = ne_eqb row.number n (λ same. let more = above.0 in omega arith) in
      rw other (none_above n rows above.1)

  -- a row of the number passes where the one that is found does
  pub any_of_number : (n : ℕ) (rows : List IdentityRow) → RowsAscend rows → option_map_or passes (row_of n rows) false ≡ list_any (λ row. (row.number == n) && passes row) rows
  any_of_number n [] ascend = refl
  any_of_number n (row ∷ rows) ascend =
      elim (cases_Bool (row.number == n)) [
        | inl same ↦
            let none = none_above n rows (subst (λ m. AllByRecursion (λ k. m < k) (map (λ r. r.number) rows)) (eqb-true row.number n same) ascend.0) in
            rw (same, none, or_false (passes row)) refl
        | inr other ↦ rw other (any_of_number n rows ascend.1)
      ]

-- so a number is selected by `all`, or where it is held and its row is
pub selects_number_is : (rows : List IdentityRow) (number : ℕ) (p : Peer) → KeepsRows rows → selects_number rows number p ≡ (is_all p || selects_held rows p number)
selects_number_is rows number p keeps = ap (λ b. is_all p || b) (sym (any_of_number (selects_row p) number rows keeps.numbers))
