-- The set of a peer: it ascends, and a number is in it exactly where the peer selects the number's row.
use Rattle.std.proofs.Common.{◌≡◌, ℕ, ◌==◌, ◌&&◌, ◌||◌, Bool, true, false, List, [], ◌∷◌, refl, ap, ◌∙◌, inl, inr}
use Rattle.std.specs.List.{list_any}
use Rattle.std.proofs.lemmas.Bool.{and_right, cases_Bool}
use Rattle.pol_rule.specs.declared.policy.Peer.{Peer}
use Rattle.pol_model.specs.declared.row.IdentityRow.{IdentityRow}
use Rattle.pol_model.specs.Ascending.{Ascends}
use Rattle.pol_model.specs.Selects.{is_all, selects_number, selects_row, set_at}
use Rattle.pol_model.proofs.AscendingStates.{RowsAscend}
use Rattle.pol_model.proofs.Ascents.{filter_ascends}

pub set_ascends : (rows : List IdentityRow) (p : Peer) → RowsAscend rows → Ascends (set_at rows p)
set_ascends rows p ascend = filter_ascends (λ row. row.number) (selects_row p) rows ascend

and_true_right : (b : Bool) → (b && true) ≡ b
and_true_right true = refl
and_true_right false = refl

selected_in : (rows : List IdentityRow) (number : ℕ) (p : Peer) → list_any (λ row. (row.number == number) && selects_row p row) rows ≡ list_any (λ n. n == number) (set_at rows p)
selected_in [] number p = refl
selected_in (row ∷ rows) number p =
    let others = selected_in rows number p in
    elim (cases_Bool (selects_row p row)) [
      | inl selected ↦ rw (selected, and_true_right (row.number == number), others) refl
      | inr not_selected ↦
          let none = and_right (row.number == number) (selects_row p row) not_selected in
          ap (λ b. b || list_any (λ row. (row.number == number) && selects_row p row) rows) none ∙ others ∙ rw not_selected refl
    ]

pub selected : (rows : List IdentityRow) (number : ℕ) (p : Peer) → selects_number rows number p ≡ (is_all p || list_any (λ n. n == number) (set_at rows p))
selected rows number p = ap (λ b. is_all p || b) (selected_in rows number p)
