-- The changes of sets of a small journal.
use Rattle.std.proofs.Common.{◌≡◌, ℕ, zero, suc, ◌≤◌, true, false, List, [], ◌∷◌, ◌++◌, Option, Some, None, refl, sym, ap, ◌∙◌, subst, arith}
use Rattle.pol_addr.specs.Cidr.{network}
use Rattle.pol_addr.specs.Prefix.{covers}
use Rattle.pol_sets.specs.declared.sets.Move.{Move}
use Rattle.pol_sets.specs.declared.sets.SetRow.{SetRow}
use Rattle.pol_model.specs.After.{state_of}
use Rattle.pol_model_laws.specs.WorkedMaps.{ordinary}
use Rattle.pol_set_changes.specs.Ids.{without}
use Rattle.pol_set_moves.specs.Changes.{IsListedSince, changes_between, horizon_of, revisions_until, set_in, state_at}
use Rattle.pol_set_moves.specs.Examples.{listings, of_net, of_x}
use Rattle.pol_set_moves.specs.Moves.{TellsMovesSince}

pub all_revisions : revisions_until ordinary listings 5 ≡ 5 ∷ 3 ∷ 2 ∷ []
unfolding covers network
all_revisions = refl

pub no_change : changes_between (state_at ordinary listings 3) (state_at ordinary listings 4) ≡ 0
unfolding covers network
no_change = refl

pub none_dropped : horizon_of ordinary listings ≡ 0
unfolding covers network
none_dropped = refl

pub listed_since : IsListedSince ordinary listings 2 of_x
listed_since zero low high = absurd (omega (arith, low))
listed_since (suc zero) low high = absurd (omega (arith, low))
listed_since (suc (suc zero)) low high = refl
listed_since (suc (suc (suc zero))) low high = refl
listed_since (suc (suc (suc (suc zero)))) low high = refl
listed_since (suc (suc (suc (suc (suc zero))))) low high = refl
listed_since (suc (suc (suc (suc (suc (suc more)))))) low high = absurd (let seen : suc (suc (suc (suc (suc (suc more))))) ≤ 5 = high in omega (arith, seen))

pub later_listed : IsListedSince ordinary listings 3 of_x
later_listed revision low high = listed_since revision (omega (arith, low)) high

pub not_before : IsListedSince ordinary listings 1 of_x → ⊥
not_before all = let within : 1 ≤ 5 = omega arith in let wrong : false ≡ true = all 1 (omega arith) within in cc

pub no_longer_listed : IsListedSince ordinary listings 2 of_net → ⊥
no_longer_listed all = let within : 5 ≤ 5 = omega arith in let wrong : false ≡ true = all 5 (omega arith) within in cc

-- what is told of the moves of a row of that peer
module _ (since : ℕ) (row : SetRow) (is : row.peer ≡ of_x) where
  told : IsListedSince ordinary listings since of_x → (gained lost : List ℕ)
      → without (set_in (state_of ordinary listings) of_x) (set_in (state_at ordinary listings since) of_x) ≡ gained
      → without (set_in (state_at ordinary listings since) of_x) (set_in (state_of ordinary listings) of_x) ≡ lost
      → (moves : Option (List Move)) → TellsMovesSince ordinary listings (Some since) (row ∷ []) moves
      → moves ≡ Some (record { selector = row.selector; gained = gained; lost = lost } ∷ [])
  told listed gained lost more less None below = absurd (omega (arith, below, none_dropped))
  told listed gained lost more less (Some moves) tells =
      let each = tells.1 in
      let one = each.2.0.listed (subst (IsListedSince ordinary listings since) (sym is) listed) in
      let m : Move = one.0 in
      let here = one.3.gained ∙ ap (λ p. without (set_in (state_of ordinary listings) p) (set_in (state_at ordinary listings since) p)) is ∙ more in
      let gone = one.3.lost ∙ ap (λ p. without (set_in (state_at ordinary listings since) p) (set_in (state_of ordinary listings) p)) is ∙ less in
      let same : m ≡ record { selector = row.selector; gained = gained; lost = lost } = λ i. record { selector = one.2 i; gained = here i; lost = gone i } in
      ap Some (each.1 ∙ ap (λ ms. ms ++ []) one.1 ∙ ap (λ move. move ∷ []) same)

  told_nothing : (IsListedSince ordinary listings since of_x → ⊥) → (moves : Option (List Move)) → TellsMovesSince ordinary listings (Some since) (row ∷ []) moves → moves ≡ Some []
  told_nothing never None below = absurd (omega (arith, below, none_dropped))
  told_nothing never (Some moves) tells =
      let each = tells.1 in
      ap Some (each.1 ∙ ap (λ ms. ms ++ []) (each.2.0.not_listed (λ listed. never (subst (IsListedSince ordinary listings since) is listed))))

pub since_listed : (row : SetRow) (moves : Option (List Move)) → row.peer ≡ of_x → TellsMovesSince ordinary listings (Some 2) (row ∷ []) moves
    → moves ≡ Some (record { selector = row.selector; gained = 257 ∷ []; lost = [] } ∷ [])
since_listed row moves is tells = told 2 row is listed_since (257 ∷ []) [] refl refl moves tells

pub since_selected : (row : SetRow) (moves : Option (List Move)) → row.peer ≡ of_x → TellsMovesSince ordinary listings (Some 3) (row ∷ []) moves
    → moves ≡ Some (record { selector = row.selector; gained = []; lost = [] } ∷ [])
since_selected row moves is tells = told 3 row is later_listed [] [] refl refl moves tells

pub since_earlier : (row : SetRow) (moves : Option (List Move)) → row.peer ≡ of_x → TellsMovesSince ordinary listings (Some 1) (row ∷ []) moves → moves ≡ Some []
since_earlier row moves is tells = told_nothing 1 row is not_before moves tells
