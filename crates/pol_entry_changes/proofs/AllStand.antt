-- Filters that all stand.
use Rattle.std.proofs.Common.{◌≡◌, ℕ, ◌+◌, ◌<◌, ◌≤◌, List, [], ◌∷◌, ◌++◌, length, get_or, take, refl, sym, ◌∙◌, ap, subst}
use Rattle.std.specs.List.{AllByRecursion, Contains, flat_map}
use Rattle.std.proofs.lemmas.List.{take_all, take_more}
use Rattle.pol_mapkey.specs.Entries.{Entry}
use Rattle.pol_data.proofs.Members.{Contains-from_In, every-from_in}
use Rattle.pol_sets.specs.declared.sets.Move.{Move}
use Rattle.pol_sets.specs.declared.sets.SetRow.{SetRow}
use Rattle.pol_filters.specs.declared.filter.Filter.{Filter}
use Rattle.pol_entry_changes.specs.Balance.{GoesOn}
use Rattle.pol_entry_changes.specs.Told.{PeersTold, Stays}
use Rattle.pol_entry_changes.specs.declared.staying.Moved.{Moved}
use Rattle.pol_entry_changes.proofs.Balanced.{goes_on}
use Rattle.pol_entry_changes.proofs.SideBySide.{one_more}

module _ (F G : Filter → List Entry) (filters : List Filter) (i : ℕ) where
  abbrev pub OnUpTo : ℕ → Moved → Moved → Type 0
  OnUpTo k old new = GoesOn (flat_map F (take k filters)) (flat_map G (take k filters)) old new

  -- one filter more
  pub filter_more : (one : Filter) (old mid new : Moved) → i < length filters → one ≡ get_or filters i one → OnUpTo i old mid → GoesOn (F one) (G one) mid new → OnUpTo (i + 1) old new
  filter_more one old mid new within at first second =
      let split : (H : Filter → List Entry) → flat_map H (take i filters) ++ H one ≡ flat_map H (take (i + 1) filters) = λ H.
      sym (one_more H (take i filters) one) ∙ ap (flat_map H) (sym (take_more filters i one within ∙ ap (λ f. take i filters ++ f ∷ []) (sym at))) in
      subst (λ xs. GoesOn xs (flat_map G (take (i + 1) filters)) old new) (split F)
      (subst (λ ys. GoesOn (flat_map F (take i filters) ++ F one) ys old new) (split G)
      (goes_on (flat_map F (take i filters)) (flat_map G (take i filters)) (F one) (G one) old mid new first second))

  -- all of them
  pub all_gone_through : (old new : Moved) → length filters ≤ i → OnUpTo i old new → GoesOn (flat_map F filters) (flat_map G filters) old new
  all_gone_through old new past on = subst (λ fs. GoesOn (flat_map F fs) (flat_map G fs) old new) (take_all i filters past) on

-- each of them has the moves of its peers
pub all_told : (was is : List SetRow) (moves : List Move) (old new : List Filter) → Stays was is moves old new → old ≡ new → AllByRecursion (λ one. PeersTold was is moves one.peers) new
all_told was is moves old new stays same =
    every-from_in (λ one. PeersTold was is moves one.peers) new
    (λ one there. let here = Contains-from_In new one there in (stays one one (subst (λ fs. Contains fs one) (sym same) here) here (refl, refl)).1)
