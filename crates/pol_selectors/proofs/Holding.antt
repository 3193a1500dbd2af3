-- Whether the selector of a number is live, as the first spot tells whose number isn't below it.
use Rattle.std.proofs.Common.{◌≡◌, ℕ, ◌==◌, ◌&&◌, Bool, true, false, List, Option, None, Some, is_some, option_map, slice_get, nat_lt, length, refl, sym, ap, ◌∙◌, arith}
use Rattle.std.proofs.lemmas.Bool.{both_ways, eqb-true, eq-eqb, false_from_ne_true, ltb-false}
use Rattle.std.proofs.lemmas.Option.{slice_get_within}
use Rattle.pol_model.specs.Ascending.{Ascends}
use Rattle.pol_model_laws.proofs.Membership.{find-In, find-none, list_any-In}
use Rattle.pol_selectors.specs.declared.spots.Row.{Row}
use Rattle.pol_selectors.specs.declared.spots.Spot.{Spot}
use Rattle.pol_selectors.specs.Inside.{IsFrom, holds_at, live_at, live_in, live_of, spot_numbers}
use Rattle.pol_selectors.specs.Live.{Live, is_live, selector_of}
use Rattle.pol_selectors.proofs.Placed.{found, placed}

-- a live selector is found by its number, and none is where none is found
lives_as_found : (n : ℕ) (live : List Live) (o : Option Live) → selector_of n live ≡ o → is_live n live ≡ is_some o
lives_as_found n live None is = find-none (λ (s : Live). s.number == n) live is
lives_as_found n live (Some s) is =
    let here = find-In (λ (s : Live). s.number == n) s live is in
    list_any-In (λ (s : Live). s.number == n) s live here.0 here.1

has_row : (number : ℕ) (row : Option Row) → is_some (option_map (live_of number) row) ≡ is_some row
has_row number None = refl
has_row number (Some row) = refl

module _ (n : ℕ) (spots : List Spot) (i : ℕ) (ascend : Ascends (spot_numbers spots)) (from : IsFrom n spots i) where
  pub none_holds : nat_lt i (length spots) ≡ false → is_live n (live_in spots) ≡ false
  none_holds past = false_from_ne_true (is_live n (live_in spots)) (λ lives.
      let own = placed n spots i ascend lives from in
      let within = slice_get_within spots i own.spot own.at in
      omega (arith, within, ltb-false i (length spots) past))

  pub holds_there : (spot : Spot) → slice_get spots i ≡ Some spot → holds_at n spot ≡ is_live n (live_in spots)
  holds_there spot at = by (spot.number == n) refl
    where
      by : (b : Bool) → (spot.number == n) ≡ b → (b && is_some spot.row) ≡ is_live n (live_in spots)
      by true same =
          let its = ap (λ m. selector_of m (live_in spots)) (sym (eqb-true spot.number n same)) ∙ found spots i spot ascend at in
          sym (lives_as_found n (live_in spots) (live_at spot) its ∙ has_row spot.number spot.row)
      by false other = sym (false_from_ne_true (is_live n (live_in spots)) (λ lives.
          let own = placed n spots i ascend lives from in
          let is : Some spot ≡ Some own.spot = sym at ∙ own.at in
          let both : spot ≡ own.spot = cc in
          both_ways (spot.number == n) other (eq-eqb spot.number n (ap (λ (s : Spot). s.number) both ∙ own.its))))
