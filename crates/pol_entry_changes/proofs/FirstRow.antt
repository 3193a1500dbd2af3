-- The first rows of peers, and their moves.
use Rattle.std.proofs.Common.{◌≡◌, ℕ, ◌==◌, Bool, true, false, cond, Bor, List, [], Option, None, Some, find, MatchOption, refl, sym, ap, subst}
use Rattle.std.specs.Arc.{arc_value}
use Rattle.std.specs.List.{AllByRecursion, Contains}
use Rattle.std.specs.List.Sorted.{IsStrictlySortedBy}
use Rattle.std.specs.Option.{option_map_or}
use Rattle.std.specs.Ordering.{nat_cmp}
use Rattle.std.proofs.lemmas.Bool.{both_ways, eqb-true, eq-eqb}
use Rattle.pol_data.proofs.Every.{every-found}
use Rattle.pol_data.proofs.Members.{find-gives}
use Rattle.pol_rule.specs.declared.policy.Peer.{Peer}
use Rattle.pol_sets.specs.declared.sets.Move.{Move}
use Rattle.pol_sets.specs.declared.sets.SetRow.{SetRow}
use Rattle.pol_sets.specs.Sets.{is_row_of, set_given}
use Rattle.pol_set_changes.specs.Sets.{IsMove}
use Rattle.pol_sets.proofs.IdLemmas.{nothing_ascends}
use Rattle.pol_entry_changes.specs.PeerRow.{Ascend, IsMoveOf, IsMoveOfRow, move_now, placed_row}
use Rattle.pol_entry_changes.specs.Told.{IsTold}
use Rattle.pol_entry_changes.specs.declared.rows.PlacedRow.{PlacedRow}

-- one row before the others
pub put_row : (b : Bool) (row : SetRow) (found : Option SetRow) (value : PlacedRow) (old : Option PlacedRow) → value.row.now ≡ row
    → placed_row old ≡ found → placed_row (cond b (Some value) old) ≡ cond b (Some row) found
put_row true row found value old same rest = ap Some same
put_row false row found value old same rest = rest

-- the numbers of a row that is found, and of none
pub set_found : (p : Peer) (rows : List SetRow) (row : SetRow) → Some row ≡ find (is_row_of p) rows → arc_value row.set ≡ set_given rows p
set_found p rows row found = ap (λ (r : Option SetRow). option_map_or (λ (row : SetRow). arc_value row.set) r []) found

pub set_none : (p : Peer) (rows : List SetRow) → None ≡ find (is_row_of p) rows → [] ≡ set_given rows p
set_none p rows found = ap (λ (r : Option SetRow). option_map_or (λ (row : SetRow). arc_value row.set) r []) found

-- numbers that rows give ascend
pub given_ascends : (rows : List SetRow) → AllByRecursion Ascend rows → (p : Peer) → IsStrictlySortedBy nat_cmp (set_given rows p)
given_ascends rows all p = by (find (is_row_of p) rows) refl
  where
    by : (r : Option SetRow) → find (is_row_of p) rows ≡ r → IsStrictlySortedBy nat_cmp (option_map_or (λ (row : SetRow). arc_value row.set) r [])
    by None e = nothing_ascends
    by (Some row) e = every-found Ascend (is_row_of p) rows row all e

-- what is found, or isn't
abbrev Found : ℕ → List Move → Option Move → Type 0
Found s moves found = MatchOption found ((m : Move) → Contains moves m → (m.selector == s) ≡ false) (λ m. Contains moves m × ((m.selector == s) ≡ true))

found_at : (s : ℕ) (moves : List Move) (found : Option Move) → find (λ (m : Move). m.selector == s) moves ≡ found → Found s moves found
found_at s moves found e = subst (Found s moves) e (find-gives (λ (m : Move). m.selector == s) moves)

-- the first move of a selector is one of it
pub first_is : (s : ℕ) (moves : List Move) (found : Option (Bor Move)) → move_now found ≡ find (λ (m : Move). m.selector == s) moves → IsMoveOf moves s found
first_is s moves None e = λ m there own.
    both_ways (m.selector == s) (found_at s moves None (sym e) m there) (eq-eqb m.selector s own)
first_is s moves (Some m) e =
    let one = found_at s moves (Some m.now) (sym e) in
    (one.0, eqb-true m.now.selector s one.1)

module _ (was is : List SetRow) (moves : List Move) (p : Peer) (told : IsTold was is moves p) where
  of_row : (found : Option (Bor Move)) → IsMoveOfRow moves (find (is_row_of p) is) found → IsMoveOf moves told.row.selector found
  of_row found is_of = subst (λ (row : Option SetRow). IsMoveOfRow moves row found) told.first is_of

  pub move_found : (m : Bor Move) → IsMoveOfRow moves (find (is_row_of p) is) (Some m) → IsMove (set_given was p) (set_given is p) m.now
  move_found m is_of = (let one = of_row (Some m) is_of in told.exact m.now one.0 one.1)

  pub some_found : IsMoveOfRow moves (find (is_row_of p) is) None → ⊥
  some_found none = of_row None none told.move told.there told.own
