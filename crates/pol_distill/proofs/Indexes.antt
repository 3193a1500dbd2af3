-- The table of the rows of peers.
use Rattle.std.proofs.Common.{◌≡◌, ℕ, Bool, true, false, cond, ◌||◌, Bor, List, [], ◌∷◌, Option, None, Some, option_map, find, IsTrue, ap}
use Rattle.std.specs.Arc.{arc_value}
use Rattle.std.specs.List.{list_any}
use Rattle.std.specs.Option.{option_map_or}
use Rattle.pol_rule.specs.declared.policy.Peer.{Peer}
use Rattle.pol_sets.specs.declared.sets.SetRow.{SetRow}
use Rattle.pol_sets.specs.Sets.{has_set, is_row_of, set_given}

-- a reference to a peer, for what a table says at each
abbrev pub at : Peer → Bor Peer
at p = record { ref_ptr = (0, 0); now = p }

abbrev pub set_in : Option (Bor (List ℕ)) → Option (List ℕ)
set_in = option_map (λ (set : Bor (List ℕ)). set.now)

abbrev pub set_of_first : Peer → List SetRow → Option (List ℕ)
set_of_first p rows = option_map (λ (row : SetRow). arc_value row.set) (find (is_row_of p) rows)

-- one row before the others
pub put_row : (b : Bool) (row : SetRow) (found : Option SetRow) (value : Bor (List ℕ)) (old : Option (Bor (List ℕ))) → value.now ≡ arc_value row.set
    → set_in old ≡ option_map (λ (row : SetRow). arc_value row.set) found
    → set_in (cond b (Some value) old) ≡ option_map (λ (row : SetRow). arc_value row.set) (cond b (Some row) found)
put_row true row found value old same rest = ap Some same
put_row false row found value old same rest = rest

-- a peer that has a row is found
pub found_set : (p : Peer) (rows : List SetRow) (set : Bor (List ℕ)) → set_in (Some set) ≡ set_of_first p rows → set.now ≡ set_given rows p
found_set p rows set found = by_row (find (is_row_of p) rows) found
  where
    by_row : (r : Option SetRow) → Some set.now ≡ option_map (λ (row : SetRow). arc_value row.set) r → set.now ≡ option_map_or (λ (row : SetRow). arc_value row.set) r []
    by_row None e = cc
    by_row (Some row) e = cc

pub none_found : (p : Peer) (rows : List SetRow) → set_in None ≡ set_of_first p rows → IsTrue (has_set rows p) → ⊥
none_found p [] found there = cc
none_found p (row ∷ rows) found there = by_first (is_row_of p row) found there (none_found p rows)
  where
    by_first : (b : Bool) → None ≡ option_map (λ (r : SetRow). arc_value r.set) (cond b (Some row) (find (is_row_of p) rows))
        → IsTrue (b || list_any (is_row_of p) rows) → (None ≡ set_of_first p rows → IsTrue (has_set rows p) → ⊥) → ⊥
    by_first true e there rest = cc
    by_first false e there rest = rest e there
