-- The ends of a state have the maps of their numbers.
use Rattle.std.proofs.Common.{◌≡◌, Bool, true, false, cond, List, [], ◌∷◌, map, Option, None, Some, IsTrue, is_some, option_map, refl}
use Rattle.std.specs.List.{AllByRecursion, cons_option}
use Rattle.pol_model_laws.proofs.Membership.{find-In}
use Rattle.pol_data.proofs.Members.{every-in}
use Rattle.pol_connections.specs.declared.end.EndName.{EndName}
use Rattle.pol_connections.specs.Ends.{same_name}
use Rattle.pol_connection_maps.specs.declared.end_row.EndRow.{EndRow}
use Rattle.pol_connection_maps.specs.Lists.{kept_ends, seen_of}
use Rattle.pol_connection_maps.specs.Maps.{NumberEntries, entries_at}
use Rattle.pol_connection_maps.specs.Seen.{Seen, seen_row}
use Rattle.pol_connection_maps.specs.Stays.{HasItsMap, HaveTheirMaps, StateMaps}

pub rows_stand : (maps : List NumberEntries) (rows : List EndRow) → AllByRecursion (HasItsMap maps) (map (seen_row maps) rows)
rows_stand maps [] = tt
rows_stand maps (row ∷ rows) = (by row.own, rows_stand maps rows)
  where
    by : (own : Bool) → IsTrue (is_some (cond own (entries_at row.number maps) None)) → cond own (entries_at row.number maps) None ≡ entries_at row.number maps
    by true _ = refl
    by false some = absurd (let no : ⊥ = cc in no)

pub found_stands : (maps : List NumberEntries) (before : List Seen) (name : EndName) (old : Seen) → AllByRecursion (HasItsMap maps) before → seen_of name before ≡ Some old → HasItsMap maps old
found_stands maps before name old all is = every-in (HasItsMap maps) before all old (find-In (λ (end : Seen). same_name end.name name) old before is).0

pub kept_stand : (maps : StateMaps) (halves : Bool) (before after : List Seen) → AllByRecursion (HasItsMap maps.before) before → AllByRecursion (HasItsMap maps.after) after
    → AllByRecursion (HaveTheirMaps maps) (kept_ends halves before after)
kept_stand maps halves before [] was is = tt
kept_stand maps halves before (end ∷ after) was is = by (kept_stand maps halves before after was is.1) (seen_of end.name before) refl
  where
    by : AllByRecursion (HaveTheirMaps maps) (kept_ends halves before after) → (o : Option Seen) → seen_of end.name before ≡ o
        → AllByRecursion (HaveTheirMaps maps) (cons_option (option_map (λ (old : Seen). record { before = old; after = end; halves = halves }) o) (kept_ends halves before after))
    by rest None _ = rest
    by rest (Some old) found = ((found_stands maps.before before end.name old was found, is.0), rest)
