-- Names on one side alone.
use Rattle.std.proofs.Common.{◌≡◌, ◌||◌, not, Bool, true, false, cond, List, [], ◌∷◌, map, filter, is_some, Some, refl, ap}
use Rattle.pol_connections.specs.declared.end.EndName.{EndName}
use Rattle.pol_connections.specs.Connections.{has_end}
use Rattle.pol_connections.specs.Ends.{End, end_of, same_name}
use Rattle.pol_connection_maps.specs.declared.end_row.EndRow.{EndRow}
use Rattle.pol_connection_maps.specs.EndRows.{row_of_end}
use Rattle.pol_connection_maps.specs.Lists.{has_name, names_alone}

found_too : (name : EndName) (ends : List End) → has_name name (map row_of_end ends) ≡ is_some (end_of name ends)
found_too name [] = refl
found_too name (e ∷ es) = by (same_name e.name name) (found_too name es)
  where
    by : (b : Bool) → has_name name (map row_of_end es) ≡ is_some (end_of name es) → (b || has_name name (map row_of_end es)) ≡ is_some (cond b (Some e) (end_of name es))
    by true rest = refl
    by false rest = rest

-- the rows of the ends that the first ones don't have
abbrev left : List End → List End → List EndRow
left one ends = filter (λ (row : EndRow). not (has_name row.name (map row_of_end one))) (map row_of_end ends)

abbrev left_ends : List End → List End → List End
left_ends one ends = filter (λ end. not (has_end one end)) ends

pub names_apart : (one other : List End) → names_alone (map row_of_end one) (map row_of_end other) ≡ map (λ (end : End). end.name) (filter (λ end. not (has_end one end)) other)
names_apart one [] = refl
names_apart one (e ∷ es) = by (has_name e.name (map row_of_end one)) (has_end one e) (found_too e.name one) (names_apart one es)
  where
    by : (a b : Bool) → a ≡ b → map (λ (row : EndRow). row.name) (left one es) ≡ map (λ (end : End). end.name) (left_ends one es)
        → map (λ (row : EndRow). row.name) (cond (not a) (row_of_end e ∷ left one es) (left one es)) ≡ map (λ (end : End). end.name) (cond (not b) (e ∷ left_ends one es) (left_ends one es))
    by true true _ rest = rest
    by true false wrong rest = absurd (let no : ⊥ = cc in no)
    by false true wrong rest = absurd (let no : ⊥ = cc in no)
    by false false _ rest = ap (λ ns. e.name ∷ ns) rest
