-- The net change of a set by changes, and what they make of it. Changes are listed newest first.
use Rattle.std.specs.Prelude.{ℕ, ◌==◌, nat_lt, List, [], ◌∷◌, count_by, filter}
use Rattle.std.specs.List.{flat_map}
use Rattle.pol_sets.specs.declared.sets.Move.{Move}
use Rattle.pol_set_changes.specs.declared.change.SetChange.{SetChange}
use Rattle.pol_set_changes.specs.Ids.{without, union}

-- how often the number stands in the list
abbrev pub times : ℕ → List ℕ → ℕ
times id ids = count_by (λ own. own == id) ids

-- the numbers that stand more often in the one list than in the other, ascending and each once
abbrev pub surplus : List ℕ → List ℕ → List ℕ
surplus ids others = filter (λ id. nat_lt (times id others) (times id ids)) (union [] ids)

-- all that came by these changes, and all that went
abbrev pub came : List SetChange → List ℕ
came cs = flat_map (λ c. c.gained) cs

abbrev pub went : List SetChange → List ℕ
went cs = flat_map (λ c. c.lost) cs

-- the net change of a selector's changes: gained is what came more often than it went, lost what went more often
abbrev pub net : ℕ → List SetChange → Move
net selector cs =
    record { selector = selector; gained = surplus (came cs) (went cs); lost = surplus (went cs) (came cs) }

-- what a change moved
abbrev pub move_of : SetChange → Move
move_of c = record { selector = c.selector; gained = c.gained; lost = c.lost }

-- the one move and then the other: what came and went, or went and came, isn't there
abbrev pub joined : Move → Move → Move
joined older newer = record {
  selector = newer.selector;
  gained = union (without older.gained newer.lost) (without newer.gained older.lost);
  lost = union (without older.lost newer.gained) (without newer.lost older.gained);
}

-- the set after a move
abbrev pub moved : List ℕ → Move → List ℕ
moved ids m = union (without ids m.lost) m.gained

-- the set after these changes
abbrev pub after_all : List ℕ → List SetChange → List ℕ
after_all ids [] = ids
after_all ids (c ∷ older) = moved (after_all ids older) (move_of c)
