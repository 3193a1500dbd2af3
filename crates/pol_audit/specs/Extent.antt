-- How much two tables give to look at: it bounds the steps of an audit and the ranges of a difference.
use Rattle.std.specs.Prelude.{ℕ, ◌+◌, ◌||◌, ◌==◌, List, [], ◌∷◌, ◌++◌, count_by, filter, length}
use Rattle.std.specs.BTreeSet.{insert_key}
use Rattle.std.specs.List.{sum_by}
use Rattle.std.specs.Ordering.{nat_cmp}
use Rattle.pol_ports.specs.declared.Direction.{Direction}
use Rattle.pol_ports.specs.declared.Direction.TheVariants.{Ingress, Egress}
use Rattle.pol_ports.specs.Direction.{same_direction}
use Rattle.pol_mapkey.specs.Entries.{Entry}

-- the entries of a direction
abbrev pub part_of : Direction → List Entry → List Entry
part_of dir entries = filter (λ e. same_direction e.0.dir dir) entries

-- 0 and the numbers of these entries, in order, each once
unfoldable pub numbers_in : List Entry → List ℕ
numbers_in [] = 0 ∷ []
numbers_in (e ∷ es) = insert_key nat_cmp (numbers_in es) e.0.id

-- how many of these entries are of the number or of 0
abbrev pub entries_for : ℕ → List Entry → ℕ
entries_for id part = count_by (λ e. (e.0.id == id) || (e.0.id == 0)) part

-- one more than the number of such entries in two lists together
abbrev pub share_of : List Entry → List Entry → ℕ → ℕ
share_of left right id = entries_for id left + entries_for id right + 1

-- the same, where the entries of the number and those of 0 are told apart
abbrev pub share_of_parts : List Entry → List Entry → List Entry → List Entry → ℕ
share_of_parts left right left_every right_every = length left + length right + length left_every + length right_every + 1

-- The share of a number in two tables, in one direction, summed over 0 and each number that stands in one of them there.
unfoldable pub extent_in : Direction → List Entry → List Entry → ℕ
extent_in dir left right = sum_by (share_of (part_of dir left) (part_of dir right)) (numbers_in (part_of dir left ++ part_of dir right))

-- and over both directions
abbrev pub extent : List Entry → List Entry → ℕ
extent left right = extent_in Ingress left right + extent_in Egress left right
