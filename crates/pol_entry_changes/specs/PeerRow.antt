-- The rows of peers. No public clause cites this module.
use Rattle.std.specs.Prelude.{◌≡◌, ◌≢◌, ⊤, ℕ, List, [], Option, None, Some, find, option_map}
use Rattle.std.proofs.Common.{Bor}
use Rattle.std.specs.Arc.{arc_value}
use Rattle.std.specs.HashMap.{HashMap, get_by}
use Rattle.std.specs.List.{AllByRecursion, Contains}
use Rattle.std.specs.List.Sorted.{IsStrictlySortedBy}
use Rattle.std.specs.Ordering.{nat_cmp}
use Rattle.pol_rule.specs.contracts.policy.PeerPartialEq.TheImpl as peers
use Rattle.pol_rule.specs.declared.policy.Peer.{Peer}
use Rattle.pol_sets.specs.declared.sets.Move.{Move}
use Rattle.pol_sets.specs.declared.sets.SetRow.{SetRow}
use Rattle.pol_sets.specs.Sets.{is_row_of}
use Rattle.pol_entry_changes.specs.declared.rows.PlacedRow.{PlacedRow}

-- the row that was found
abbrev pub placed_row : Option PlacedRow → Option SetRow
placed_row = option_map (λ (found : PlacedRow). found.row.now)

-- the table has for each peer its first row
abbrev pub IsIndexOf : {S : Type 0} → HashMap (Bor Peer) PlacedRow S → List SetRow → Type 0
IsIndexOf table rows = (p : Peer) → placed_row (get_by (λ (k : Bor Peer). peers.ghosts.eq p k.now) table) ≡ find (is_row_of p) rows

-- the row's numbers ascend
abbrev pub Ascend : SetRow → Type 0
Ascend row = IsStrictlySortedBy nat_cmp (arc_value row.set)

-- the move moves nothing
abbrev pub IsStill : Move → Type 0
IsStill m = (m.gained ≡ []) × (m.lost ≡ [])

-- the move behind a reference
abbrev pub move_now : Option (Bor Move) → Option Move
move_now = option_map (λ (m : Bor Move). m.now)

-- a move of the selector, or none where there is none
abbrev pub IsMoveOf : List Move → ℕ → Option (Bor Move) → Type 0
IsMoveOf moves s None = (m : Move) → Contains moves m → m.selector ≢ s
IsMoveOf moves s (Some m) = Contains moves m.now × (m.now.selector ≡ s)

-- the same of the selector of a row, if there is one
abbrev pub IsMoveOfRow : List Move → Option SetRow → Option (Bor Move) → Type 0
IsMoveOfRow moves None found = ⊤
IsMoveOfRow moves (Some row) found = IsMoveOf moves row.selector found

-- ---- rows whose selectors moved
-- rows, and the moves of their selectors that led to them
pub record RowsMoved : Type 0 where
  pub rows : List SetRow
  pub moves : List Move

-- the number is none of these
abbrev pub Lacks : List ℕ → ℕ → Type 0
Lacks numbers number = AllByRecursion (λ one. one ≢ number) numbers

-- the move moves nothing, unless its selector is one of these
abbrev pub NamesMove : List ℕ → Move → Type 0
NamesMove selectors m = Lacks selectors m.selector → IsStill m

-- none of these rows is the peer's
abbrev pub HaveNoRow : List PlacedRow → Peer → Type 0
HaveNoRow found p = AllByRecursion (λ one. one.row.now.peer ≢ p) found

-- it is the first of the rows of its peer
abbrev pub IsFirstRow : List SetRow → PlacedRow → Type 0
IsFirstRow rows one = find (is_row_of one.row.now.peer) rows ≡ Some one.row.now

-- each move of the selector of the peer's first row, if there is one, moves nothing
abbrev pub IsUnmoved : RowsMoved → Peer → Type 0
IsUnmoved is p = (row : SetRow) → find (is_row_of p) is.rows ≡ Some row → (m : Move) → Contains is.moves m → m.selector ≡ row.selector → IsStill m

-- These are the first rows of their peers, and a peer that has none of them is unmoved.
pub record HaveMoved (is : RowsMoved) (few : List PlacedRow) : Type 0 where
  pub first : AllByRecursion (IsFirstRow is.rows) few
  pub others : (p : Peer) → HaveNoRow few p → IsUnmoved is p

-- a move of the peer's first row, or none where such a move moves nothing
abbrev pub IsMoveFor : RowsMoved → Peer → Option (Bor Move) → Type 0
IsMoveFor is p None = IsUnmoved is p
IsMoveFor is p (Some m) = IsMoveOfRow is.moves (find (is_row_of p) is.rows) (Some m)
