-- What the sets of rows gained and lost since a revision.
use Rattle.std.specs.Prelude.{ℕ, ◌≡◌, ◌<◌, ◌≤◌, nat_lt, if◌then◌else◌, List, [], ◌∷◌, Option, None, Some, slice_index_or}
use Rattle.std.specs.List.{AllByRecursion, cons_option, flat_map}
use Rattle.pol_sets.specs.declared.sets.Move.{Move}
use Rattle.pol_sets.specs.declared.sets.SetRow.{SetRow}
use Rattle.pol_model.specs.declared.options.Options.{Options}
use Rattle.pol_model.specs.declared.request.Request.{Request}
use Rattle.pol_model.specs.After.{state_of}
use Rattle.pol_set_changes.specs.Log.{Log, since}
use Rattle.pol_set_changes.specs.Sets.{IsMove}
use Rattle.pol_set_moves.specs.Changes.{IsListedSince, horizon_of, set_in, state_at}

-- the selector's move since the revision, where its number is less than the next one of then
abbrev pub move_since : Log → ℕ → ℕ → ℕ → List Move
move_since log next revision selector = if nat_lt selector next then cons_option (since log selector revision) [] else []

-- those of all rows: none below the horizon
abbrev pub moves_of : Log → ℕ → ℕ → List SetRow → Option (List Move)
moves_of log next revision rows =
    if nat_lt revision log.horizon then None else Some (flat_map (λ row. move_since log next revision row.selector) rows)

-- The row has one move, of its number, where its peer was listed ever since the revision: what its set has and had not, and
-- what it had and has not. Else it has none.
pub record IsMoveOf (options : Options) (journal : List Request) (revision : ℕ) (row : SetRow) (moves : List Move) : Type 0 where
  pub listed : IsListedSince options journal revision row.peer
      → (m : Move) × (moves ≡ m ∷ []) × (m.selector ≡ row.selector) × IsMove (set_in (state_at options journal revision) row.peer) (set_in (state_of options journal) row.peer) m
  pub not_listed : (IsListedSince options journal revision row.peer → ⊥) → moves ≡ []

-- Each row's moves, one after another.
abbrev pub AreMovesOf : Options → List Request → ℕ → List SetRow → List Move → Type 0
AreMovesOf options journal revision rows moves =
    (of : SetRow → List Move) × (moves ≡ flat_map of rows) × AllByRecursion (λ row. IsMoveOf options journal revision row (of row)) rows

-- None exactly where the revision is below the horizon of the journal.
abbrev pub TellsMoves : Options → List Request → ℕ → List SetRow → Option (List Move) → Type 0
TellsMoves options journal revision rows None = revision < horizon_of options journal
TellsMoves options journal revision rows (Some moves) = (horizon_of options journal ≤ revision) × AreMovesOf options journal revision rows moves

-- What the log tells of rows since a revision that is known, by the next numbers of all revisions: none where none is known.
abbrev pub moves_by : Log → List ℕ → Option ℕ → List SetRow → Option (List Move)
moves_by log nexts None rows = None
moves_by log nexts (Some revision) rows = moves_of log (slice_index_or nexts revision 0) revision rows

-- None exactly where no revision is known, or where it is below the horizon of the journal.
abbrev pub TellsMovesSince : Options → List Request → Option ℕ → List SetRow → Option (List Move) → Type 0
TellsMovesSince options journal None rows moves = moves ≡ None
TellsMovesSince options journal (Some revision) rows moves = TellsMoves options journal revision rows moves
