-- What the short account of a run speaks of: the lines by their indices from 0, their sessions, and the `phase`
-- lines between them.
use Rattle.std.specs.Prelude.{◌≡◌, ℕ, ◌<◌, ◌≤◌, ◌==◌, ◌⊎◌, Bool, true, false, List, length, take, count_by, slice_get, Option, Some, Ok}
use Rattle.std.specs.List.{Contains}
use Rattle.pol_model.specs.declared.answer.FullSlot.{FullSlot}
use Rattle.pol_model.specs.declared.request.Request.{Request}
use Rattle.pol_answer.specs.declared.answer.Answer.{Answer}
use Rattle.pol_answer.specs.declared.answer.Answer.TheVariants as answer
use Rattle.pol_script.specs.declared.command.Command.TheVariants as command
use Rattle.pol_run.specs.Spots.{Line, Reading}

-- line i was read so, and has this answer
pub record IsLine (lines : List Line) (i : ℕ) (reading : Reading) (answer : Answer) : Type 0 where
  pub there : slice_get lines i ≡ Some (reading, answer)

-- ---- kinds of lines

-- a `phase` line
abbrev pub is_phase : Line → Bool
is_phase (Ok command.Phase, told) = true
is_phase other = false

-- a request that was answered `ok`
abbrev pub is_ok : Line → Bool
is_ok (Ok (command.Commit session request), answer.Committed revision identity) = true
is_ok other = false

-- one that was answered `ok` with this number
abbrev pub is_ok_at : ℕ → Line → Bool
is_ok_at k (Ok (command.Commit session request), answer.Committed revision identity) = revision == k
is_ok_at k other = false

-- the answer prints the revision
abbrev pub Prints : Answer → ℕ → Type 0
Prints (answer.Committed k identity) revision = k ≡ revision
Prints (answer.Refused refused) revision = refused.revision ≡ revision
Prints (answer.Verdict k word) revision = k ≡ revision
Prints (answer.NotYet k) revision = k ≡ revision
Prints (answer.NoEndpoint k) revision = k ≡ revision
Prints (answer.Traced k trace) revision = k ≡ revision
Prints (answer.Synced k full) revision = (k ≡ revision) ⊎ ((row : FullSlot) × Contains full row × (row.revision ≡ revision))
Prints (answer.Phase number) revision = ⊥
Prints (answer.BadLine fault) revision = ⊥

-- ---- sessions and phases

-- the line is a request, a query or a `sync` of this session
abbrev pub IsOf : ℕ → Reading → Type 0
IsOf session (Ok (command.Commit its request)) = its ≡ session
IsOf session (Ok (command.Look its query)) = its ≡ session
IsOf session (Ok (command.Trace its query)) = its ≡ session
IsOf session (Ok (command.Sync its)) = its ≡ session
IsOf session other = ⊥

-- both lines are of one session
pub record AreOfOneSession (first second : Reading) : Type 0 where
  pub session : ℕ
  pub first_is : IsOf session first
  pub second_is : IsOf session second

-- the phase of line i ends before line j: by a `phase` line, which is the last line of its phase
pub record IsPhaseBetween (lines : List Line) (i j : ℕ) : Type 0 where
  pub last : ℕ
  pub from : i ≤ last
  pub before : last < j
  pub told : Answer
  pub ends : IsLine lines last (Ok command.Phase) told

-- line i comes before line j in time: it is an earlier one of its session, or its phase ends before
abbrev pub ComesBefore : List Line → ℕ → Reading → ℕ → Reading → Type 0
ComesBefore lines i first j second = ((i < j) × AreOfOneSession first second) ⊎ IsPhaseBetween lines i j

-- ---- bounds of a revision at a line

-- So many commits were made, and none of them comes after the line: none of a later line of its session, and none of
-- a later phase.
pub record IsReached (lines : List Line) (history : List Request) (i : ℕ) (reading : Reading) (revision : ℕ) : Type 0 where
  pub made : revision ≤ length history
  pub none_after : (j session : ℕ) (request : Request) (k : ℕ) (identity : Option ℕ)
      → IsLine lines j (Ok (command.Commit session request)) (answer.Committed k identity)
      → ComesBefore lines i reading j (Ok (command.Commit session request)) → revision < k

-- The revision is no older than what the line's session has seen: each revision that was printed to it, and all
-- commits of the phases that have ended.
pub record IsSinceSeen (lines : List Line) (j : ℕ) (reading : Reading) (revision : ℕ) : Type 0 where
  pub printed : (i : ℕ) (first : Reading) (told : Answer) (k : ℕ) → IsLine lines i first told → i < j → AreOfOneSession first reading
      → Prints told k → k ≤ revision
  pub phases : (last : ℕ) (told : Answer) → IsLine lines last (Ok command.Phase) told → last < j
      → count_by is_ok (take last lines) ≤ revision
