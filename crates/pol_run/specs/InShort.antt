-- What a run says, line by line, in words of its own: by the history that the `ok` lines give, and by the index,
-- the session and the phase of each line.
use Rattle.std.specs.Prelude.{◌≡◌, ◌≢◌, ℕ, ◌+◌, ◌-◌, ◌<◌, ◌≤◌, nat_eq, Bool, if◌then◌else◌, List, [], ◌∷◌, codes, length, map, take, count_by, slice_get, Option, None, Some, Ok, Err}
use Rattle.std.specs.List.{AllByRecursion, Contains, list_any, starts_with}
use Rattle.pol_mapkey.specs.declared.Word.{Word}
use Rattle.pol_model.specs.State.{State}
use Rattle.pol_model.specs.After.{state_of}
use Rattle.pol_model.specs.Committed.{identity_given}
use Rattle.pol_model.specs.Endpoints.{endpoint_of}
use Rattle.pol_model.specs.Explain.{explain_of}
use Rattle.pol_model.specs.Fault.{fault_of}
use Rattle.pol_model.specs.PolicyMap.{map_size}
use Rattle.pol_model.specs.Remote.{verdict_for}
use Rattle.pol_model.specs.declared.answer.FullSlot.{FullSlot}
use Rattle.pol_model.specs.declared.answer.Refused.{Refused}
use Rattle.pol_model.specs.declared.answer.Trace.{Trace}
use Rattle.pol_model.specs.declared.options.Options.{Options}
use Rattle.pol_model.specs.declared.request.Query.{Query}
use Rattle.pol_model.specs.declared.request.Request.{Request}
use Rattle.pol_model.specs.declared.row.Endpoint.{Endpoint}
use Rattle.pol_model.specs.FullRows.{FullRowsAscend}
use Rattle.pol_script.specs.Lines.{lines_of}
use Rattle.pol_script.specs.Reading.{reading_of}
use Rattle.pol_answer.specs.Text.{text_of, texts_of}
use Rattle.pol_answer.specs.declared.answer.Answer.{Answer}
use Rattle.pol_answer.specs.declared.answer.Answer.TheVariants as answer
use Rattle.pol_script.specs.declared.command.Command.TheVariants as command
use Rattle.pol_run.specs.Spots.{Line, Reading}
use Rattle.pol_run.specs.ByIndex.{IsLine, is_phase, is_ok, is_ok_at, Prints, ComesBefore, IsReached, IsSinceSeen}

-- ---- endpoints and their maps

-- the state after so many commits
abbrev pub after_commits : Options → List Request → ℕ → State
after_commits options history revision = state_of options (take revision history)

-- the endpoint is the live one of its name after so many
abbrev pub LivesAfter : Options → List Request → ℕ → List ℕ → Endpoint → Type 0
LivesAfter options history revision name endpoint = endpoint_of name (after_commits options history revision).endpoints ≡ Some endpoint

-- one that was added at that revision is
pub record IsAddedAt (options : Options) (history : List Request) (revision : ℕ) (name : List ℕ) (added : ℕ) : Type 0 where
  pub endpoint : Endpoint
  pub lives : LivesAfter options history revision name endpoint
  pub same : endpoint.added ≡ added

-- maps have a limit, and the count is over it
pub record IsOver (options : Options) (count : ℕ) : Type 0 where
  pub limit : ℕ
  pub is_limit : options.map_max ≡ Some limit
  pub over : limit < count

-- the line asks for a verdict of the endpoint of that name
abbrev pub AsksFor : List ℕ → Reading → Type 0
AsksFor name (Ok (command.Look session query)) = query.endpoint ≡ name
AsksFor name other = ⊥

-- The line shows the map of revision `seen` of the endpoint of that name that was added at that revision: it is a
-- verdict for it at `seen`, or `synced` there without a row of the name.
abbrev pub ShowsMap : Options → List Request → Reading → Answer → List ℕ → ℕ → ℕ → Type 0
ShowsMap options history reading (answer.Verdict revision word) name added seen =
    (revision ≡ seen) × AsksFor name reading × IsAddedAt options history revision name added
ShowsMap options history reading (answer.Synced revision full) name added seen =
    (revision ≡ seen) × (added ≤ revision) × AllByRecursion (λ row. row.name ≢ name) full
ShowsMap options history reading told name added seen = ⊥

-- ---- the answers, kind by kind

-- `ok k`: the request is the k-th of the history; it had no fault before, and this is its number after
pub record IsKth (options : Options) (history : List Request) (request : Request) (k : ℕ) (identity : Option ℕ) : Type 0 where
  pub from_one : 1 ≤ k
  pub kth : slice_get history (k - 1) ≡ Some request
  pub no_fault : fault_of (after_commits options history (k - 1)) request ≡ None
  pub number : identity ≡ identity_given (after_commits options history k) request

-- `refused F at k`: that is its fault after k commits
pub record HasFault (options : Options) (history : List Request) (request : Request) (refused : Refused) : Type 0 where
  pub fault : fault_of (after_commits options history refused.revision) request ≡ Some refused.fault

-- A verdict at R: a scan of all rules after R commits gives the word. The endpoint lives then, its map fits the
-- limit, and no line that comes before has shown a newer map of it. It lives still after as many commits as the
-- session has seen, or after more, none of which comes after the line.
pub record IsFoundByScan (options : Options) (lines : List Line) (history : List Request) (i : ℕ) (reading : Reading) (query : Query) (revision : ℕ) (word : Word) : Type 0 where
  pub endpoint : Endpoint
  pub since_added : endpoint.added ≤ revision
  pub lives : LivesAfter options history revision query.endpoint endpoint
  pub scan : word ≡ verdict_for options (after_commits options history revision) query endpoint
  pub fits : (limit : ℕ) → options.map_max ≡ Some limit → map_size options (after_commits options history revision) endpoint ≤ limit
  pub no_older : (j : ℕ) (other : Reading) (told : Answer) (seen : ℕ) → IsLine lines j other told → ComesBefore lines j other i reading
      → ShowsMap options history other told query.endpoint endpoint.added seen → seen ≤ revision
  pub still : ℕ
  pub later : revision ≤ still
  pub lives_still : LivesAfter options history still query.endpoint endpoint
  pub since_seen : IsSinceSeen lines i reading still
  pub reached : IsReached lines history i reading still

-- `notyet at k`: the endpoint lives after k commits, and no line that comes before has shown a map of it
pub record IsUnpublished (options : Options) (lines : List Line) (history : List Request) (i : ℕ) (reading : Reading) (query : Query) (revision : ℕ) : Type 0 where
  pub endpoint : Endpoint
  pub lives : LivesAfter options history revision query.endpoint endpoint
  pub none_seen : (j : ℕ) (other : Reading) (told : Answer) (seen : ℕ) → IsLine lines j other told → ComesBefore lines j other i reading
      → ShowsMap options history other told query.endpoint endpoint.added seen → ⊥

-- `noendpoint at k`: none of that name lives after k commits
abbrev pub LivesNone : Options → List Request → Query → ℕ → Type 0
LivesNone options history query revision = endpoint_of query.endpoint (after_commits options history revision).endpoints ≡ None

-- a trace at k is the explanation after k commits
abbrev pub IsExplained : Options → List Request → Query → ℕ → Trace → Type 0
IsExplained options history query revision trace = explain_of options (after_commits options history revision) query ≡ Some trace

-- A row `NAME@R=COUNT` of `synced N`: R is at least N; after R commits an endpoint of that name lives, its map has so
-- many entries, and they are over the limit.
pub record IsExact (options : Options) (history : List Request) (synced : ℕ) (row : FullSlot) : Type 0 where
  pub newer : synced ≤ row.revision
  pub endpoint : Endpoint
  pub lives : LivesAfter options history row.revision row.name endpoint
  pub count : row.count ≡ map_size options (after_commits options history row.revision) endpoint
  pub over : IsOver options row.count

-- the endpoint lives after k commits, with a map that is over the limit
pub record IsOverAfter (options : Options) (history : List Request) (name : List ℕ) (added k : ℕ) : Type 0 where
  pub endpoint : Endpoint
  pub lives : LivesAfter options history k name endpoint
  pub same : endpoint.added ≡ added
  pub over : IsOver options (map_size options (after_commits options history k) endpoint)

-- The rows of `synced N`: each is exact; they are sorted; no two are of one endpoint; and an endpoint has one whose map
-- is over the limit at each revision from N on that the line may reach.
pub record AreExact (options : Options) (lines : List Line) (history : List Request) (i : ℕ) (reading : Reading) (revision : ℕ) (full : List FullSlot) : Type 0 where
  pub each : AllByRecursion (IsExact options history revision) full
  pub sorted : FullRowsAscend full
  pub distinct : (a b : ℕ) (first second : FullSlot) (added : ℕ) → a < b → slice_get full a ≡ Some first → slice_get full b ≡ Some second
      → first.name ≡ second.name → IsAddedAt options history first.revision first.name added
      → IsAddedAt options history second.revision second.name added → ⊥
  pub none_missing : (name : List ℕ) (added : ℕ)
      → ((k : ℕ) → revision ≤ k → IsReached lines history i reading k → IsOverAfter options history name added k)
      → (row : FullSlot) × Contains full row × (row.name ≡ name) × IsAddedAt options history row.revision name added

-- What the answer to line i says. Only an answer of the line's kind says anything.
abbrev pub Says : Options → List Line → List Request → ℕ → Reading → Answer → Type 0
Says options lines history i (Err fault) (answer.BadLine told) = told ≡ fault
Says options lines history i (Ok command.Phase) (answer.Phase number) = number ≡ count_by is_phase (take i lines) + 1
Says options lines history i (Ok (command.Commit session request)) (answer.Committed k identity) = IsKth options history request k identity
Says options lines history i (Ok (command.Commit session request)) (answer.Refused refused) =
    HasFault options history request refused × IsSinceSeen lines i (Ok (command.Commit session request)) refused.revision
Says options lines history i (Ok (command.Look session query)) (answer.Verdict revision word) =
    IsFoundByScan options lines history i (Ok (command.Look session query)) query revision word
Says options lines history i (Ok (command.Look session query)) (answer.NotYet k) =
    IsUnpublished options lines history i (Ok (command.Look session query)) query k
    × IsSinceSeen lines i (Ok (command.Look session query)) k
Says options lines history i (Ok (command.Look session query)) (answer.NoEndpoint k) =
    LivesNone options history query k × IsSinceSeen lines i (Ok (command.Look session query)) k
Says options lines history i (Ok (command.Trace session query)) (answer.Traced k trace) =
    IsExplained options history query k trace × IsSinceSeen lines i (Ok (command.Trace session query)) k
Says options lines history i (Ok (command.Trace session query)) (answer.NoEndpoint k) =
    LivesNone options history query k × IsSinceSeen lines i (Ok (command.Trace session query)) k
Says options lines history i (Ok (command.Sync session)) (answer.Synced k full) =
    AreExact options lines history i (Ok (command.Sync session)) k full × IsSinceSeen lines i (Ok (command.Sync session)) k
Says options lines history i reading told = ⊥

-- ---- the whole

-- A run, in short. There is one history, of as many requests as there are `ok` lines; each number from 1 on is carried
-- by one of them, and they ascend in each session and from phase to phase. No line prints a revision with a commit that
-- comes after the line. And each line has an answer of its kind, and what the answer says holds.
pub record IsRunInShort (options : Options) (lines : List Line) : Type 0 where
  pub history : List Request
  pub size : length history ≡ count_by is_ok lines
  pub once : (k : ℕ) → 1 ≤ k → k ≤ length history → count_by (is_ok_at k) lines ≡ 1
  pub ascend : (i j session other : ℕ) (request later : Request) (k n : ℕ) (identity number : Option ℕ)
      → IsLine lines i (Ok (command.Commit session request)) (answer.Committed k identity)
      → IsLine lines j (Ok (command.Commit other later)) (answer.Committed n number)
      → ComesBefore lines i (Ok (command.Commit session request)) j (Ok (command.Commit other later)) → k < n
  pub none_ahead : (i : ℕ) (reading : Reading) (told : Answer) (revision : ℕ) → IsLine lines i reading told → Prints told revision
      → IsReached lines history i reading revision
  pub each : (i : ℕ) (reading : Reading) (told : Answer) → IsLine lines i reading told → Says options lines history i reading told

-- ---- texts

-- the text of an answer that makes the status 1 begins with one of three words
abbrev pub begins_marked : List ℕ → Bool
begins_marked text = list_any (λ word. starts_with nat_eq text word) (codes "refused" ∷ codes "notyet" ∷ codes "noendpoint" ∷ [])

-- A text and a status, in short: it is the texts of one answer for each line of the script, in order; they are a run;
-- and the status is 1 where one of them begins with such a word, else 0.
pub record IsRunOfInShort (options : Options) (script written : List ℕ) (ended : ℕ) : Type 0 where
  pub lines : List Line
  pub one_each : map (λ line. line.0) lines ≡ map reading_of (lines_of script)
  pub text : written ≡ texts_of (map (λ line. line.1) lines)
  pub run : IsRunInShort options lines
  pub status : ended ≡ (if list_any (λ line. begins_marked (text_of line.1)) lines then 1 else 0)
