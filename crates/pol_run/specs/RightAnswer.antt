-- Which answer to a line is right, by the kind of the line.
use Rattle.std.specs.Prelude.{⊤, ◌≡◌, ℕ, ◌-◌, ◌≤◌, not, List, [], ◌∷◌, IsTrue, Option, None, Some, Ok, Err}
use Rattle.std.specs.List.{AllByRecursion, Contains}
use Rattle.pol_mapkey.specs.declared.Word.{Word}
use Rattle.pol_model.specs.declared.answer.FullSlot.{FullSlot}
use Rattle.pol_model.specs.declared.answer.Refused.{Refused}
use Rattle.pol_model.specs.declared.answer.Trace.{Trace}
use Rattle.pol_model.specs.declared.options.Options.{Options}
use Rattle.pol_model.specs.declared.request.Query.{Query}
use Rattle.pol_model.specs.declared.request.Request.{Request}
use Rattle.pol_model.specs.declared.row.Endpoint.{Endpoint}
use Rattle.pol_model.specs.Committed.{identity_given}
use Rattle.pol_model.specs.Endpoints.{endpoint_of}
use Rattle.pol_model.specs.Explain.{explain_of}
use Rattle.pol_model.specs.Fault.{fault_of}
use Rattle.pol_model.specs.Remote.{verdict_for}
use Rattle.pol_model.specs.FullRows.{FullRowsAscend, fits_limit}
use Rattle.pol_answer.specs.declared.answer.Answer.{Answer}
use Rattle.pol_answer.specs.declared.answer.Answer.TheVariants as answer
use Rattle.pol_script.specs.declared.command.Command.TheVariants as command
use Rattle.pol_run.specs.Spots.{Spot, Reading, stands_before}
use Rattle.pol_run.specs.History.{state_at}
use Rattle.pol_run.specs.Moments.{IsMoment, cap}
use Rattle.pol_run.specs.Endpoints.{IsLive, IsLiveSince, IsVerdictFor, IsSyncFor, size_at}

-- `ok k`: the request had no fault at the revision before, and holds the number that the new state gives it
pub record IsRightCommit (options : Options) (spots : List Spot) (request : Request) (revision : ℕ) (printed : Option ℕ) : Type 0 where
  pub no_fault : fault_of (state_at options spots (revision - 1)) request ≡ None
  pub identity : printed ≡ identity_given (state_at options spots revision) request

-- `refused F at k`: the request has that fault at a moment of the line
pub record IsRightRefusal (options : Options) (spots : List Spot) (spot : Spot) (request : Request) (refused : Refused) : Type 0 where
  pub moment : IsMoment spots spot refused.revision
  pub fault : fault_of (state_at options spots refused.revision) request ≡ Some refused.fault

-- A verdict at R: of an endpoint that is live at a moment of the line, at a revision from the one that
-- added it to that moment; by a scan of all rules there; of a map that may be published; and no older
-- than any map of the endpoint that was seen before the line.
pub record IsRightVerdict (options : Options) (spots : List Spot) (spot : Spot) (query : Query) (revision : ℕ) (word : Word) : Type 0 where
  pub moment : ℕ
  pub is_moment : IsMoment spots spot moment
  pub endpoint : Endpoint
  pub live : IsLive options spots moment query.endpoint endpoint
  pub since_added : endpoint.added ≤ revision
  pub by_moment : revision ≤ moment
  pub scan : word ≡ verdict_for options (state_at options spots revision) query endpoint
  pub fits : IsTrue (fits_limit options.map_max (size_at options spots revision endpoint))
  pub verdicts_seen : (other : Spot) (seen : ℕ) → Contains spots other → IsTrue (stands_before other spot)
      → IsVerdictFor options spots other query.endpoint endpoint.added seen → seen ≤ revision
  pub syncs_seen : (other : Spot) (seen : ℕ) → Contains spots other → IsTrue (stands_before other spot)
      → IsSyncFor other query.endpoint endpoint.added seen → seen ≤ revision

-- `notyet at k`: the endpoint is live at a moment of the line, and no map of it was seen before the line
pub record IsRightNotYet (options : Options) (spots : List Spot) (spot : Spot) (query : Query) (revision : ℕ) : Type 0 where
  pub is_moment : IsMoment spots spot revision
  pub endpoint : Endpoint
  pub live : IsLive options spots revision query.endpoint endpoint
  pub no_verdict : (other : Spot) (seen : ℕ) → Contains spots other → IsTrue (stands_before other spot)
      → IsVerdictFor options spots other query.endpoint endpoint.added seen → ⊥
  pub no_sync : (other : Spot) (seen : ℕ) → Contains spots other → IsTrue (stands_before other spot)
      → IsSyncFor other query.endpoint endpoint.added seen → ⊥

-- `noendpoint at k`: no endpoint of that name is live at a moment of the line
pub record IsRightNoEndpoint (options : Options) (spots : List Spot) (spot : Spot) (query : Query) (revision : ℕ) : Type 0 where
  pub is_moment : IsMoment spots spot revision
  pub absent : endpoint_of query.endpoint (state_at options spots revision).endpoints ≡ None

-- a trace at k: the explanation at a moment of the line
pub record IsRightTrace (options : Options) (spots : List Spot) (spot : Spot) (query : Query) (revision : ℕ) (trace : Trace) : Type 0 where
  pub is_moment : IsMoment spots spot revision
  pub explains : explain_of options (state_at options spots revision) query ≡ Some trace

-- A row `NAME@R=COUNT`: at a revision from that of the line to its cap an endpoint of that name is
-- live, and its map has that many entries, which are too many.
pub record IsRightRow (options : Options) (spots : List Spot) (spot : Spot) (synced : ℕ) (row : FullSlot) : Type 0 where
  pub since : synced ≤ row.revision
  pub allowed : row.revision ≤ cap spots spot
  pub endpoint : Endpoint
  pub live : IsLive options spots row.revision row.name endpoint
  pub count : row.count ≡ size_at options spots row.revision endpoint
  pub too_many : IsTrue (not (fits_limit options.map_max row.count))

-- two rows are of one endpoint
pub record AreOfOneEndpoint (options : Options) (spots : List Spot) (a b : FullSlot) : Type 0 where
  pub name : a.name ≡ b.name
  pub added : ℕ
  pub first : IsLiveSince options spots a.revision a.name added
  pub second : IsLiveSince options spots b.revision b.name added

-- no two of the rows are of one endpoint
abbrev pub NoTwoOfOneEndpoint : Options → List Spot → List FullSlot → Type 0
NoTwoOfOneEndpoint options spots [] = ⊤
NoTwoOfOneEndpoint options spots (row ∷ rows) =
    AllByRecursion (λ other. AreOfOneEndpoint options spots row other → ⊥) rows × NoTwoOfOneEndpoint options spots rows

-- the endpoint's map is too large at a revision
pub record IsTooLarge (options : Options) (spots : List Spot) (name : List ℕ) (added revision : ℕ) : Type 0 where
  pub endpoint : Endpoint
  pub live : IsLive options spots revision name endpoint
  pub same : endpoint.added ≡ added
  pub too_many : IsTrue (not (fits_limit options.map_max (size_at options spots revision endpoint)))

-- the endpoint has a row
pub record HasRow (options : Options) (spots : List Spot) (full : List FullSlot) (name : List ℕ) (added : ℕ) : Type 0 where
  pub row : FullSlot
  pub listed : Contains full row
  pub named : row.name ≡ name
  pub live : IsLiveSince options spots row.revision name added

-- `synced N`: N is a moment of the line. Each row is right, they ascend, and no two are of one
-- endpoint; and an endpoint whose map is too large from N to the line's cap has one.
pub record IsRightSync (options : Options) (spots : List Spot) (spot : Spot) (revision : ℕ) (full : List FullSlot) : Type 0 where
  pub is_moment : IsMoment spots spot revision
  pub rows : AllByRecursion (IsRightRow options spots spot revision) full
  pub ascend : FullRowsAscend full
  pub distinct : NoTwoOfOneEndpoint options spots full
  pub complete : (name : List ℕ) (added : ℕ)
      → ((k : ℕ) → revision ≤ k → k ≤ cap spots spot → IsTooLarge options spots name added k)
      → HasRow options spots full name added

-- An answer is of the kind of its line, and right.
abbrev pub RightAnswer : Options → List Spot → Spot → Reading → Answer → Type 0
RightAnswer options spots spot (Err fault) (answer.BadLine told) = told ≡ fault
RightAnswer options spots spot (Ok command.Phase) (answer.Phase number) = number ≡ spot.phase
RightAnswer options spots spot (Ok (command.Commit session request)) (answer.Committed revision identity) =
    IsRightCommit options spots request revision identity
RightAnswer options spots spot (Ok (command.Commit session request)) (answer.Refused refused) =
    IsRightRefusal options spots spot request refused
RightAnswer options spots spot (Ok (command.Sync session)) (answer.Synced revision full) =
    IsRightSync options spots spot revision full
RightAnswer options spots spot (Ok (command.Look session query)) (answer.Verdict revision word) =
    IsRightVerdict options spots spot query revision word
RightAnswer options spots spot (Ok (command.Look session query)) (answer.NotYet revision) =
    IsRightNotYet options spots spot query revision
RightAnswer options spots spot (Ok (command.Look session query)) (answer.NoEndpoint revision) =
    IsRightNoEndpoint options spots spot query revision
RightAnswer options spots spot (Ok (command.Trace session query)) (answer.Traced revision trace) =
    IsRightTrace options spots spot query revision trace
RightAnswer options spots spot (Ok (command.Trace session query)) (answer.NoEndpoint revision) =
    IsRightNoEndpoint options spots spot query revision
RightAnswer options spots spot reading other = ⊥
