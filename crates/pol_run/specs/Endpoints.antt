-- Endpoints along a history, and which lines have shown a map of one. An endpoint is a name with the
-- revision that added it: a later one of the same name is another.
use Rattle.std.specs.Prelude.{◌≡◌, ℕ, ◌≤◌, not, Bool, List, IsTrue, Some, Ok}
use Rattle.std.specs.List.{list_any}
use Rattle.std.specs.Str.{bytes_eq}
use Rattle.pol_model.specs.declared.answer.FullSlot.{FullSlot}
use Rattle.pol_model.specs.declared.options.Options.{Options}
use Rattle.pol_model.specs.declared.row.Endpoint.{Endpoint}
use Rattle.pol_model.specs.Endpoints.{endpoint_of}
use Rattle.pol_model.specs.PolicyMap.{map_size}
use Rattle.pol_answer.specs.declared.answer.Answer.{Answer}
use Rattle.pol_answer.specs.declared.answer.Answer.TheVariants as answer
use Rattle.pol_script.specs.declared.command.Command.TheVariants as command
use Rattle.pol_run.specs.Spots.{Spot, Reading}
use Rattle.pol_run.specs.History.{state_at}

-- the endpoint that is live at the revision
pub record IsLive (options : Options) (spots : List Spot) (revision : ℕ) (name : List ℕ) (endpoint : Endpoint) : Type 0 where
  pub found : endpoint_of name (state_at options spots revision).endpoints ≡ Some endpoint

-- an endpoint that was added at that revision is live at a revision
pub record IsLiveSince (options : Options) (spots : List Spot) (revision : ℕ) (name : List ℕ) (added : ℕ) : Type 0 where
  pub endpoint : Endpoint
  pub live : IsLive options spots revision name endpoint
  pub same : endpoint.added ≡ added

-- the size of an endpoint's map at a revision
abbrev pub size_at : Options → List Spot → ℕ → Endpoint → ℕ
size_at options spots revision endpoint = map_size options (state_at options spots revision) endpoint

-- Whether a verdict line at this revision is for an endpoint: its query names it, and it is live there.
abbrev pub VerdictAnswers : Options → List Spot → Reading → Answer → List ℕ → ℕ → ℕ → Type 0
VerdictAnswers options spots (Ok (command.Look session query)) (answer.Verdict at_revision word) name added revision =
    (query.endpoint ≡ name) × (at_revision ≡ revision) × IsLiveSince options spots revision name added
VerdictAnswers options spots reading other name added revision = ⊥

-- the line is a verdict line at this revision for the endpoint of that name that was added there
pub record IsVerdictFor (options : Options) (spots : List Spot) (spot : Spot) (name : List ℕ) (added revision : ℕ) : Type 0 where
  pub verdict : VerdictAnswers options spots spot.reading spot.answer name added revision

-- a row of the list has the name
abbrev pub has_row : List ℕ → List FullSlot → Bool
has_row name full = list_any (λ row. bytes_eq row.name name) full

-- Whether an answer is `synced` at this revision, which is no older than an endpoint, without a row of its name.
abbrev pub SyncAnswers : Answer → List ℕ → ℕ → ℕ → Type 0
SyncAnswers (answer.Synced at_revision full) name added revision =
    (at_revision ≡ revision) × (added ≤ revision) × IsTrue (not (has_row name full))
SyncAnswers other name added revision = ⊥

-- the line is a `synced` line at this revision, no older than the endpoint, without a row of its name
pub record IsSyncFor (spot : Spot) (name : List ℕ) (added revision : ℕ) : Type 0 where
  pub sync : SyncAnswers spot.answer name added revision
