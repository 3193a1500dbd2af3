-- What a slot keeps of its endpoint's reports.
use Rattle.std.specs.Prelude.{◌≡◌, ◌≢◌, ℕ, Bool, true, false, not, if◌then◌else◌, List, Option, None, Some, IfSome, option_map}
use Rattle.pol_history.specs.declared.event.EndpointId.{EndpointId}
use Rattle.pol_history.specs.declared.event.HistoryEvent.{HistoryEvent}
use Rattle.pol_history.specs.declared.event.LastReport.{LastReport}
use Rattle.pol_history.specs.Commits.{Lives, live_endpoint, same_endpoint, state_now}
use Rattle.pol_history.specs.Machine.{endpoint_id, endpoint_in}
use Rattle.pol_history.specs.Reports.{last_report, published_before}
use Rattle.pol_model.specs.declared.options.Options.{Options}
use Rattle.pol_model.specs.declared.row.Endpoint.{Endpoint}
use Rattle.pol_slot_map.specs.declared.follow.Followed.{Followed}
use Rattle.pol_slot_map.specs.Follow.{IsShown}
use Rattle.pol_slot_map.specs.Followed.{Follows, id_in}
use Rattle.pol_node.specs.declared.kept.Found.{Found}
use Rattle.pol_node.specs.declared.kept.Found.TheVariants as found
use Rattle.pol_node.specs.declared.kept.KeptEndpoint.{KeptEndpoint}
use Rattle.pol_node.specs.declared.report.Finished.{Finished}
use Rattle.pol_node.specs.declared.report.Finished.TheVariants as done
use Rattle.pol_node.specs.declared.report.RegenError.{RegenError}
use Rattle.pol_node.specs.declared.report.RegenError.TheVariants as error

-- an endpoint, and its last report
pub record KeptReport : Type 0 where
  pub endpoint : EndpointId
  pub last : Option LastReport

abbrev pub report_in : KeptEndpoint → KeptReport
report_in kept = record { endpoint = id_in kept.followed; last = kept.last }

-- the last report of the endpoint, as it is kept: none where nothing is kept of it
abbrev pub known : Option KeptReport → EndpointId → Option LastReport
known None endpoint = None
known (Some kept) endpoint = if same_endpoint kept.endpoint endpoint then kept.last else None

-- what is kept is of another endpoint
abbrev pub is_of_other : EndpointId → Option KeptEndpoint → Bool
is_of_other endpoint None = false
is_of_other endpoint (Some kept) = not (same_endpoint (id_in kept.followed) endpoint)

-- what is kept, unless it is let go
abbrev pub kept_unless : Bool → Option KeptEndpoint → Option KeptEndpoint
kept_unless true kept = None
kept_unless false kept = kept

-- the revision of the map that was made last
abbrev pub since_of : Option KeptEndpoint → Option ℕ
since_of kept = option_map (λ k. k.followed.kept) kept

-- ---- the slot's endpoint

-- the last report of the live endpoint in the slot, if there is one, is the one that is kept
abbrev pub IsStill : Options → List HistoryEvent → ℕ → Option KeptReport → Type 0
IsStill options history slot kept = (row : Endpoint) → endpoint_in slot (state_now options history).endpoints ≡ Some row
    → last_report (endpoint_id row) history ≡ known kept (endpoint_id row)

-- the last report of the live endpoint in the slot is another one than is kept
pub record IsOvertaken (options : Options) (history : List HistoryEvent) (slot : ℕ) (kept : Option KeptReport) : Type 0 where
  pub row : Endpoint
  pub there : endpoint_in slot (state_now options history).endpoints ≡ Some row
  pub other : last_report (endpoint_id row) history ≢ known kept (endpoint_id row)

-- why a regeneration reported nothing
abbrev pub NotRegenerated : Options → List HistoryEvent → ℕ → Option KeptReport → RegenError → Type 0
NotRegenerated options history slot kept error.Memory = IsStill options history slot kept
NotRegenerated options history slot kept error.Overtaken = IsOvertaken options history slot kept

-- ---- what is kept, where this is the history

-- what is kept goes with the map that was published last
pub record IsKeptOf (options : Options) (history : List HistoryEvent) (kept : KeptEndpoint) : Type 0 where
  pub follows : Follows options history kept.followed
  pub shown : kept.followed.shown ≡ published_before kept.last

-- the endpoint lives, and its last report is the one that is kept
pub record Keeps (options : Options) (history : List HistoryEvent) (kept : KeptEndpoint) : Type 0 where
  pub is : IsKeptOf options history kept
  pub row : Endpoint
  pub live : live_endpoint (id_in kept.followed) (state_now options history) ≡ Some row
  pub last : last_report (id_in kept.followed) history ≡ kept.last

-- what was taken of the endpoint is kept, or nothing is kept and it has no report
abbrev pub IsKeptWith : List HistoryEvent → Endpoint → Option KeptEndpoint → Type 0
IsKeptWith history row None = last_report (endpoint_id row) history ≡ None
IsKeptWith history row (Some kept) = id_in kept.followed ≡ endpoint_id row

-- nothing else than was kept is reported of the slot's endpoint, and it goes on to be kept
pub record StaysAt (options : Options) (history : List HistoryEvent) (slot : ℕ) (old new : Option KeptEndpoint) : Type 0 where
  pub still : IsStill options history slot (option_map report_in old)
  pub keeps : IfSome new (Keeps options history)
  pub known : (row : Endpoint) → endpoint_in slot (state_now options history).endpoints ≡ Some row → IsKeptWith history row new

-- what a take finds
abbrev pub Finds : Options → List HistoryEvent → ℕ → Option KeptEndpoint → Option KeptEndpoint → Found → Type 0
Finds options history slot old new found.Gone = endpoint_in slot (state_now options history).endpoints ≡ None
Finds options history slot old new found.Still = StaysAt options history slot old new
Finds options history slot old new found.Overtaken = IsOvertaken options history slot (option_map report_in old)

-- ---- a finish

-- the last report where a map was published, and where one was reported as too large, behind so many commits
abbrev pub published_now : ℕ → ℕ → Option LastReport
published_now revision commits = Some (record { revision = revision; commits = commits; published = Some revision })

abbrev pub blocked_now : ℕ → ℕ → Option LastReport → Option LastReport
blocked_now revision commits last = Some (record { revision = revision; commits = commits; published = published_before last })

-- the endpoint lives, and this is its last report
pub record IsLastNow (options : Options) (history : List HistoryEvent) (endpoint : EndpointId) (last : Option LastReport) : Type 0 where
  pub live : Lives (state_now options history) endpoint
  pub is : last_report endpoint history ≡ last

-- the endpoint lives, and this is not its last report
pub record IsLastNoMore (options : Options) (history : List HistoryEvent) (endpoint : EndpointId) (last : Option LastReport) : Type 0 where
  pub live : Lives (state_now options history) endpoint
  pub other : last_report endpoint history ≢ last

-- why a finish reported nothing, where this was the last report at the take
abbrev pub NotReported : Options → List HistoryEvent → EndpointId → Option LastReport → RegenError → Type 0
NotReported options history endpoint last error.Memory = IsLastNow options history endpoint last
NotReported options history endpoint last error.Overtaken = IsLastNoMore options history endpoint last

-- its last report afterwards, and the revision of its map that was published last
pub record IsReportedAs (options : Options) (history : List HistoryEvent) (endpoint : EndpointId) (last : Option LastReport) (shown : Option ℕ) : Type 0 where
  pub now : IsLastNow options history endpoint last
  pub shows : published_before last ≡ shown

-- how it ended, where `last` was the last report before
abbrev pub ReportsOn : Options → List HistoryEvent → EndpointId → ℕ → Option LastReport → Finished → Option LastReport → Type 0
ReportsOn options history endpoint revision last done.Published now = IsReportedAs options history endpoint now (Some revision)
ReportsOn options history endpoint revision last (done.Already published) now = IsReportedAs options history endpoint now (published_before last)
ReportsOn options history endpoint revision last done.Full now = IsReportedAs options history endpoint now (published_before last)
ReportsOn options history endpoint revision last done.Gone now = Lives (state_now options history) endpoint → ⊥

-- what is followed after it: a map that was published is the one that is shown
abbrev pub ShowsOn : Finished → Followed → Followed → Type 0
ShowsOn done.Published old new = IsShown old new
ShowsOn (done.Already published) old new = new ≡ old
ShowsOn done.Full old new = new ≡ old
ShowsOn done.Gone old new = new ≡ old
