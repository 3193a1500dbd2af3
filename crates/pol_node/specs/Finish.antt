-- How a finish ends, where `old` is what the slot's pass had seen before it, and `new` what it has seen after it.
use Rattle.std.specs.Prelude.{◌≡◌, ◌≢◌, ℕ, ◌≤◌, Bool, true, false, List, [], length, slice_get, Option, Some}
use Rattle.pol_mapkey.specs.Entries.{Entry as MapEntry}
use Rattle.pol_model.specs.declared.options.Options.{Options}
use Rattle.pol_history.specs.declared.event.EndpointId.{EndpointId}
use Rattle.pol_history.specs.declared.event.HistoryEvent.{HistoryEvent}
use Rattle.pol_history.specs.declared.event.HistoryEvent.TheVariants as event
use Rattle.pol_history.specs.declared.event.LastReport.{LastReport}
use Rattle.pol_history.specs.Commits.{Lives, state_now}
use Rattle.pol_history.specs.Legal.{IsLegal}
use Rattle.pol_history.specs.Regenerate.{IsAlready, IsFull, IsGone, IsPublished}
use Rattle.pol_history.specs.Reports.{last_report, map_at}
use Rattle.pol_node.specs.declared.report.Finished.{Finished}
use Rattle.pol_node.specs.declared.report.Finished.TheVariants as done
use Rattle.pol_node.specs.declared.report.Regen.{Regen}
use Rattle.pol_node.specs.declared.report.Regen.TheVariants as regen

-- the endpoint's canonical map at the revision was published past `old`
pub record WasPublished (options : Options) (endpoint : EndpointId) (revision : ℕ) (old new : List HistoryEvent) : Type 0 where
  pub table : List MapEntry
  pub place : ℕ
  pub there : slice_get new place ≡ Some (event.Publish endpoint revision table)
  pub past : length old ≤ place
  pub canonical : map_at options new endpoint revision ≡ Some table

-- a map of so many entries was reported as too large past `old`
pub record WasBlocked (endpoint : EndpointId) (revision count : ℕ) (old new : List HistoryEvent) : Type 0 where
  pub place : ℕ
  pub there : slice_get new place ≡ Some (event.Blocked endpoint revision count)
  pub past : length old ≤ place

-- the revision is that of the last report
pub record WasReported (endpoint : EndpointId) (revision : ℕ) (new : List HistoryEvent) : Type 0 where
  pub report : LastReport
  pub last : last_report endpoint new ≡ Some report
  pub same : report.revision ≡ revision

abbrev pub TellsPublished : Bool → ℕ → Option ℕ → Type 0
TellsPublished true revision published = published ≡ Some revision
TellsPublished false revision published = published ≢ Some revision

pub record WasReportedAs (endpoint : EndpointId) (revision : ℕ) (new : List HistoryEvent) (published : Bool) : Type 0 where
  pub is : WasReported endpoint revision new
  pub tells : TellsPublished published revision is.report.published

-- what was taken of the endpoint at the revision, whose map has so many entries, was finished so
abbrev pub Finishes : Options → EndpointId → ℕ → ℕ → List HistoryEvent → List HistoryEvent → Finished → Type 0
Finishes options endpoint revision count old new done.Published = WasPublished options endpoint revision old new
Finishes options endpoint revision count old new (done.Already published) = WasReportedAs endpoint revision new published
Finishes options endpoint revision count old new done.Full = WasBlocked endpoint revision count old new
Finishes options endpoint revision count old new done.Gone = Lives (state_now options new) endpoint → ⊥

-- what a regeneration answers
abbrev pub Regenerates : Options → ℕ → List HistoryEvent → List HistoryEvent → Regen → Type 0
Regenerates options slot old new (regen.Published revision) = IsPublished options slot old new revision
Regenerates options slot old new (regen.Already revision) = IsAlready options slot old new revision
Regenerates options slot old new (regen.Full revision count) = IsFull options slot old new revision count
Regenerates options slot old new regen.Gone = IsGone options slot old new

-- A regeneration of the slot answers so, by what the slot's pass has seen after it. That lies behind the slot's lock, so it is told
-- from the beginning of the history on.
pub record HasRegenerated (options : Options) (slot : ℕ) (answer : Regen) : Type 0 where
  pub seen : List HistoryEvent
  pub legal : IsLegal options seen
  pub is : Regenerates options slot [] seen answer
