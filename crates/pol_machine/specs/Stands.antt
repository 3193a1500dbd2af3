-- What a machine keeps, and the machine of the definitions that it stands for.
use Rattle.std.specs.Prelude.{◌≡◌, ⊤, ℕ, ◌≤◌, ◌⊎◌, if◌then◌else◌, List, Option, None, Some, IfSome, Result, Ok, Err, nat_eq, option_map}
use Rattle.std.specs.Arc.{arc_value}
use Rattle.std.specs.Map.{lookup}
use mathlib.Core.List.{IsPrefix}
use Rattle.pol_set_moves.specs.Moves.{TellsMovesSince}
use Rattle.pol_data.specs.contracts.text.TextPartialEq.TheImpl as text
use Rattle.pol_distill.specs.Distilled.{distilled}
use Rattle.pol_slot_map.specs.declared.follow.Followed.{Followed}
use Rattle.pol_slot_map.specs.Followed.{Follows, id_in}
use Rattle.pol_history.specs.declared.event.EndpointId.{EndpointId}
use Rattle.pol_history.specs.declared.event.HistoryEvent.{HistoryEvent}
use Rattle.pol_history.specs.declared.event.LastReport.{LastReport}
use Rattle.pol_history.specs.declared.machine.Event.{Event}
use Rattle.pol_history.specs.declared.machine.Event.TheVariants as step
use Rattle.pol_history.specs.declared.machine.Reply.{Reply}
use Rattle.pol_history.specs.Commits.{commits_in, revision_of, state_now}
use Rattle.pol_history.specs.Content.{content_of}
use Rattle.pol_history.specs.Machine.{Machine, endpoint_id, step_of}
use Rattle.pol_history.specs.Machine as machine
use Rattle.pol_history.specs.MachineKeeps.{IsSound}
use Rattle.pol_history.specs.Reports.{published_before, size_at}
use Rattle.pol_model.specs.PolicyMap.{policy_map}
use Rattle.pol_model.specs.Sizes.{IsShort}
use Rattle.pol_model.specs.declared.options.Options.{Options}
use Rattle.pol_model.specs.FullRows.{fits_limit}
use Rattle.pol_repo.specs.Repository.{Repository}
use Rattle.pol_repo_history.specs.AtHistory.{IsAt}
use Rattle.pol_taken.specs.OfState.{IsTakenOf}
use Rattle.pol_taken.specs.declared.taken.Taken.{Taken}
use Rattle.pol_machine.specs.Parts.{TakesOf, taken_in}
use Rattle.pol_machine.specs.Rows.{RowsOf, live_held}
use Rattle.pol_machine.specs.declared.row.MachineRow.{MachineRow}

-- what is kept: how many entries a published map may have, the repository, by name each live endpoint, and what each slot has
-- taken
pub record Kept : Type 0 where
  pub limit : ℕ
  pub repo : Repository
  pub rows : RowsOf
  pub takes : TakesOf

-- the same as a contract sees it, with lists in place of functions
pub record Stored : Type 0 where
  pub limit : ℕ
  pub repo : Repository
  pub rows : List (List ℕ × MachineRow)
  pub takes : List (ℕ × Option Taken)

abbrev pub kept_of : Stored → Kept
kept_of s = record {
  limit = s.limit;
  repo = s.repo;
  rows = λ name. lookup (text.ghosts.eq name) s.rows;
  takes = λ slot. taken_in (lookup (nat_eq slot) s.takes);
}

-- the options of the definitions: those of the repository, which knows no limit, with the limit
abbrev pub options_of : Kept → Options
options_of k = record k.repo.options { map_max = Some k.limit }

-- ---- the works

-- the map that was made last is the endpoint's, and the changes lead to it from the map that was published last
pub record IsKeptWork (options : Options) (history : List HistoryEvent) (name : List ℕ) (added : ℕ) (f : Followed) : Type 0 where
  pub follows : Follows options history f
  pub id : id_in f ≡ record { name = name; added = added }

-- the revision of the map that the changes lead from, none where no map was made
abbrev pub shown_in : Option Followed → Option ℕ
shown_in None = None
shown_in (Some f) = f.shown

-- how many entries a map has, where they are more than the limit says
abbrev pub over_limit : Option ℕ → Option ℕ → Option ℕ
over_limit limit None = None
over_limit limit (Some count) = if fits_limit limit count then None else Some count

-- what is kept of the size of the map that was reported last: nothing, or how many entries it has, where they are too many
abbrev pub TellsFull : Options → List HistoryEvent → EndpointId → Option LastReport → Option ℕ → Type 0
TellsFull options history endpoint None full = full ≡ None
TellsFull options history endpoint (Some report) full =
    (report.revision ≤ revision_of history) × (full ≡ over_limit options.map_max (size_at options history endpoint report.revision))

pub record IsKeptRow (options : Options) (history : List HistoryEvent) (name : List ℕ) (row : MachineRow) : Type 0 where
  pub shown : shown_in row.work ≡ published_before row.report
  pub work : IfSome row.work (IsKeptWork options history name row.added)
  pub full : TellsFull options history (record { name = name; added = row.added }) row.report row.full

-- ---- what was taken

abbrev pub taken_as : Taken → machine.Taken
taken_as taken = record { endpoint = endpoint_id taken.endpoint; revision = taken.revision }

-- What was taken may be applied to this work, which is of a revision before: it is made of it already, or its moves are those
-- since.
pub record GoesFrom (options : Options) (before : List HistoryEvent) (taken : Taken) (f : Followed) : Type 0 where
  pub follows : Follows options before f
  pub moves : (f.kept ≡ taken.revision) ⊎ TellsMovesSince options (commits_in before) (Some f.kept) taken.sets taken.moves

-- it was taken after a beginning of the history
pub record IsTakenFor (options : Options) (history : List HistoryEvent) (rows : RowsOf) (slot : ℕ) (taken : Taken) : Type 0 where
  pub before : List HistoryEvent
  pub begins : IsPrefix before history
  pub revision : taken.revision ≡ revision_of before
  pub is : IsTakenOf options (state_now options before) slot taken
  pub made : distilled (arc_value taken.filters) taken.sets ≡ policy_map options (state_now options before) taken.endpoint
  pub goes : (row : MachineRow) → rows taken.endpoint.name ≡ Some row → row.added ≡ taken.endpoint.added → IfSome row.work (GoesFrom options before taken)

-- ---- what it stands for

-- The rows hold the content of the history, so what a look-up needs and no more; each work is of its endpoint, and each slot
-- has taken what the machine's slot has.
pub record StandsFor (k : Kept) (m : Machine) : Type 0 where
  pub few : k.limit ≤ 65536
  pub sound : IsSound (options_of k) m
  pub at : IsAt (options_of k) m.history k.repo
  pub live : (name : List ℕ) → live_held k.rows name ≡ (content_of (options_of k) m.history).live name
  pub works : (name : List ℕ) (row : MachineRow) → k.rows name ≡ Some row → IsKeptRow (options_of k) m.history name row
  pub taken : (slot : ℕ) → option_map taken_as (k.takes slot) ≡ m.taken slot
  pub takes : (slot : ℕ) (taken : Taken) → k.takes slot ≡ Some taken → IsTakenFor (options_of k) m.history k.rows slot taken

-- some machine is what it stands for
pub record StandsForSome (k : Kept) : Type 0 where
  pub machine : Machine
  pub stands : StandsFor k machine

-- ---- steps

-- a commit's request has lists of fewer than 2 ^ 32 items
abbrev pub IsGiven : Event → Type 0
IsGiven (step.Commit request) = IsShort request
IsGiven (step.Take slot) = ⊤
IsGiven (step.Finish slot) = ⊤
IsGiven (step.Look query) = ⊤

-- The reply is that of the definition, and so is the machine that is stood for afterwards. After want of memory it is the one
-- before.
abbrev pub Steps : {E : Type 0} → Options → Machine → Event → Kept → Result Reply E → Type 0
Steps options m event new (Ok reply) = (reply ≡ (step_of options m event).0) × StandsFor new (step_of options m event).1
Steps options m event new (Err error) = StandsFor new m

-- ---- as a contract sees a machine

abbrev pub options_in : Stored → Options
options_in s = options_of (kept_of s)

abbrev pub Stands : Stored → Machine → Type 0
Stands s m = StandsFor (kept_of s) m

abbrev pub StepsTo : {E : Type 0} → Options → Machine → Event → Stored → Result Reply E → Type 0
StepsTo options m event new result = Steps options m event (kept_of new) result
