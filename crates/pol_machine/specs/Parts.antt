-- What a step does to the parts of a machine: the repository, the rows of live endpoints, and what the slots have taken.
use Rattle.std.specs.Prelude.{◌≡◌, ◌≢◌, ℕ, ◌==◌, ◌<◌, ◌≤◌, ◌⊎◌, ◌++◌, ◌∷◌, [], true, false, if◌then◌else◌, List, length, Option, None, Some, IfSome, Result, Ok, Err, nat_eq}
use Rattle.std.specs.Arc.{arc_value}
use Rattle.std.specs.FinMap as finite
use Rattle.indexmap.specs.IndexMap.{IndexMap, get}
use Rattle.pol_set_moves.specs.Moves.{TellsMovesSince}
use Rattle.pol_kept_map.specs.Work.{map_of}
use Rattle.pol_distill.specs.Distilled.{distilled}
use Rattle.pol_map_changes.specs.Changes.{changed}
use Rattle.pol_map_changes.specs.declared.change.Change.{Change}
use Rattle.pol_slot_map.specs.declared.follow.Followed.{Followed}
use Rattle.pol_slot_map.specs.Follow.{GoesOn, IsShown, IsStartOf, MayApply, Stays}
use Rattle.pol_history.specs.declared.machine.Reply.{Reply}
use Rattle.pol_history.specs.declared.machine.Reply.TheVariants as reply
use Rattle.pol_history.specs.Machine.{endpoint_in, is_reported}
use Rattle.pol_history.specs.Reports.{published_before}
use Rattle.pol_model.specs.After.{after}
use Rattle.pol_model.specs.Commits.{IsRefusedIn}
use Rattle.pol_model.specs.Committed.{committed_of}
use Rattle.pol_model.specs.Fault.{fault_of}
use Rattle.pol_model.specs.PolicyMap.{policy_map}
use Rattle.pol_model.specs.declared.answer.Committed.{Committed}
use Rattle.pol_model.specs.declared.request.Request.{Request}
use Rattle.pol_repo.specs.Repository.{Repository, state_in}
use Rattle.pol_taken.specs.OfState.{IsTakenOf}
use Rattle.pol_taken.specs.declared.taken.Taken.{Taken}
use Rattle.pol_machine.specs.Rows.{RowsOf, SameRows, rows_after, since_of, trie_of, with_one}
use Rattle.pol_machine.specs.declared.row.MachineRow.{MachineRow}
use Rattle.pol_machine.specs.declared.row.MachineMap.{MachineMap}

-- ---- what the slots have taken

abbrev pub TakesOf : Type 0
TakesOf = ℕ → Option Taken

abbrev pub taken_in : Option (Option Taken) → Option Taken
taken_in None = None
taken_in (Some taken) = taken

abbrev pub by_slot : {S : Type 0} → IndexMap ℕ (Option Taken) S → TakesOf
by_slot takes slot = taken_in (get nat_eq takes slot)

abbrev pub SameTakes : TakesOf → TakesOf → Type 0
SameTakes old new = (slot : ℕ) → new slot ≡ old slot

-- what one slot has taken is now this
abbrev pub with_slot : ℕ → Option Taken → TakesOf → TakesOf
with_slot slot now takes other = if other == slot then now else takes other

-- ---- commit

-- the request is done, and the rows are those after it
pub record WasCommitted (old new : Repository) (rows later : RowsOf) (request : Request) (done : Committed) : Type 0 where
  pub no_fault : fault_of (state_in old) request ≡ None
  pub answer : done ≡ committed_of (after (state_in old) request) request
  pub repo : new ≡ record old { journal = old.journal ++ request ∷ []; prepared = None }
  pub rows_are : (name : List ℕ) → later name ≡ rows_after done.revision request rows name

abbrev pub Commits : {E : Type 0} → Repository → Repository → RowsOf → RowsOf → Request → Result Reply E → Type 0
Commits old new rows later request (Ok (reply.Committed done)) = WasCommitted old new rows later request done
Commits old new rows later request (Ok (reply.Refused refused)) = IsRefusedIn (state_in old) request refused × (new ≡ old) × SameRows rows later
Commits old new rows later request (Ok other) = ⊥
Commits old new rows later request (Err error) = (new ≡ old) × SameRows rows later

-- ---- take

-- the slot has taken this, or nothing has changed for want of memory
abbrev pub Keeps : {E : Type 0} → ℕ → Taken → TakesOf → TakesOf → Result Reply E → Type 0
Keeps slot taken old new (Ok now) = (now ≡ reply.Took taken.revision) × ((other : ℕ) → new other ≡ with_slot slot (Some taken) old other)
Keeps slot taken old new (Err error) = SameTakes old new

-- The slot has taken its endpoint, with the moves since the map that was made of it last.
pub record WasTaken (repo : Repository) (rows : RowsOf) (slot : ℕ) (old new : TakesOf) (revision : ℕ) : Type 0 where
  pub taken : Taken
  pub is : IsTakenOf repo.options (state_in repo) slot taken
  pub made : distilled (arc_value taken.filters) taken.sets ≡ policy_map repo.options (state_in repo) taken.endpoint
  pub moves : TellsMovesSince repo.options repo.journal (since_of rows (endpoint_in slot (state_in repo).endpoints)) taken.sets taken.moves
  pub same : revision ≡ taken.revision
  pub takes : (other : ℕ) → new other ≡ with_slot slot (Some taken) old other

abbrev pub Takes : {E : Type 0} → Repository → RowsOf → ℕ → TakesOf → TakesOf → Result Reply E → Type 0
Takes repo rows slot old new (Ok (reply.Took revision)) = WasTaken repo rows slot old new revision
Takes repo rows slot old new (Ok reply.Gone) = (endpoint_in slot (state_in repo).endpoints ≡ None) × SameTakes old new
Takes repo rows slot old new (Ok other) = ⊥
Takes repo rows slot old new (Err error) = SameTakes old new

-- ---- the map of what was taken

-- it may be made from what is kept
abbrev pub MayGo : Option Followed → Taken → Type 0
MayGo old taken = IfSome old (λ f. f.kept ≢ taken.revision → MayApply f.work (arc_value taken.filters) taken.sets taken.moves)

-- what is kept started, stayed or went on
abbrev pub WentTo : Option Followed → Taken → Followed → Type 0
WentTo None taken made = IsStartOf taken made
WentTo (Some old) taken made = Stays old made ⊎ GoesOn (arc_value taken.filters) taken.sets taken.revision old made

-- the map was made, and all changes that lead to it are joined
pub record IsMadeOf (old : Option Followed) (taken : Taken) (made : Followed) : Type 0 where
  pub went : WentTo old taken made
  pub kept : made.kept ≡ taken.revision
  pub joined : made.behind ≡ None

-- after want of memory it was made or not
abbrev pub WasTried : Option Followed → Taken → Option Followed → Type 0
WasTried old taken new = (new ≡ old) ⊎ ((made : Followed) × (new ≡ Some made) × WentTo old taken made)

abbrev pub Follows : {E : Type 0} → Option Followed → Taken → Option Followed → Result (Unit {0}) E → Type 0
Follows old taken new (Ok done) = (made : Followed) × (new ≡ Some made) × IsMadeOf old taken made
Follows old taken new (Err error) = WasTried old taken new

-- the published map has few keys, and so has the one that the changes lead to
pub record HasFewKeys (map : Option MachineMap) (changes : List Change) : Type 0 where
  pub before : finite.len (trie_of map) ≤ 65536
  pub after : finite.len (changed changes (trie_of map)) ≤ 65536

-- where the map that was made fits the limit
abbrev pub IsSmallMap : ℕ → Option MachineMap → Followed → Type 0
IsSmallMap limit map made = length (map_of made.work) ≤ limit → HasFewKeys map made.pending

-- the changes are made in the published map, or in an empty one
pub record IsShownOf (map : Option MachineMap) (changes : List Change) (taken : Taken) (shown : MachineMap) : Type 0 where
  pub revision : shown.revision ≡ taken.revision
  pub trie : shown.trie ≡ changed changes (trie_of map)
  pub addresses : arc_value shown.addresses ≡ arc_value taken.addresses

-- ---- finish

-- the map that was made is published in the row
pub record PublishesRow (commits : ℕ) (taken : Taken) (old : MachineRow) (made : Followed) (new : MachineRow) : Type 0 where
  pub shown : MachineMap
  pub is : IsShownOf old.map made.pending taken shown
  pub work : Followed
  pub follows : IsShown made work
  pub row : new ≡ record {
    added = old.added;
    report = Some (record { revision = taken.revision; commits = commits; published = Some taken.revision });
    map = Some shown;
    work = Some work;
    full = None;
  }

-- the row after the map that was made was reported as too large
abbrev pub row_blocked : ℕ → Taken → MachineRow → Followed → MachineRow
row_blocked commits taken old made = record {
  added = old.added;
  report = Some (record { revision = taken.revision; commits = commits; published = published_before old.report });
  map = old.map;
  work = Some made;
  full = Some (length (map_of made.work));
}

-- the map that was made is published or reported as too large, or nothing has changed for want of memory
abbrev pub Reports : {E : Type 0} → ℕ → ℕ → Taken → MachineRow → Followed → MachineRow → Result Reply E → Type 0
Reports limit commits taken old made new (Ok (reply.Published revision)) =
    (revision ≡ taken.revision) × (length (map_of made.work) ≤ limit) × PublishesRow commits taken old made new
Reports limit commits taken old made new (Ok (reply.Full revision count)) =
    (revision ≡ taken.revision) × (limit < length (map_of made.work)) × (count ≡ length (map_of made.work)) × (new ≡ row_blocked commits taken old made)
Reports limit commits taken old made new (Ok other) = ⊥
Reports limit commits taken old made new (Err error) = new ≡ old

pub record WasPublished (limit commits : ℕ) (taken : Taken) (old new : MachineRow) (revision : ℕ) : Type 0 where
  pub not_reported : is_reported taken.revision old.report ≡ false
  pub same : revision ≡ taken.revision
  pub made : Followed
  pub is : IsMadeOf old.work taken made
  pub fits : length (map_of made.work) ≤ limit
  pub publishes : PublishesRow commits taken old made new

pub record WasBlocked (limit commits : ℕ) (taken : Taken) (old new : MachineRow) (revision count : ℕ) : Type 0 where
  pub not_reported : is_reported taken.revision old.report ≡ false
  pub same : revision ≡ taken.revision
  pub made : Followed
  pub is : IsMadeOf old.work taken made
  pub over : limit < length (map_of made.work)
  pub all : count ≡ length (map_of made.work)
  pub row : new ≡ row_blocked commits taken old made

-- nothing was reported, for want of memory
pub record WasLeft (taken : Taken) (old new : MachineRow) : Type 0 where
  pub added : new.added ≡ old.added
  pub report : new.report ≡ old.report
  pub map : new.map ≡ old.map
  pub work : WasTried old.work taken new.work
  pub full : new.full ≡ old.full

abbrev pub FinishesRow : {E : Type 0} → ℕ → ℕ → Taken → MachineRow → MachineRow → Result Reply E → Type 0
FinishesRow limit commits taken old new (Ok (reply.Already revision)) =
    (is_reported taken.revision old.report ≡ true) × (revision ≡ taken.revision) × (new ≡ old)
FinishesRow limit commits taken old new (Ok (reply.Published revision)) = WasPublished limit commits taken old new revision
FinishesRow limit commits taken old new (Ok (reply.Full revision count)) = WasBlocked limit commits taken old new revision count
FinishesRow limit commits taken old new (Ok other) = ⊥
FinishesRow limit commits taken old new (Err error) = WasLeft taken old new

-- what is left of what was taken: it is spent, but after want of memory
abbrev pub left_over : {E : Type 0} → Taken → Result Reply E → Option Taken
left_over taken (Ok reply) = None
left_over taken (Err error) = Some taken

-- the endpoint that was taken is gone
pub record WasGone {E : Type 0} (rows later : RowsOf) (new : Option Taken) (result : Result Reply E) : Type 0 where
  pub answer : result ≡ Ok reply.Gone
  pub spent : new ≡ None
  pub same : SameRows rows later

pub record WasFinished {E : Type 0} (limit commits : ℕ) (taken : Taken) (row : MachineRow) (rows later : RowsOf) (new : Option Taken) (result : Result Reply E) : Type 0 where
  pub now : MachineRow
  pub finishes : FinishesRow limit commits taken row now result
  pub rows_are : (name : List ℕ) → later name ≡ with_one taken.endpoint.name (Some now) rows name
  pub left : new ≡ left_over taken result

-- what was taken is finished, where this is the row of its endpoint's name
abbrev pub FinishesTaken : {E : Type 0} → ℕ → ℕ → Taken → Option MachineRow → RowsOf → RowsOf → Option Taken → Result Reply E → Type 0
FinishesTaken limit commits taken None rows later new result = WasGone rows later new result
FinishesTaken limit commits taken (Some row) rows later new result =
    ((row.added ≢ taken.endpoint.added) × WasGone rows later new result)
    ⊎ ((row.added ≡ taken.endpoint.added) × WasFinished limit commits taken row rows later new result)

abbrev pub Finishes : {E : Type 0} → ℕ → ℕ → Option Taken → RowsOf → RowsOf → Option Taken → Result Reply E → Type 0
Finishes limit commits None rows later new result = (result ≡ Ok reply.Idle) × (new ≡ None) × SameRows rows later
Finishes limit commits (Some taken) rows later new result = FinishesTaken limit commits taken (rows taken.endpoint.name) rows later new result

-- it may be finished
pub record MayFinish (limit : ℕ) (taken : Taken) (row : MachineRow) : Type 0 where
  pub may_go : MayGo row.work taken
  pub few : (made : Followed) → IsMadeOf row.work taken made → IsSmallMap limit row.map made

abbrev pub MayFinishTaken : ℕ → Taken → Option MachineRow → Type 0
MayFinishTaken limit taken row = IfSome row (λ r. r.added ≡ taken.endpoint.added → MayFinish limit taken r)

-- what the slot has taken is finished, and nothing else that was taken changes
pub record FinishesSlot {E : Type 0} (limit commits slot : ℕ) (old : TakesOf) (rows later : RowsOf) (new : TakesOf) (result : Result Reply E) : Type 0 where
  pub now : Option Taken
  pub finishes : Finishes limit commits (old slot) rows later now result
  pub takes : (other : ℕ) → new other ≡ with_slot slot now old other
