-- What passes see of each other: calls that commit nothing, after which a pass has seen more.
use Rattle.std.specs.Prelude.{⊤, ◌≡◌, ℕ, ◌==◌, ◌||◌, Bool, true, false, List, [], ◌∷◌, slice_get, Some}
use Rattle.std.specs.List.{AllByRecursion, Contains}
use mathlib.Core.List.{IsPrefix}
use Rattle.pol_model.specs.declared.options.Options.{Options}
use Rattle.pol_model.specs.declared.request.Request.{Request}
use Rattle.pol_history.specs.declared.event.HistoryEvent.{HistoryEvent}
use Rattle.pol_history.specs.declared.event.HistoryEvent.TheVariants as event
use Rattle.pol_history.specs.Grows.{Grows, GrowsWhole, PassState, PassView}

-- the pass has learned what another had seen
pub record Learns (options : Options) (old : PassView) (seen : List HistoryEvent) (new : PassView) : Type 0 where
  pub grows : Grows options old new []
  pub learned : IsPrefix seen new.history

-- a history was shown to the pass: it has seen that one, and no other event, and all its own commits are there
pub record IsShown (options : Options) (history : List HistoryEvent) (pass : ℕ) (old new : PassView) : Type 0 where
  pub grows : GrowsWhole options pass old new []
  pub all : new.history ≡ history

-- a pass by its number, with what it has before and after
pub record Meeting : Type 0 where
  pub pass : ℕ
  pub before : PassView
  pub after : PassView

-- it was shown to each pass
abbrev pub AreShown : Options → List HistoryEvent → List Meeting → Type 0
AreShown options history meetings = AllByRecursion (λ m. IsShown options history m.pass m.before m.after) meetings

-- where the event is a commit, it is of one of these passes
abbrev pub IsOf : List ℕ → HistoryEvent → Type 0
IsOf passes (event.Commit pass number request) = Contains passes pass
IsOf passes (event.Publish endpoint revision table) = ⊤
IsOf passes (event.Blocked endpoint revision count) = ⊤

-- The passes have met: all of them have one history, which goes on from what each had seen, and whose commits are of the
-- passes that were handed out.
pub record HaveMet (options : Options) (handed_out : List ℕ) (meetings : List Meeting) : Type 0 where
  pub history : List HistoryEvent
  pub shown : AreShown options history meetings
  pub commits : AllByRecursion (IsOf handed_out) history

-- the meetings of passes, which were so before and are so after
abbrev pub meetings_of : List PassState → List PassState → List Meeting
meetings_of [] after = []
meetings_of (first ∷ before) [] = []
meetings_of (first ∷ before) (met ∷ after) = record { pass = first.number; before = first.has; after = met.has } ∷ meetings_of before after

-- ---- which passes commit, as a value behind a lock keeps it

-- whether the number is listed
abbrev pub has : List ℕ → ℕ → Bool
has [] pass = false
has (first ∷ others) pass = (first == pass) || has others pass

-- each commit is of one of these passes
pub record AreOf (passes : List ℕ) (history : List HistoryEvent) : Type 0 where
  pub each : (place pass number : ℕ) (request : Request) → slice_get history place ≡ Some (event.Commit pass number request) → has passes pass ≡ true
