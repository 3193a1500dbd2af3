-- Small histories of one endpoint, and what passes have of them.
use Rattle.std.specs.Prelude.{List, [], ◌∷◌}
use Rattle.pol_model.specs.declared.options.Mode.TheVariants.{Always}
use Rattle.pol_model.specs.declared.request.Request.TheVariants.{SetMode}
use Rattle.pol_history.specs.declared.event.HistoryEvent.{HistoryEvent}
use Rattle.pol_history.specs.ExampleEvents.{add_web, blocked, commit, open_map, publish, remove_web}
use Rattle.pol_history.specs.Grows.{PassView}

-- the endpoint was added; its mode was changed behind that; it has gone again
abbrev pub added : List HistoryEvent
added = commit 0 0 add_web ∷ []

abbrev pub changed : List HistoryEvent
changed = commit 0 0 add_web ∷ commit 0 1 (SetMode Always) ∷ []

abbrev pub removed : List HistoryEvent
removed = commit 0 0 add_web ∷ commit 0 1 remove_web ∷ []

-- ---- its map of two entries, published

abbrev pub published : List HistoryEvent
published = commit 0 0 add_web ∷ publish 1 1 open_map ∷ []

-- another map than its canonical one
abbrev pub published_another : List HistoryEvent
published_another = commit 0 0 add_web ∷ publish 1 1 [] ∷ []

-- of revision 1, behind two commits
abbrev pub published_late : List HistoryEvent
published_late = commit 0 0 add_web ∷ commit 0 1 (SetMode Always) ∷ publish 1 1 open_map ∷ []

-- of revision 2, where there is one commit
abbrev pub published_ahead : List HistoryEvent
published_ahead = commit 0 0 add_web ∷ publish 1 2 open_map ∷ []

-- a commit came behind it
abbrev pub published_before : List HistoryEvent
published_before = commit 0 0 add_web ∷ publish 1 1 open_map ∷ commit 0 1 (SetMode Always) ∷ []

-- ---- the same, reported as too large

abbrev pub full : List HistoryEvent
full = commit 0 0 add_web ∷ blocked 1 1 2 ∷ []

abbrev pub full_late : List HistoryEvent
full_late = commit 0 0 add_web ∷ commit 0 1 (SetMode Always) ∷ blocked 1 1 2 ∷ []

abbrev pub full_ahead : List HistoryEvent
full_ahead = commit 0 0 add_web ∷ blocked 1 2 2 ∷ []

-- at a revision at which it has gone
abbrev pub full_though_gone : List HistoryEvent
full_though_gone = commit 0 0 add_web ∷ commit 0 1 remove_web ∷ blocked 1 2 2 ∷ []

-- ---- what passes have

abbrev pub nothing_own : List HistoryEvent → PassView
nothing_own history = record { history = history; mine = [] }

abbrev pub one_own : List HistoryEvent → PassView
one_own history = record { history = history; mine = add_web ∷ [] }
