-- A legal history, and some that are not: each breaks one condition, and that of an older report two.
use Rattle.std.specs.Prelude.{List, [], ◌∷◌}
use Rattle.pol_model.specs.declared.options.Mode.TheVariants.{Always, Default}
use Rattle.pol_model.specs.declared.request.Request.TheVariants.{SetMode}
use Rattle.pol_history.specs.declared.event.HistoryEvent.{HistoryEvent}
use Rattle.pol_history.specs.ExampleEvents.{add_web, all_in, blocked, commit, open_map, publish, remove_web}

-- Where a map has one entry at most. Two passes commit; the endpoint's first map is too large, its second one is
-- published; then it goes and comes back, and a map of the new endpoint is published.
abbrev pub of_two_passes : List HistoryEvent
of_two_passes =
    commit 0 0 add_web
    ∷ blocked 1 1 2
    ∷ commit 1 0 (SetMode Always)
    ∷ publish 1 2 []
    ∷ commit 0 1 remove_web
    ∷ commit 1 1 add_web
    ∷ publish 4 4 []
    ∷ []

-- ---- commits

-- an endpoint of that name is live
abbrev pub added_twice : List HistoryEvent
added_twice = commit 0 0 add_web ∷ commit 0 1 add_web ∷ []

-- a pass skips a number
abbrev pub skipped_number : List HistoryEvent
skipped_number = commit 0 1 add_web ∷ []

-- a pass counts the commit of another
abbrev pub number_of_another : List HistoryEvent
number_of_another = commit 0 0 add_web ∷ commit 1 1 (SetMode Always) ∷ []

-- ---- reports

-- the endpoint is gone
abbrev pub report_of_the_gone : List HistoryEvent
report_of_the_gone = commit 0 0 add_web ∷ commit 0 1 remove_web ∷ publish 1 1 open_map ∷ []

-- the endpoint of that name is a later one
abbrev pub report_of_the_one_before : List HistoryEvent
report_of_the_one_before = commit 0 0 add_web ∷ commit 0 1 remove_web ∷ commit 0 2 add_web ∷ publish 1 1 open_map ∷ []

-- its revision wasn't committed yet
abbrev pub report_ahead : List HistoryEvent
report_ahead = commit 0 0 add_web ∷ publish 1 2 open_map ∷ []

-- a newer map was reported before
abbrev pub older_report : List HistoryEvent
older_report = commit 0 0 add_web ∷ commit 0 1 (SetMode Always) ∷ publish 1 2 [] ∷ publish 1 1 open_map ∷ []

-- the same was reported before
abbrev pub same_report : List HistoryEvent
same_report = commit 0 0 add_web ∷ publish 1 1 open_map ∷ publish 1 1 open_map ∷ []

-- it is older than a commit that stands before the report before
abbrev pub older_than_commits : List HistoryEvent
older_than_commits =
    commit 0 0 add_web
    ∷ commit 0 1 (SetMode Always)
    ∷ commit 0 2 (SetMode Default)
    ∷ publish 1 1 open_map
    ∷ publish 1 2 []
    ∷ []

-- what comes in is of revision 1, and what goes out of revision 2
abbrev pub map_of_two_revisions : List HistoryEvent
map_of_two_revisions = commit 0 0 add_web ∷ commit 0 1 (SetMode Always) ∷ publish 1 1 (all_in ∷ []) ∷ []

-- where a map has one entry at most, this one has two
abbrev pub map_above_the_limit : List HistoryEvent
map_above_the_limit = commit 0 0 add_web ∷ publish 1 1 open_map ∷ []

-- where a map has one entry at most, the count isn't the size
abbrev pub other_count : List HistoryEvent
other_count = commit 0 0 add_web ∷ blocked 1 1 3 ∷ []

-- where a map has two entries at most, this one is blocked
abbrev pub blocked_that_fits : List HistoryEvent
blocked_that_fits = commit 0 0 add_web ∷ blocked 1 1 2 ∷ []
