-- Two passes that each committed once; the second has seen both commits.
use Rattle.std.specs.Prelude.{List, [], ◌∷◌}
use Rattle.pol_model.specs.declared.options.Mode.TheVariants.{Always}
use Rattle.pol_model.specs.declared.request.Request.TheVariants.{SetMode}
use Rattle.pol_history.specs.declared.event.HistoryEvent.{HistoryEvent}
use Rattle.pol_history.specs.ExampleEvents.{add_web, commit}
use Rattle.pol_history.specs.Grows.{PassView}
use Rattle.pol_history.specs.Meet.{Meeting}

abbrev pub one_commit : List HistoryEvent
one_commit = commit 0 0 add_web ∷ []

abbrev pub both_commits : List HistoryEvent
both_commits = commit 0 0 add_web ∷ commit 1 0 (SetMode Always) ∷ []

abbrev pub first_before : PassView
first_before = record { history = one_commit; mine = add_web ∷ [] }

abbrev pub first_after : PassView
first_after = record { history = both_commits; mine = add_web ∷ [] }

abbrev pub second : PassView
second = record { history = both_commits; mine = SetMode Always ∷ [] }

-- the first pass, where it took the commit of the second for its own
abbrev pub first_with_both : PassView
first_with_both = record { history = both_commits; mine = add_web ∷ SetMode Always ∷ [] }

-- the two passes, where the first has this afterwards
abbrev pub first_has : PassView → List Meeting
first_has after =
    record { pass = 0; before = first_before; after = after }
    ∷ record { pass = 1; before = second; after = second }
    ∷ []
