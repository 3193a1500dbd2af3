-- Lines with their answers, and histories that don't hold what these tell.
use Rattle.std.specs.Prelude.{List, [], ◌∷◌, None}
use Rattle.pol_mapkey.specs.declared.Word.TheVariants.{Allowed}
use Rattle.pol_model.specs.declared.answer.FullSlot.{FullSlot}
use Rattle.pol_model.specs.declared.options.Mode.TheVariants.{Always}
use Rattle.pol_run.specs.ExampleLines.{add_web, db, first_number, full, ok, set, synced, verdict, web}
use Rattle.pol_run.specs.Spots.{Line}
use Rattle.pol_history.specs.declared.event.HistoryEvent.{HistoryEvent}
use Rattle.pol_history.specs.ExampleEvents.{commit}

-- a map of two entries is too large
abbrev pub row : FullSlot
row = full web 1 2

abbrev pub row_of_another : FullSlot
row_of_another = full db 1 2

abbrev pub row_of_three : FullSlot
row_of_three = full web 1 3

abbrev pub row_at_two : FullSlot
row_at_two = full web 2 2

-- two requests, of one session and of two
abbrev pub of_one_session : List Line
of_one_session = ok 1 add_web 1 first_number ∷ ok 1 (set Always) 2 None ∷ []

abbrev pub of_two_sessions : List Line
of_two_sessions = ok 1 add_web 1 first_number ∷ ok 2 (set Always) 2 None ∷ []

-- they are committed by two passes, and by one
abbrev pub by_two_passes : List HistoryEvent
by_two_passes = commit 0 0 add_web ∷ commit 1 0 (set Always) ∷ []

abbrev pub by_one_pass : List HistoryEvent
by_one_pass = commit 0 0 add_web ∷ commit 0 1 (set Always) ∷ []

-- behind a commit a verdict; `synced`, with a row and with none; and a verdict and `synced`
abbrev pub told_a_verdict : List Line
told_a_verdict = ok 1 add_web 1 first_number ∷ verdict 1 web Allowed 1 ∷ []

abbrev pub told_a_row : List Line
told_a_row = ok 1 add_web 1 first_number ∷ synced 1 1 (row ∷ []) ∷ []

abbrev pub told_no_row : List Line
told_no_row = ok 1 add_web 1 first_number ∷ synced 1 1 [] ∷ []

abbrev pub told_both : List Line
told_both = ok 1 add_web 1 first_number ∷ verdict 1 web Allowed 1 ∷ synced 1 1 [] ∷ []
