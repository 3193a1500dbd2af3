-- Small outputs that are not runs, for a verdict or a `notyet`.
use Rattle.std.specs.Prelude.{List, [], ◌∷◌, None, Some}
use Rattle.pol_mapkey.specs.declared.Word.TheVariants.{Allowed, DeniedByDefault}
use Rattle.pol_model.specs.declared.options.Mode.TheVariants.{Default, Always}
use Rattle.pol_run.specs.Spots.{Line}
use Rattle.pol_run.specs.ExampleLines.{web, db, add_web, add_init_db, remove_web, set, first_number, ok, verdict, not_yet, synced, full, phase}

-- ---- verdicts that are too old

-- the session was told that all maps are of revision 2
abbrev pub older_than_sync : List Line
older_than_sync =
    ok 1 add_web 1 first_number
    ∷ ok 1 (set Always) 2 None
    ∷ synced 1 2 []
    ∷ verdict 1 web Allowed 1
    ∷ []

-- another session was told so, in an earlier phase
abbrev pub older_than_phase_sync : List Line
older_than_phase_sync =
    ok 1 add_web 1 first_number
    ∷ ok 1 (set Always) 2 None
    ∷ synced 2 2 []
    ∷ phase 1
    ∷ verdict 1 web Allowed 1
    ∷ []

-- the row is of another endpoint's map, so the line shows that of `db`
abbrev pub older_than_sync_with_row : List Line
older_than_sync_with_row =
    ok 1 add_web 1 first_number
    ∷ ok 1 add_init_db 2 (Some 5)
    ∷ ok 1 (set Default) 3 None
    ∷ synced 1 3 (full web 3 2 ∷ [])
    ∷ verdict 1 db DeniedByDefault 2
    ∷ []

-- the session has had a verdict at revision 2
abbrev pub going_back : List Line
going_back =
    ok 1 add_web 1 first_number
    ∷ ok 1 (set Always) 2 None
    ∷ verdict 2 web DeniedByDefault 2
    ∷ verdict 2 web Allowed 1
    ∷ []

-- another session has had one, in an earlier phase
abbrev pub going_back_over_phases : List Line
going_back_over_phases =
    ok 1 add_web 1 first_number
    ∷ ok 1 (set Always) 2 None
    ∷ verdict 2 web DeniedByDefault 2
    ∷ phase 1
    ∷ verdict 1 web Allowed 1
    ∷ []

-- the endpoint wasn't there yet
abbrev pub older_than_endpoint : List Line
older_than_endpoint =
    ok 1 (set Always) 1 None
    ∷ ok 1 add_web 2 first_number
    ∷ verdict 1 web DeniedByDefault 1
    ∷ []

-- ---- other verdicts

-- the session has still to commit revision 2
abbrev pub verdict_ahead : List Line
verdict_ahead =
    ok 1 add_web 1 first_number
    ∷ verdict 1 web DeniedByDefault 2
    ∷ ok 1 (set Always) 2 None
    ∷ []

-- the session has removed the endpoint
abbrev pub verdict_for_the_gone : List Line
verdict_for_the_gone =
    ok 1 add_web 1 first_number
    ∷ ok 1 remove_web 2 None
    ∷ verdict 1 web Allowed 1
    ∷ []

-- without policies, mode `default` allows all
abbrev pub other_word : List Line
other_word = ok 1 add_web 1 first_number ∷ verdict 1 web DeniedByDefault 1 ∷ []

-- where a map has one entry at most: this one has two
abbrev pub over_the_limit : List Line
over_the_limit = ok 1 add_web 1 first_number ∷ verdict 1 web Allowed 1 ∷ []

-- ---- `notyet`

abbrev pub not_yet_after_verdict : List Line
not_yet_after_verdict = ok 1 add_web 1 first_number ∷ verdict 1 web Allowed 1 ∷ not_yet 1 web 1 ∷ []

abbrev pub not_yet_after_phase_verdict : List Line
not_yet_after_phase_verdict =
    ok 1 add_web 1 first_number ∷ verdict 1 web Allowed 1 ∷ phase 1 ∷ not_yet 2 web 1 ∷ []

abbrev pub not_yet_after_sync : List Line
not_yet_after_sync = ok 1 add_web 1 first_number ∷ synced 1 1 [] ∷ not_yet 1 web 1 ∷ []

abbrev pub not_yet_after_phase_sync : List Line
not_yet_after_phase_sync = ok 1 add_web 1 first_number ∷ synced 1 1 [] ∷ phase 1 ∷ not_yet 2 web 1 ∷ []

abbrev pub stale_not_yet : List Line
stale_not_yet = ok 1 add_web 1 first_number ∷ ok 1 (set Always) 2 None ∷ not_yet 1 web 1 ∷ []

-- no endpoint is live
abbrev pub not_yet_of_none : List Line
not_yet_of_none = not_yet 1 web 0 ∷ []
