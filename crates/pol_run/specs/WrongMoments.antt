-- Small outputs that are not runs, for a refusal, a trace, a `noendpoint` or a `synced`.
use Rattle.std.specs.Prelude.{List, [], ◌∷◌, None}
use Rattle.pol_mapkey.specs.declared.Word.TheVariants.{Allowed, DeniedByDefault}
use Rattle.pol_model.specs.declared.answer.Fault.TheVariants.{DuplicateEndpoint, UnknownEndpoint}
use Rattle.pol_model.specs.declared.options.Mode.TheVariants.{Default, Always}
use Rattle.pol_run.specs.Spots.{Line}
use Rattle.pol_run.specs.ExampleLines.{web, db, add_web, remove_web, set, first_number, ok, refused, verdict, not_yet, no_endpoint, trace, synced, full, phase}

-- ---- refusals

-- the session has added the endpoint at revision 1
abbrev pub stale_refusal : List Line
stale_refusal = ok 1 add_web 1 first_number ∷ refused 1 remove_web UnknownEndpoint 0 ∷ []

-- another session has, in an earlier phase
abbrev pub stale_refusal_after_phase : List Line
stale_refusal_after_phase = ok 2 add_web 1 first_number ∷ phase 1 ∷ refused 1 remove_web UnknownEndpoint 0 ∷ []

-- the session has still to commit revision 1
abbrev pub refusal_ahead : List Line
refusal_ahead = refused 1 add_web DuplicateEndpoint 1 ∷ ok 1 add_web 1 first_number ∷ []

abbrev pub other_fault : List Line
other_fault = refused 1 remove_web DuplicateEndpoint 0 ∷ []

-- ---- traces

abbrev pub stale_trace : List Line
stale_trace = ok 1 add_web 1 first_number ∷ ok 1 (set Always) 2 None ∷ trace 1 web Allowed 1 ∷ []

abbrev pub trace_ahead : List Line
trace_ahead = ok 1 add_web 1 first_number ∷ trace 1 web DeniedByDefault 2 ∷ ok 1 (set Always) 2 None ∷ []

-- revision 2 is of a later phase
abbrev pub trace_ahead_of_phase : List Line
trace_ahead_of_phase =
    ok 1 add_web 1 first_number ∷ trace 1 web DeniedByDefault 2 ∷ phase 1 ∷ ok 2 (set Always) 2 None ∷ []

abbrev pub other_trace : List Line
other_trace = ok 1 add_web 1 first_number ∷ trace 1 web DeniedByDefault 1 ∷ []

-- Each answer shows its session the revision that it prints: after this line of session 2, at revision 2, a
-- trace at revision 1.
abbrev pub older_than_printed : Line → List Line
older_than_printed line =
    ok 1 add_web 1 first_number
    ∷ ok 1 (set Always) 2 None
    ∷ line
    ∷ trace 2 web Allowed 1
    ∷ []

abbrev pub older_than_refusal : List Line
older_than_refusal = older_than_printed (refused 2 add_web DuplicateEndpoint 2)

abbrev pub older_than_trace : List Line
older_than_trace = older_than_printed (trace 2 web DeniedByDefault 2)

abbrev pub older_than_verdict : List Line
older_than_verdict = older_than_printed (verdict 2 web DeniedByDefault 2)

abbrev pub older_than_not_yet : List Line
older_than_not_yet = older_than_printed (not_yet 2 web 2)

abbrev pub older_than_no_endpoint : List Line
older_than_no_endpoint = older_than_printed (no_endpoint 2 db 2)

abbrev pub older_than_synced : List Line
older_than_synced = older_than_printed (synced 2 2 [])

-- where a map has one entry at most: the row was of revision 2
abbrev pub older_than_row : List Line
older_than_row =
    ok 1 add_web 1 first_number
    ∷ synced 2 1 (full web 2 2 ∷ [])
    ∷ ok 1 (set Default) 2 None
    ∷ trace 2 web Allowed 1
    ∷ []

-- ---- `noendpoint`

abbrev pub stale_no_endpoint : List Line
stale_no_endpoint = ok 1 add_web 1 first_number ∷ no_endpoint 1 web 0 ∷ []

abbrev pub no_endpoint_of_the_live : List Line
no_endpoint_of_the_live = ok 1 add_web 1 first_number ∷ no_endpoint 1 web 1 ∷ []

-- ---- `synced`

abbrev pub stale_sync : List Line
stale_sync = ok 1 (set Always) 1 None ∷ synced 1 0 [] ∷ []

abbrev pub sync_ahead : List Line
sync_ahead = synced 1 1 [] ∷ ok 1 (set Always) 1 None ∷ []
