-- Small outputs that are not runs, for the rows of a `synced` line. A map has one entry at most here; that of `web`
-- or `db` has two in mode `default`, and none in mode `always`.
use Rattle.std.specs.Prelude.{List, [], ◌∷◌, None}
use Rattle.pol_model.specs.declared.options.Mode.TheVariants.{Default, Always}
use Rattle.pol_run.specs.Spots.{Line}
use Rattle.pol_run.specs.ExampleLines.{web, db, app, add_web, add_db, add_app, remove_web, set, first_number, ok, synced, full}

-- ---- rows that are missing

abbrev pub missing_row : List Line
missing_row = ok 1 add_web 1 first_number ∷ synced 1 1 [] ∷ []

-- only the other endpoint has one
abbrev pub row_of_the_other_alone : List Line
row_of_the_other_alone =
    ok 1 add_web 1 first_number ∷ ok 1 add_db 2 first_number ∷ synced 1 2 (full db 2 2 ∷ []) ∷ []

-- the map fits later, by a commit that the session has still to make
abbrev pub missing_before_commit : List Line
missing_before_commit = ok 1 add_web 1 first_number ∷ synced 1 1 [] ∷ ok 1 (set Always) 2 None ∷ []

-- ---- rows that are too many, or out of order

abbrev pub doubled_row : List Line
doubled_row = ok 1 add_web 1 first_number ∷ synced 1 1 (full web 1 2 ∷ full web 1 2 ∷ []) ∷ []

abbrev pub doubled_later : List Line
doubled_later =
    ok 1 add_web 1 first_number
    ∷ ok 1 add_db 2 first_number
    ∷ synced 1 2 (full db 2 2 ∷ full web 2 2 ∷ full web 2 2 ∷ [])
    ∷ []

-- `db` comes before `web`
abbrev pub unsorted_rows : List Line
unsorted_rows =
    ok 1 add_web 1 first_number ∷ ok 1 add_db 2 first_number ∷ synced 1 2 (full web 2 2 ∷ full db 2 2 ∷ []) ∷ []

abbrev pub unsorted_later : List Line
unsorted_later =
    ok 1 add_web 1 first_number
    ∷ ok 1 add_db 2 first_number
    ∷ ok 1 add_app 3 first_number
    ∷ synced 1 3 (full app 3 2 ∷ full web 3 2 ∷ full db 3 2 ∷ [])
    ∷ []

-- two endpoints of one name, the later one first
abbrev pub unsorted_revisions : List Line
unsorted_revisions =
    ok 1 add_web 1 first_number
    ∷ ok 1 remove_web 2 None
    ∷ ok 1 add_web 3 first_number
    ∷ synced 2 1 (full web 3 2 ∷ full web 1 2 ∷ [])
    ∷ []

-- ---- rows that are false

abbrev pub other_size : List Line
other_size = ok 1 add_web 1 first_number ∷ synced 1 1 (full web 1 3 ∷ []) ∷ []

-- older than its line
abbrev pub older_row : List Line
older_row = ok 1 add_web 1 first_number ∷ ok 1 (set Default) 2 None ∷ synced 1 2 (full web 1 2 ∷ []) ∷ []

-- the session has still to commit revision 2
abbrev pub row_ahead : List Line
row_ahead = ok 1 add_web 1 first_number ∷ synced 1 1 (full web 2 2 ∷ []) ∷ ok 1 (set Default) 2 None ∷ []

abbrev pub row_of_a_map_that_fits : List Line
row_of_a_map_that_fits = ok 1 add_web 1 first_number ∷ ok 1 (set Always) 2 None ∷ synced 1 2 (full web 2 0 ∷ []) ∷ []

-- no endpoint is live
abbrev pub row_of_none : List Line
row_of_none = synced 1 0 (full web 0 2 ∷ []) ∷ []
