-- Small outputs that are runs. The first six are none that lines answered in input order give.
use Rattle.std.specs.Prelude.{List, [], ◌∷◌, None}
use Rattle.pol_mapkey.specs.declared.Word.TheVariants.{Allowed, DeniedByDefault}
use Rattle.pol_model.specs.declared.options.Mode.TheVariants.{Default, Always, Never}
use Rattle.pol_run.specs.Spots.{Line}
use Rattle.pol_run.specs.ExampleLines.{web, db, add_web, add_db, remove_web, set, first_number, ok, verdict, not_yet, trace, synced, full, phase}

-- Only the other session has seen maps of revision 2. So session 1 may be told that its endpoint has no map yet, and
-- be given an older one; and before its `synced` session 2 had seen no revision at all.
abbrev pub older_map : List Line
older_map =
    ok 1 add_web 1 first_number
    ∷ ok 1 (set Always) 2 None
    ∷ trace 2 web Allowed 1
    ∷ synced 2 2 []
    ∷ verdict 2 web DeniedByDefault 2
    ∷ not_yet 1 web 2
    ∷ verdict 1 web Allowed 1
    ∷ []

-- The commits of two sessions have their numbers in another order than their lines: mode `never` came first.
abbrev pub interleaved : List Line
interleaved =
    ok 1 (set Always) 2 None
    ∷ ok 2 (set Never) 1 None
    ∷ phase 1
    ∷ ok 2 add_web 3 first_number
    ∷ phase 2
    ∷ verdict 1 web DeniedByDefault 3
    ∷ []

-- where a map has one entry at most: a row is newer than its `synced` line, by a commit of the other session
abbrev pub newer_row : List Line
newer_row = ok 1 add_web 1 first_number ∷ synced 1 1 (full web 2 2 ∷ []) ∷ ok 2 (set Default) 2 None ∷ []

-- where a map has one entry at most: a `synced` line with a row of the endpoint shows no map of it
abbrev pub row_gives_no_floor : List Line
row_gives_no_floor =
    ok 1 add_web 1 first_number
    ∷ ok 1 (set Always) 2 None
    ∷ ok 1 (set Default) 3 None
    ∷ synced 1 3 (full web 3 2 ∷ [])
    ∷ not_yet 1 web 3
    ∷ verdict 1 web DeniedByDefault 2
    ∷ []

-- where a map has one entry at most: the map was published in between, by a commit of the other session
abbrev pub no_row_where_it_fits : List Line
no_row_where_it_fits = ok 1 add_web 1 first_number ∷ synced 1 1 [] ∷ ok 2 (set Always) 2 None ∷ []

-- where a map has one entry at most: two endpoints of one name
abbrev pub rows_of_old_and_new : List Line
rows_of_old_and_new =
    ok 1 add_web 1 first_number
    ∷ ok 1 remove_web 2 None
    ∷ ok 1 add_web 3 first_number
    ∷ synced 2 1 (full web 1 2 ∷ full web 3 2 ∷ [])
    ∷ []

-- where a map has two entries at most: this one has two
abbrev pub map_of_the_limit : List Line
map_of_the_limit = ok 1 add_web 1 first_number ∷ synced 1 1 [] ∷ verdict 1 web Allowed 1 ∷ []

-- Neither the verdict and the `synced` line for an endpoint of that name that is gone, nor a verdict for another
-- endpoint, shows a map of a new one.
abbrev pub new_endpoints : List Line
new_endpoints =
    ok 1 add_web 1 first_number
    ∷ verdict 1 web Allowed 1
    ∷ synced 1 1 []
    ∷ ok 1 remove_web 2 None
    ∷ ok 1 add_web 3 first_number
    ∷ ok 1 add_db 4 first_number
    ∷ not_yet 1 web 4
    ∷ verdict 1 web Allowed 4
    ∷ not_yet 1 db 4
    ∷ []
