-- Small outputs that are not runs, for their commits.
use Rattle.std.specs.Prelude.{List, [], ◌∷◌, None, Some}
use Rattle.pol_model.specs.declared.options.Mode.TheVariants.{Default, Always, Never}
use Rattle.pol_run.specs.Spots.{Line}
use Rattle.pol_run.specs.ExampleLines.{add_web, set, first_number, ok, phase}

-- two sessions were given one number
abbrev pub repeated_number : List Line
repeated_number = ok 1 (set Always) 1 None ∷ ok 2 (set Never) 1 None ∷ []

abbrev pub repeated_later : List Line
repeated_later = ok 1 (set Always) 1 None ∷ ok 1 (set Never) 2 None ∷ ok 2 (set Default) 2 None ∷ []

-- nothing has the number 1
abbrev pub gap : List Line
gap = ok 1 (set Always) 2 None ∷ []

abbrev pub from_zero : List Line
from_zero = ok 1 (set Always) 0 None ∷ []

abbrev pub descending_in_session : List Line
descending_in_session = ok 1 (set Always) 2 None ∷ ok 1 (set Never) 1 None ∷ []

abbrev pub descending_over_phases : List Line
descending_over_phases = ok 1 (set Always) 2 None ∷ phase 1 ∷ ok 2 (set Never) 1 None ∷ []

-- an endpoint of that name is live
abbrev pub faulty_commit : List Line
faulty_commit = ok 1 add_web 1 first_number ∷ ok 1 add_web 2 first_number ∷ []

-- the endpoint has another number
abbrev pub other_number : List Line
other_number = ok 1 add_web 1 (Some 257) ∷ []
