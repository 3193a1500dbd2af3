-- A small script with maps above the limit, a line that isn't read, and look-ups that find no map.
use Rattle.std.specs.Prelude.{ℕ, true, List, [], ◌∷◌, codes, None, Some, Err}
use Rattle.pol_addr.specs.Address.{addr_of_octets}
use Rattle.pol_answer.specs.declared.answer.Answer.{Answer}
use Rattle.pol_answer.specs.declared.answer.Answer.TheVariants as answer
use Rattle.pol_model.specs.declared.answer.FullSlot.{FullSlot}
use Rattle.pol_model.specs.declared.options.Mode.TheVariants.{Default}
use Rattle.pol_model.specs.declared.options.Options.{Options}
use Rattle.pol_model.specs.declared.request.Request.{Request}
use Rattle.pol_model.specs.declared.request.Request.TheVariants.{AddEndpoint}
use Rattle.pol_model_laws.specs.WorkedMaps.{k8s_label, namespace_label}
use Rattle.pol_run.specs.Spots.{Reading}
use Rattle.pol_script.specs.declared.line_fault.LineFault.TheVariants as line
use Rattle.pol_serial_run.specs.Worked.{asks, commit, deathstar, rule1, ship, sync}

-- a map of more than three entries isn't published
abbrev pub narrow : Options
narrow = record { mode = Default; localhost = true; map_max = Some 3 }

-- it has the deathstar's labels, and a name that comes before
abbrev pub corvette : Request
corvette = AddEndpoint (codes "corvette")
    (k8s_label (codes "class") (codes "deathstar") ∷ namespace_label ∷ k8s_label (codes "org") (codes "empire") ∷ [])
    (addr_of_octets 10 0 0 2)

abbrev pub narrow_lines : List Reading
narrow_lines =
    Err line.Json
    ∷ asks 2
    ∷ commit deathstar
    ∷ commit corvette
    ∷ commit (ship (codes "tiefighter") (codes "empire") 3)
    ∷ commit rule1
    ∷ sync
    ∷ asks 2
    ∷ []

-- its map has an entry for each of the empire's two numbers, one for the local host, and one for all that goes out
abbrev pub too_large : List ℕ → FullSlot
too_large name = record { name = name; revision = 4; count = 4 }

abbrev pub narrow_answers : List Answer
narrow_answers =
    answer.BadLine line.Json
    ∷ answer.NoEndpoint 0
    ∷ answer.Committed 1 (Some 256)
    ∷ answer.Committed 2 (Some 256)
    ∷ answer.Committed 3 (Some 257)
    ∷ answer.Committed 4 None
    ∷ answer.Synced 4 (too_large (codes "corvette") ∷ too_large (codes "deathstar") ∷ [])
    ∷ answer.NotYet 4
    ∷ []
