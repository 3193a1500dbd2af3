-- The map that a script leaves an endpoint with.
use Rattle.std.specs.Prelude.{ℕ, Bool, List, Option, None, Some, is_some}
use Rattle.pol_answer.specs.declared.answer.Answer.TheVariants as answer
use Rattle.pol_answer.specs.Text.{text_of as answer_text}
use Rattle.pol_audit.specs.Text.{text_of as table_text}
use Rattle.pol_model.specs.declared.options.Options.{Options}
use Rattle.pol_model.specs.declared.row.Endpoint.{Endpoint}
use Rattle.pol_model.specs.Endpoints.{endpoint_of}
use Rattle.pol_model.specs.PolicyMap.{policy_map}
use Rattle.pol_model.specs.State.{State}
use Rattle.pol_run.specs.Run.{readings_of}
use Rattle.pol_run.specs.Spots.{Reading}
use Rattle.pol_script_commits.specs.Left.{state_after}

-- the live endpoint of the name there
abbrev pub endpoint_after : Options → List ℕ → List Reading → Option Endpoint
endpoint_after options name readings = endpoint_of name (state_after options readings).endpoints

-- the table of an endpoint's map, whatever its size, or that none is live after so many commits
abbrev pub map_text_in : Options → State → Option Endpoint → List ℕ
map_text_in options s None = answer_text (answer.NoEndpoint s.revision)
map_text_in options s (Some endpoint) = table_text (policy_map options s endpoint)

abbrev pub map_text_after : Options → List ℕ → List Reading → List ℕ
map_text_after options name readings = map_text_in options (state_after options readings) (endpoint_after options name readings)

-- What is written of the map of the endpoint of the name, at the end of a script ('profile').
abbrev pub map_text : Options → List ℕ → List ℕ → List ℕ
map_text options name script = map_text_after options name (readings_of script)

-- whether an endpoint of the name is live there
abbrev pub is_live : Options → List ℕ → List ℕ → Bool
is_live options name script = is_some (endpoint_after options name (readings_of script))
