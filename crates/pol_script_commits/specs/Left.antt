-- The state that the lines of a script leave.
use Rattle.std.specs.Prelude.{List, [], ◌∷◌}
use Rattle.pol_model.specs.declared.options.Options.{Options}
use Rattle.pol_model.specs.After.{start}
use Rattle.pol_model.specs.State.{State}
use Rattle.pol_run.specs.Serial.{state_then}
use Rattle.pol_run.specs.Spots.{Reading}

-- the state that lines leave, from a state on: a request without a fault commits, and no other line changes anything
abbrev pub state_left : State → List Reading → State
state_left s [] = s
state_left s (reading ∷ readings) = state_left (state_then s reading) readings

-- the state that the lines of a script leave
abbrev pub state_after : Options → List Reading → State
state_after options readings = state_left (start options) readings
