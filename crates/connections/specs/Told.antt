-- What is told of one script, or of two with the line `--` between them ('profile').
use Rattle.std.specs.Prelude.{ℕ, ◌==◌, ◌&&◌, Bool, false, not, if◌then◌else◌, List, ◌++◌, length, Option, None, Some}
use Rattle.std.specs.List.{flat_map}
use Rattle.pol_compare.specs.Parts.{parts_of}
use Rattle.pol_connections.specs.Connections.{changes_of, connections_of, ends_alone}
use Rattle.pol_connection_text.specs.declared.side.ChangeSide.{ChangeSide}
use Rattle.pol_connection_text.specs.declared.side.ChangeSide.TheVariants.{Before, After}
use Rattle.pol_connection_text.specs.Text.{change_text, connections_text, refusal_text}
use Rattle.pol_command_line.specs.declared.connections.ConnectionWords.{ConnectionWords}
use Rattle.pol_model.specs.declared.options.Options.{Options}
use Rattle.pol_model.specs.State.{State}
use Rattle.pol_run.specs.Run.{readings_of}
use Rattle.pol_run.specs.Spots.{Reading}
use Rattle.pol_script_commits.specs.declared.refusal.Refusal.{Refusal}
use Rattle.pol_script_commits.specs.Left.{state_after}
use Rattle.pol_script_commits.specs.Refused.{refusals_of}

-- the lines of a script that are refused, each with its side, where there are two
abbrev pub refusals_text : Option ChangeSide → List Refusal → List ℕ
refusals_text side refusals = flat_map (λ refusal. refusal_text side refusal.line refusal.answer) refusals

abbrev pub is_empty : {A : Type 0} → List A → Bool
is_empty xs = length xs == 0

-- 1 where a line was refused, else 3 where something changes, else 0
abbrev pub status_of : Bool → Bool → ℕ
status_of refused changes = if refused then 1 else (if changes then 3 else 0)

-- ---- one script: what is refused, and the connections that are open at its end
abbrev pub one_text : Options → List Reading → List ℕ
one_text options readings =
    refusals_text None (refusals_of options readings) ++ connections_text (connections_of options (state_after options readings))

abbrev pub one_status : Options → List Reading → ℕ
one_status options readings = status_of (not (is_empty (refusals_of options readings))) false

-- ---- two: what is refused of each, and what changes from the end of the first to the end of the second, of connections or of
-- halves of them
abbrev pub states_text : Bool → Options → State → State → List ℕ
states_text halves options s t = change_text (ends_alone t s) (ends_alone s t) (changes_of halves options s t)

abbrev pub two_text : Bool → Options → List Reading → List Reading → List ℕ
two_text halves options before after =
    refusals_text (Some Before) (refusals_of options before) ++ refusals_text (Some After) (refusals_of options after)
    ++ states_text halves options (state_after options before) (state_after options after)

-- whether nothing changes: no name comes or goes, and no connection opens or shuts, nor has a half of one another word where
-- halves are told
abbrev pub is_same : Bool → Options → State → State → Bool
is_same halves options s t = is_empty (ends_alone t s) && is_empty (ends_alone s t) && is_empty (changes_of halves options s t)

abbrev pub two_status : Bool → Options → List Reading → List Reading → ℕ
two_status halves options before after =
    status_of (not (is_empty (refusals_of options before) && is_empty (refusals_of options after)))
    (not (is_same halves options (state_after options before) (state_after options after)))

-- ---- the input: one script, where no line divides it
abbrev pub parts_text : ConnectionWords → List ℕ → Option (List ℕ) → List ℕ
parts_text asked front None = one_text asked.options (readings_of front)
parts_text asked front (Some back) = two_text asked.halves asked.options (readings_of front) (readings_of back)

abbrev pub parts_status : ConnectionWords → List ℕ → Option (List ℕ) → ℕ
parts_status asked front None = one_status asked.options (readings_of front)
parts_status asked front (Some back) = two_status asked.halves asked.options (readings_of front) (readings_of back)

-- What is written of the input, and the exit status.
abbrev pub told_text : ConnectionWords → List ℕ → List ℕ
told_text asked input = parts_text asked (parts_of input).front (parts_of input).back

abbrev pub told_status : ConnectionWords → List ℕ → ℕ
told_status asked input = parts_status asked (parts_of input).front (parts_of input).back
