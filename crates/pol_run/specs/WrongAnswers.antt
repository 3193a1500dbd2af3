-- Small outputs that are not runs, for the kind of an answer or the number of a phase; and texts of answers.
use Rattle.std.specs.Prelude.{ℕ, List, [], ◌∷◌, ◌++◌, codes, Ok, Err}
use Rattle.pol_mapkey.specs.declared.Word.TheVariants.{Allowed}
use Rattle.pol_script.specs.Lines.{newline}
use Rattle.pol_answer.specs.declared.answer.Answer.TheVariants as answer
use Rattle.pol_script.specs.declared.command.Command.TheVariants as command
use Rattle.pol_script.specs.declared.line_fault.LineFault.TheVariants as line
use Rattle.pol_run.specs.Spots.{Line}
use Rattle.pol_run.specs.ExampleLines.{web, add_web, packet_to, first_number, ok, phase}

-- ---- phases

abbrev pub first_phase_is_two : List Line
first_phase_is_two = phase 2 ∷ []

abbrev pub second_phase_is_one : List Line
second_phase_is_one = phase 1 ∷ phase 1 ∷ []

-- ---- answers of another kind than the line

abbrev pub other_line_fault : List Line
other_line_fault = (Err line.Json, answer.BadLine line.NoOp) ∷ []

abbrev pub phase_for_sync : List Line
phase_for_sync = (Ok (command.Sync 1), answer.Phase 1) ∷ []

abbrev pub synced_for_phase : List Line
synced_for_phase = (Ok command.Phase, answer.Synced 0 []) ∷ []

abbrev pub not_yet_for_trace : List Line
not_yet_for_trace = ok 1 add_web 1 first_number ∷ (Ok (command.Trace 1 (packet_to web)), answer.NotYet 1) ∷ []

abbrev pub verdict_for_trace : List Line
verdict_for_trace =
    ok 1 add_web 1 first_number ∷ (Ok (command.Trace 1 (packet_to web)), answer.Verdict 1 Allowed) ∷ []

-- ---- texts

-- a script of one line
abbrev pub one_line : List ℕ
one_line = codes "{}" ++ newline ∷ []

-- an answer that makes the status 1, of each kind
abbrev pub a_refusal : List ℕ
a_refusal = codes "refused 2 no-op" ++ newline ∷ []

abbrev pub a_not_yet : List ℕ
a_not_yet = codes "notyet at 0" ++ newline ∷ []

abbrev pub a_no_endpoint : List ℕ
a_no_endpoint = codes "noendpoint at 0" ++ newline ∷ []

-- one that doesn't
abbrev pub a_phase : List ℕ
a_phase = codes "phase 1" ++ newline ∷ []
