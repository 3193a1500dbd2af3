-- What is told of scripts, over repositories to which their lines were committed.
use Rattle.std.proofs.Common.{◌≡◌, ℕ, ◌&&◌, not, Bool, false, List, None, Some, ◌++◌, ap, sym, ◌∙◌}
use Rattle.pol_compare.specs.Parts.{Parts}
use Rattle.pol_connections.specs.Connections.{connections_of}
use Rattle.pol_connection_text.specs.declared.side.ChangeSide.TheVariants.{Before, After}
use Rattle.pol_connection_text.specs.Text.{connections_text}
use Rattle.pol_command_line.specs.declared.connections.ConnectionWords.{ConnectionWords}
use Rattle.pol_model.specs.declared.options.Options.{Options}
use Rattle.pol_model.specs.State.{State}
use Rattle.pol_run.specs.Run.{readings_of}
use Rattle.pol_run.specs.Spots.{Reading}
use Rattle.pol_script_commits.specs.declared.refusal.Refusal.{Refusal}
use Rattle.pol_script_commits.specs.Left.{state_after}
use Rattle.pol_script_commits.specs.Refused.{refusals_of}
use Rattle.connections.specs.Told.{is_empty, is_same, one_status, one_text, parts_status, parts_text, refusals_text, states_text, status_of, two_status, two_text}

-- ---- one script
module _ (options now : Options) (s : State) (refused : List Refusal) (readings : List Reading) (same : now ≡ options) (left : s ≡ state_after options readings)
    (all : refused ≡ refusals_of options readings) where
  pub one_told : (text : List ℕ) → text ≡ refusals_text None refused ++ connections_text (connections_of now s) → text ≡ one_text options readings
  one_told text told = told ∙ (λ i. refusals_text None (all i) ++ connections_text (connections_of (same i) (left i)))

  pub one_ended : (status : ℕ) → status ≡ status_of (not (is_empty refused)) false → status ≡ one_status options readings
  one_ended status told = told ∙ (λ i. status_of (not (is_empty (all i))) false)

-- ---- two
module _ (halves : Bool) (options now : Options) (s t : State) (refused_before refused_after : List Refusal) (one other : List Reading) (same : now ≡ options)
    (before : s ≡ state_after options one) (after : t ≡ state_after options other) (all_before : refused_before ≡ refusals_of options one)
    (all_after : refused_after ≡ refusals_of options other) where
  pub two_told : (text : List ℕ)
      → text ≡ refusals_text (Some Before) refused_before ++ refusals_text (Some After) refused_after ++ states_text halves now s t
      → text ≡ two_text halves options one other
  two_told text told =
      told ∙ (λ i. refusals_text (Some Before) (all_before i) ++ refusals_text (Some After) (all_after i) ++ states_text halves (same i) (before i) (after i))

  pub two_ended : (status : ℕ)
      → status ≡ status_of (not (is_empty refused_before && is_empty refused_after)) (not (is_same halves now s t))
      → status ≡ two_status halves options one other
  two_ended status told =
      told ∙ (λ i. status_of (not (is_empty (all_before i) && is_empty (all_after i))) (not (is_same halves (same i) (before i) (after i))))

-- ---- the parts of the input
module _ (asked : ConnectionWords) (parts : Parts) (front : List ℕ) (first : front ≡ parts.front) where
  module _ (none : parts.back ≡ None) where
    pub one_part : (text : List ℕ) → text ≡ one_text asked.options (readings_of front) → text ≡ parts_text asked parts.front parts.back
    one_part text told = told ∙ ap (λ (script : List ℕ). one_text asked.options (readings_of script)) first ∙ sym (ap (parts_text asked parts.front) none)

    pub one_part_ended : (status : ℕ) → status ≡ one_status asked.options (readings_of front) → status ≡ parts_status asked parts.front parts.back
    one_part_ended status told = told ∙ ap (λ (script : List ℕ). one_status asked.options (readings_of script)) first ∙ sym (ap (parts_status asked parts.front) none)

  module _ (back : List ℕ) (second : parts.back ≡ Some back) where
    pub two_parts : (text : List ℕ) → text ≡ two_text asked.halves asked.options (readings_of front) (readings_of back) → text ≡ parts_text asked parts.front parts.back
    two_parts text told =
        told ∙ ap (λ (script : List ℕ). two_text asked.halves asked.options (readings_of script) (readings_of back)) first ∙ sym (ap (parts_text asked parts.front) second)

    pub two_parts_ended : (status : ℕ) → status ≡ two_status asked.halves asked.options (readings_of front) (readings_of back) → status ≡ parts_status asked parts.front parts.back
    two_parts_ended status told =
        told ∙ ap (λ (script : List ℕ). two_status asked.halves asked.options (readings_of script) (readings_of back)) first ∙ sym (ap (parts_status asked parts.front) second)
