use Rattle.std.proofs.Common.{◌≡◌, drop, map}
use Rattle.serde_json.specs.View.{view}
use Rattle.pol_json.specs.Build.{text_of}
use Rattle.pol_labels.specs.LabelText.{read_label}
use Rattle.pol_script.specs.Steps.{each}
use Rattle.pol_script.proofs.Turns.{rest_from}
use Rattle.pol_script.proofs.labels.read_labels.Given as goal

-- the labels so far, and what the rest reads as, are what all read as
abbrev pub invariant-loop-value : goal.invariant-loop-value
invariant-loop-value l =
    rest_from (λ v. text_of (view v)) read_label l.labels.items (drop l.value-index l.values) ≡ each read_label (map (λ v. text_of (view v)) l.values)
