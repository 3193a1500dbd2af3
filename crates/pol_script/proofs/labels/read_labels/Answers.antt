use Rattle.std.proofs.Common.{map}
use Rattle.std.proofs.lemmas.Result.{err_from_is_err_and}
use Rattle.serde_json.specs.View.{view}
use Rattle.pol_json.specs.Build.{text_of}
use Rattle.pol_labels.specs.LabelText.{read_label}
use Rattle.pol_script.specs.declared.line_fault.LineFault.TheVariants.{BadLabel}
use Rattle.pol_script.specs.Steps.{each}
use Rattle.pol_script.proofs.Turns.{each_more, each_stops}
use Rattle.pol_script.proofs.labels.read_labels.Goals as goal

pub loop-value-preserved : goal.loop-value-preserved
loop-value-preserved c =
    rw c.in_ok-push.ensures.items
    (each_more (λ v. text_of (view v)) read_label BadLabel c.loop-value.labels.items c.args.values.now c.loop-value.value-index c.value-item.result c.in_ok-read_label.field-0
    (each read_label (map (λ v. text_of (view v)) c.args.values.now)) c.loop-value-test.true c.value-item.is c.in_ok-read_label.ensures c.loop-value.invariant)

pub returns-in_err-read_label : goal.returns-in_err-read_label
returns-in_err-read_label c =
    let back = c.from_residual-in_err-read_label in
    let p = err_from_is_err_and back.result back.ensures.1 in
    each_stops (λ v. text_of (view v)) read_label BadLabel c.loop-value.labels.items c.args.values.now c.loop-value.value-index c.value-item.result
    (each read_label (map (λ v. text_of (view v)) c.args.values.now)) (λ labels. labels.items) c.in_err-read_label.field-0.0 back.result
    c.loop-value-test.true c.value-item.is c.in_err-read_label.ensures c.loop-value.invariant (cc (p.1, p.2))
