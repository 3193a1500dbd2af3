use Rattle.std.proofs.Common.{◌∙◌}
use Rattle.std.proofs.lemmas.Result.{IfOk-weaker}
use Rattle.pol_connection_maps.proofs.Saying.{both_ranges, halves_said}
use Rattle.pol_connection_maps.proofs.changed.ranges_changed.Goals as goal

pub returns : goal.returns
returns c =
    let from = c.args.from.now in
    let to = c.args.to.now in
    IfOk-weaker c.changed_ranges.result _ _ (λ made told. told ∙ both_ranges from to c.args.proto c.by_halves.result c.at-sent_before.result.now c.at-received_before.result.now c.at-sent.result.now c.at-received.result.now c.by_halves.ensures
    (halves_said from.before to.before c.before-was_from.result.now c.before-was_to.result.now c.args.proto c.before-was_from.ensures c.before-was_to.ensures
    c.at-sent_before.result.now c.at-received_before.result.now c.number.result c.number-2.result c.number.ensures c.number-2.ensures c.at-sent_before.ensures c.at-received_before.ensures)
    (halves_said from.after to.after c.after-is_from.result.now c.after-is_to.result.now c.args.proto c.after-is_from.ensures c.after-is_to.ensures
    c.at-sent.result.now c.at-received.result.now c.number-3.result c.number-4.result c.number-3.ensures c.number-4.ensures c.at-sent.ensures c.at-received.ensures))
    c.changed_ranges.ensures
