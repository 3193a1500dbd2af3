use Rattle.std.proofs.Common.{refl, ◌∙◌}
use Rattle.std.proofs.lemmas.Result.{IfOk-weaker}
use Rattle.pol_connection_maps.proofs.Saying.{alone_ranges, halves_said}
use Rattle.pol_connection_maps.proofs.open.EndMapTells.ranges_to.Goals as goal

pub returns : goal.returns
returns c =
    let from = c.args.self.now in
    let to = c.args.to.now in
    let sent = c.at-sent.result.now in
    let received = c.at-received.result.now in
    IfOk-weaker c.open_ranges.result _ _ (λ made told. told ∙ alone_ranges from to c.args.proto sent received
    (halves_said from to from to c.args.proto refl refl sent received c.number.result c.number-2.result c.number.ensures c.number-2.ensures c.at-sent.ensures c.at-received.ensures))
    c.open_ranges.ensures
