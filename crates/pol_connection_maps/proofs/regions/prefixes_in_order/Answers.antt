use Rattle.std.proofs.Common.{ap, sym, ◌∙◌, drop}
use Rattle.std.proofs.Math.Seq.{drop-length}
use Rattle.pol_connections.specs.Regions.{prefixes_in_order}
use Rattle.pol_connection_maps.proofs.Turns.{no_region, region_more, split_before}
use Rattle.pol_connection_maps.proofs.regions.prefixes_in_order.Goals as goal

pub loop-i-init : goal.loop-i-init
loop-i-init c = no_region c.new-ordered.result.keys c.new-ordered.ensures.empty ∙ ap prefixes_in_order (sym (drop-length c.args.prefixes.now))

pub loop-i-preserved : goal.loop-i-preserved
loop-i-preserved c =
    let all = c.args.prefixes.now in
    let i = c.loop-i.i in
    let prefix = c.index-prefixes-i.result in
    region_more prefix (drop i all) c.loop-i.ordered.keys c.insert.new.self.keys c.loop-i.invariant c.in_ok-insert.ensures.keys
    ∙ ap prefixes_in_order (sym (split_before all i prefix c.loop-i-test.true c.loop-i.auto.i c.index-prefixes-i.is))
