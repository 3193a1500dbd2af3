use Rattle.std.proofs.Common.{◌<◌, length, arith}
use Rattle.pol_addr.proofs.Equality.{prefix_eq-Decides}
use Rattle.pol_rule.proofs.Distinct.{kept_next, kept_none}
use Rattle.pol_rule.proofs.holding.distinct.Goals as goal

pub loop-prefix-init : goal.loop-prefix-init
loop-prefix-init c = kept_none _ _ c.new-kept.ensures.empty

pub loop-prefix-preserved : goal.loop-prefix-preserved
loop-prefix-preserved c =
    let i = c.loop-prefix.prefix-index in
    let within : i < length c.args.prefixes.now = omega arith in
    kept_next _ prefix_eq-Decides c.loop-prefix.kept.keys _ c.args.prefixes.now i c.prefix-item.result within c.prefix-item.is c.in_ok-insert.ensures.keys c.loop-prefix.invariant
