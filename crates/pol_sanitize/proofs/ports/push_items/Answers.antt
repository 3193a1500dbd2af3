use Rattle.std.proofs.Common.{arith}
use Rattle.std.proofs.lemmas.Grind.{common_steps}
use Rattle.std.proofs.lemmas.List.Elements.{filter_map-append}
use Rattle.std.proofs.lemmas.List.Folds.{list_any-append}
use Rattle.pol_sanitize.proofs.ports.push_items.Goals as goal

pub loop-item-preserved : goal.loop-item-preserved
loop-item-preserved c = record {
  specs = grind (arith, common_steps, filter_map-append);
  bad = grind (arith, common_steps, list_any-append);
  unknown = grind (arith, common_steps, list_any-append);
}
