use Rattle.std.proofs.Common.{◌≡◌, ◌++◌, drop, map}
use Rattle.pol_netpol.specs.Translated.{label_requirement}
use Rattle.pol_netpol.proofs.selectors.push_labels.Given as goal

abbrev pub invariant-loop-pair : goal.invariant-loop-pair
invariant-loop-pair l = record {
  asked : l.asked.items ++ map (label_requirement l.front) (drop l.pair-index l.labels) ≡ l.initial.asked.items ++ map (label_requirement l.front) l.labels;
}
