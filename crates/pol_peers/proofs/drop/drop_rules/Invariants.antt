use Rattle.std.proofs.Common.{drop}
use Rattle.std.specs.List.{flat_map}
use Rattle.pol_rule.specs.Listed.{rule_peers}
use Rattle.pol_peers.specs.Numbering.{LosesRefs}
use Rattle.pol_peers.proofs.Counts.{Left}
use Rattle.pol_peers.proofs.drop.drop_rules.Given as goal

abbrev pub invariant-loop-rule : goal.invariant-loop-rule
invariant-loop-rule l = record {
  left : Left (flat_map rule_peers l.rules) (flat_map rule_peers (drop l.rule-index l.rules)) l.initial.cache.live l.cache.live;
  loses : LosesRefs l.initial.cache l.cache;
}
