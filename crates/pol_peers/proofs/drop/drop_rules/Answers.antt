use Rattle.std.proofs.Common.{refl, sym, arith}
use Rattle.std.specs.List.{flat_map}
use Rattle.pol_rule.specs.Listed.{rule_peers}
use Rattle.pol_peers.proofs.Refs.{refs_lost_further}
use Rattle.pol_peers.proofs.Walks.{all_given, next_given, next_has}
use Rattle.pol_peers.proofs.drop.drop_rules.Goals as goal

pub drop_rule-requires : goal.drop_rule-requires
drop_rule-requires c = record {
  held = next_has c.args.rules.now (flat_map rule_peers) rule_peers (λ x xs. refl) c.loop-rule.rule-index c.args.cache.now.live c.loop-rule.cache.live
      c.rule-item.result (omega arith) (sym c.rule-item.is) c.requires.held c.loop-rule.invariant.left;
}

pub loop-rule-preserved : goal.loop-rule-preserved
loop-rule-preserved c = record {
  left = next_given c.args.rules.now (flat_map rule_peers) rule_peers (λ x xs. refl) c.loop-rule.rule-index c.args.cache.now.live c.loop-rule.cache.live
      c.rule-item.result (omega arith) (sym c.rule-item.is) c.drop_rule.new.cache.live c.loop-rule.invariant.left c.drop_rule.ensures.dropped;
  loses = refs_lost_further c.args.cache.now c.loop-rule.cache c.drop_rule.new.cache c.loop-rule.invariant.loses c.drop_rule.ensures.loses;
}

pub returns-clause-dropped : goal.returns-clause-dropped
returns-clause-dropped c =
    all_given c.args.rules.now (flat_map rule_peers) rule_peers (λ x xs. refl) c.loop-rule.rule-index c.args.cache.now.live c.loop-rule.cache.live refl (omega arith) c.loop-rule.invariant.left
