use Rattle.std.proofs.Common.{drop}
use Rattle.pol_rule.specs.Listed.{section_peers}
use Rattle.pol_peers.specs.Numbering.{LosesRefs}
use Rattle.pol_peers.proofs.Counts.{Left}
use Rattle.pol_peers.proofs.drop.drop_section.Given as goal

abbrev pub invariant-loop-entry : goal.invariant-loop-entry
invariant-loop-entry l = record {
  left : Left (section_peers l.entries) (section_peers (drop l.entry-index l.entries)) l.initial.cache.live l.cache.live;
  loses : LosesRefs l.initial.cache l.cache;
}
