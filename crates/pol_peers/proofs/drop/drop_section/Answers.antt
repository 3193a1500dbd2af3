use Rattle.std.proofs.Common.{refl, sym, arith}
use Rattle.pol_rule.specs.Listed.{peers_in, section_peers}
use Rattle.pol_peers.proofs.Refs.{refs_lost_further}
use Rattle.pol_peers.proofs.Walks.{all_given, next_given, next_has}
use Rattle.pol_peers.proofs.drop.drop_section.Goals as goal

pub drop_entry-requires : goal.drop_entry-requires
drop_entry-requires c = record {
  held = next_has c.args.entries.now section_peers (λ entry. peers_in entry.peers) (λ x xs. refl) c.loop-entry.entry-index c.args.cache.now.live c.loop-entry.cache.live
      c.entry-item.result (omega arith) (sym c.entry-item.is) c.requires.held c.loop-entry.invariant.left;
}

pub loop-entry-preserved : goal.loop-entry-preserved
loop-entry-preserved c = record {
  left = next_given c.args.entries.now section_peers (λ entry. peers_in entry.peers) (λ x xs. refl) c.loop-entry.entry-index c.args.cache.now.live c.loop-entry.cache.live
      c.entry-item.result (omega arith) (sym c.entry-item.is) c.drop_entry.new.cache.live c.loop-entry.invariant.left c.drop_entry.ensures.dropped;
  loses = refs_lost_further c.args.cache.now c.loop-entry.cache c.drop_entry.new.cache c.loop-entry.invariant.loses c.drop_entry.ensures.loses;
}

pub returns-clause-dropped : goal.returns-clause-dropped
returns-clause-dropped c =
    all_given c.args.entries.now section_peers (λ entry. peers_in entry.peers) (λ x xs. refl) c.loop-entry.entry-index c.args.cache.now.live c.loop-entry.cache.live refl (omega arith) c.loop-entry.invariant.left
