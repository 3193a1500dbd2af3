use Rattle.std.proofs.Common.{Some}
use Rattle.slab.specs.Slab.{get}
use Rattle.pol_prefix_table.proofs.Edits.{HasRoot-kept, still_twice}
use Rattle.pol_prefix_table.proofs.Maps.{numbers_after}
use Rattle.pol_prefix_table.proofs.put.put.Goals as goal

pub returns-clause-rooted : goal.returns-clause-rooted
returns-clause-rooted g c = HasRoot-kept g.B.Bits.family (get c.make_root.new.self) (get c.put_below.new.trie) c.make_root.ensures.rooted (λ n is. c.put_below.ensures.kept 0 n is)

pub returns-clause-numbers : goal.returns-clause-numbers
returns-clause-numbers g c = numbers_after c.args.trie.now c.make_root.new.self c.put_below.new.trie c.args.prefix (Some c.args.number) c.make_root.ensures.numbers c.put_below.ensures.numbers

pub returns-clause-kept : goal.returns-clause-kept
returns-clause-kept g c = still_twice c.args.trie.now c.make_root.new.self c.put_below.new.trie c.make_root.ensures.kept c.put_below.ensures.kept
