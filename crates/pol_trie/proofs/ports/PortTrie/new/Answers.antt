use Rattle.std.proofs.Common.{refl, ap}
use Rattle.pol_arena.specs.Pool.{nodes_in_use}
use Rattle.pol_trie.specs.Tree.{Leaf}
use Rattle.pol_trie.proofs.Listing.{ports_of-none}
use Rattle.pol_trie.proofs.ports.PortTrie.new.Goals as goal

pub returns : goal.returns
returns c = ports_of-none c.new.result

pub invariant_of-result : goal.invariant_of-result
invariant_of-result c = record { tree = Leaf; holds = record { stands = refl; fits = tt; tight = tt }; count = ap nodes_in_use c.new.ensures.pool }
