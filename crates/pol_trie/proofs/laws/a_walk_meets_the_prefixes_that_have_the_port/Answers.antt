use Rattle.std.proofs.Common.{None}
use Rattle.pol_trie.proofs.Walking.{visits_within}
use Rattle.pol_trie.proofs.Meeting.{meets, ascends, gives_last}
use Rattle.pol_trie.proofs.laws.a_walk_meets_the_prefixes_that_have_the_port.Goals as goal

pub returns : goal.returns
returns c = record { exactly = meets; longest_last = ascends; last = λ t port. gives_last t port None; visits = visits_within }
