use Rattle.std.proofs.Common.{ap, ◌∙◌}
use Rattle.std.specs.FinMap as map
use Rattle.pol_mapkey.specs.Entries.{longest, read_map}
use Rattle.pol_trie.specs.Roots.{policy_of}
use Rattle.pol_trie.proofs.trie.PolicyTrie.look.Goals as goal

pub returns-clause-word : goal.returns-clause-word
unfolding read_map
returns-clause-word g c =
    let m = policy_of c.self.inside.roots.entries in
    let a = c.args in
    c.«of».ensures.entries (longest (map.entries m) a.dir a.id a.proto a.port) (longest (map.entries m) a.dir 0 a.proto a.port)
    c.longest-own.ensures.kind c.longest_of_zero-every.ensures.kind
    ∙ ap (λ x. read_map (map.entries x) a.dir a.id a.proto a.port) c.self.view_is
