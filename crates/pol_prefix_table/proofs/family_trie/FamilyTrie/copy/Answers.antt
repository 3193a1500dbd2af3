use Rattle.pol_prefix_table.proofs.Maps.{IsTrie-room}
use Rattle.pol_prefix_table.proofs.family_trie.FamilyTrie.copy.Goals as goal

pub invariant_of-result : goal.invariant_of-result
invariant_of-result g c = IsTrie-room c.self.inside.nodes c.in_ok-copy.field-0 c.in_ok-copy.ensures c.self.invariant
