use Rattle.pol_prefix_table.proofs.Maps.{IsTrie-room}
use Rattle.pol_prefix_table.proofs.family_trie.FamilyTrie.reserve.Goals as goal

pub invariant_of-self : goal.invariant_of-self
invariant_of-self g c = IsTrie-room c.self.inside.nodes c.reserve.new.self c.reserve.ensures.rest_kept c.self.invariant
