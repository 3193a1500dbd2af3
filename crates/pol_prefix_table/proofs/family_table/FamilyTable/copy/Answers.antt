use Rattle.std.proofs.Common.{sym, ap, subst, ◌∙◌}
use Rattle.pol_prefix_table.specs.Starts.{AreStarts}
use Rattle.pol_prefix_table.specs.Trie.{map_of}
use Rattle.pol_prefix_table.proofs.Maps.{IsTrie-room, tight_room}
use Rattle.pol_prefix_table.proofs.StartLists.{starts_room}
use Rattle.pol_prefix_table.proofs.family_table.FamilyTable.copy.Goals as goal

pub invariant_of-result : goal.invariant_of-result
invariant_of-result g c =
    let nodes = c.self.inside.trie in
    let copy = c.in_ok-copy.field-0 in
    let same = c.in_ok-copy.ensures.copy in
    let trie = IsTrie-room nodes copy same c.copy.ensures.trie in
    (subst (AreStarts g.B.Bits.family copy) (sym (c.in_ok-copied.ensures ∙ c.as_slice.ensures.value)) (starts_room nodes copy same c.copy.ensures.trie trie c.self.inside.starts.items c.self.invariant.0), tight_room nodes copy same c.self.invariant.1)

pub returns : goal.returns
returns g c = ap map_of c.in_ok-copy.ensures.copy ∙ c.self.view_is
