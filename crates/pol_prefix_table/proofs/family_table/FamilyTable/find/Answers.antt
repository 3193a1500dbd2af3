use Rattle.std.proofs.Common.{subst, sym, IfSome, IsNone, ◌↔◌}
use Rattle.pol_prefix_table.specs.Starts.{AreStarts}
use Rattle.pol_prefix_table.specs.Table.{IsLongestMatch, NoneMatches}
use Rattle.pol_prefix_table.proofs.Maps.{found_by, none_by}
use Rattle.pol_prefix_table.proofs.family_table.FamilyTable.find.Goals as goal

pub longest_over-requires : goal.longest_over-requires
longest_over-requires g c = record { starts = subst (AreStarts g.B.Bits.family c.self.inside.trie) (sym c.as_slice.ensures.value) c.self.invariant.0 }

pub returns-clause-found : goal.returns-clause-found
returns-clause-found g c =
    let nodes = c.self.inside.trie in
    subst (λ m. IfSome c.longest_over.result (IsLongestMatch m (g.B.Bits.seen c.args.bits))) c.self.view_is (found_by nodes c.fits_together.ensures.trie.tree (g.B.Bits.seen c.args.bits) c.longest_over.result c.longest_over.ensures.found)

pub returns-clause-none : goal.returns-clause-none
returns-clause-none g c =
    let nodes = c.self.inside.trie in
    subst (λ m. IsNone c.longest_over.result ↔ NoneMatches m (g.B.Bits.seen c.args.bits)) c.self.view_is (none_by nodes c.fits_together.ensures.trie.tree (g.B.Bits.seen c.args.bits) c.longest_over.result c.longest_over.ensures.found c.longest_over.ensures.none)
