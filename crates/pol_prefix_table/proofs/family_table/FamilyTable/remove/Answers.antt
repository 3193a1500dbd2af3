use Rattle.std.proofs.Common.{None, sym, ap, subst, ◌∙◌}
use Rattle.std.specs.FinMap as map
use Rattle.pol_prefix_table.specs.Starts.{AreStarts}
use Rattle.pol_addr.proofs.Containment.{covers-family}
use Rattle.pol_prefix_table.proofs.Maps.{get-map_of, map_of-remove}
use Rattle.pol_prefix_table.proofs.StartLists.{starts_outside}
use Rattle.pol_prefix_table.proofs.family_table.FamilyTable.remove.Goals as goal

pub invariant_of-self : goal.invariant_of-self
invariant_of-self g c = (subst (λ s. AreStarts g.B.Bits.family s c.self.inside.starts.items) (sym c.in_err-number.ensures.none) c.self.invariant.0, c.take.ensures.tight)

pub renew-requires-clause-family : goal.renew-requires-clause-family
renew-requires-clause-family g c = sym (covers-family _ c.args.prefix c.in_ok-number.ensures.over) ∙ c.requires

pub renew-requires-clause-outside : goal.renew-requires-clause-outside
renew-requires-clause-outside g c =
    let trie = c.fits_together.ensures.trie in
    let trie' = c.fits_together-2.ensures.trie in
    starts_outside g.B.Bits.family c.self.inside.trie c.take.new.trie trie.tree trie'.tree _ c.args.prefix None c.in_ok-number.ensures.over c.in_ok-number.ensures.kept c.take.ensures.numbers c.self.inside.starts.items c.self.invariant.0

pub returns-in_err-number-clause-value : goal.returns-in_err-number-clause-value
returns-in_err-number-clause-value g c =
    c.from_residual.ensures ∙ c.in_err-number.ensures.value ∙ sym (get-map_of c.self.inside.trie c.args.prefix) ∙ ap (λ m. map.get m c.args.prefix) c.self.view_is

pub returns-in_err-number-clause-rest : goal.returns-in_err-number-clause-rest
returns-in_err-number-clause-rest g c =
    map_of-remove c.self.inside.trie c.take.new.trie c.args.prefix c.take.ensures.numbers ∙ ap (λ m. map.remove m c.args.prefix) c.self.view_is

pub returns-clause-value : goal.returns-clause-value
returns-clause-value g c = c.in_ok-number.ensures.value ∙ sym (get-map_of c.self.inside.trie c.args.prefix) ∙ ap (λ m. map.get m c.args.prefix) c.self.view_is

pub returns-clause-rest : goal.returns-clause-rest
returns-clause-rest g c =
    map_of-remove c.self.inside.trie c.take.new.trie c.args.prefix c.take.ensures.numbers ∙ ap (λ m. map.remove m c.args.prefix) c.self.view_is
