use Rattle.std.proofs.Common.{◌≡◌, ℕ, false, not, Option, Some, None, is_some, length, refl, sym, ap, ◌∙◌, arith}
use Rattle.std.specs.FinMap as map
use Rattle.pol_trie.specs.Tree.{listed}
use Rattle.pol_trie.specs.Standing.{ports_of}
use Rattle.pol_trie.proofs.Counting.{len-ports, some_listed}
use Rattle.pol_trie.proofs.Listing.{ports_of-none}
use Rattle.pol_trie.proofs.ports.PortTrie.is_empty.Goals as goal

none_of : (o : Option ℕ) → is_some o ≡ false → o ≡ None
none_of None e = refl
none_of (Some k) e = absurd (cc)

pub returns-clause-empty : goal.returns-clause-empty
returns-clause-empty c = λ t.
    sym c.self.view_is ∙ ap (ports_of c.self.inside.nodes) (none_of c.self.inside.root (c.is_none.ensures ∙ ap not t)) ∙ ports_of-none c.self.inside.nodes

pub returns-clause-some : goal.returns-clause-some
returns-clause-some c = λ f.
    let w = c.self.invariant in
    let len : map.len c.args.self.now ≡ length (listed w.tree) = sym (ap map.len c.self.view_is) ∙ len-ports c.self.inside.nodes c.self.inside.root w in
    omega (arith, len, some_listed _ c.self.inside.root w.tree w.holds.stands (c.is_none.ensures ∙ ap not f) w.holds.tight)
