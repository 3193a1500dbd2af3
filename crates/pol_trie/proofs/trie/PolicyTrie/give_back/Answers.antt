use Rattle.std.proofs.Common.{is_some, sym, ap, ◌∙◌}
use Rattle.std.specs.FinMap as map
use Rattle.pol_trie.proofs.RootCalls.{policy_of-same}
use Rattle.pol_trie.proofs.trie.PolicyTrie.give_back.Goals as goal

pub invariant_of-self : goal.invariant_of-self
invariant_of-self c =
    let r = c.give_back_row.ensures in
    let same = policy_of-same c.self.inside.roots.entries c.give_back_row.new.roots.entries c.self.invariant.0 r.unique r.same in
    (r.unique, c.self.invariant.1 ∙ sym (ap map.len same), λ dir. c.self.invariant.2 dir ∙ sym (ap is_some (r.same _)))

pub returns : goal.returns
returns c =
    let r = c.give_back_row.ensures in
    policy_of-same c.self.inside.roots.entries c.give_back_row.new.roots.entries c.self.invariant.0 r.unique r.same ∙ c.self.view_is
