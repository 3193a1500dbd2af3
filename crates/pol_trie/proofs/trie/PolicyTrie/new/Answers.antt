use Rattle.std.proofs.Common.{sym, ap, ◌∙◌}
use Rattle.std.specs.FinMap as map
use Rattle.pol_mapkey.specs.declared.Kind.{Kind}
use Rattle.pol_mapkey.specs.MapKey.{key_cmp}
use Rattle.pol_trie.proofs.RootCalls.{policy_of-none}
use Rattle.pol_trie.proofs.trie.PolicyTrie.new.Goals as goal

pub invariant_of-result : goal.invariant_of-result
invariant_of-result c = (c.new-roots.ensures.unique, sym (ap map.len (policy_of-none c.new-roots.result.entries c.new-roots.ensures.empty) ∙ map.len-empty key_cmp Kind), c.of-zeros.ensures)

pub returns : goal.returns
returns c = policy_of-none c.new-roots.result.entries c.new-roots.ensures.empty
