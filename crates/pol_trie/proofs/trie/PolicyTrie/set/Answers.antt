use Rattle.std.proofs.Common.{◌≡◌, ℕ, ◌+◌, true, false, cond, Option, Some, None, is_some, is_none, refl, sym, ap, ◌∙◌}
use Rattle.std.specs.FinMap as map
use Rattle.pol_mapkey.specs.declared.Kind.{Kind}
use Rattle.pol_mapkey.proofs.KeyOrder.{key_cmp_total}
use Rattle.pol_trie.specs.Roots.{policy_of}
use Rattle.pol_trie.proofs.trie.PolicyTrie.set.Goals as goal

longer : (o : Option Kind) (n : ℕ) → true ≡ is_none o → cond (is_some o) n (n + 1) ≡ n + 1
longer None n e = refl
longer (Some k) n e = cc

as_long : (o : Option Kind) (n : ℕ) → false ≡ is_none o → cond (is_some o) n (n + 1) ≡ n
as_long None n e = cc
as_long (Some k) n e = refl

pub invariant_of-self-then-fresh : goal.invariant_of-self-then-fresh
invariant_of-self-then-fresh c =
    let m = policy_of c.self.inside.roots.entries in
    let k = c.args.key in
    let more = longer (map.get m k) (map.len m) (sym c.if-fresh.true ∙ c.in_ok-fresh.ensures.fresh) in
    (c.put_row.ensures.unique, ap (λ n. n + 1) c.self.invariant.1 ∙ sym (ap map.len c.in_ok-fresh.ensures.ok ∙ map.len-insert key_cmp_total m k c.args.kind ∙ more), c.put_row.ensures.zeros)

pub invariant_of-self-else-fresh : goal.invariant_of-self-else-fresh
invariant_of-self-else-fresh c =
    let m = policy_of c.self.inside.roots.entries in
    let k = c.args.key in
    let same = as_long (map.get m k) (map.len m) (sym c.if-fresh.false ∙ c.in_ok-fresh.ensures.fresh) in
    (c.put_row.ensures.unique, c.self.invariant.1 ∙ sym (ap map.len c.in_ok-fresh.ensures.ok ∙ map.len-insert key_cmp_total m k c.args.kind ∙ same), c.put_row.ensures.zeros)
