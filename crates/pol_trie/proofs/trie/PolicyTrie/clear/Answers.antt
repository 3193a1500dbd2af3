use Rattle.std.proofs.Common.{◌≡◌, ℕ, ◌-◌, ◌≤◌, Bool, true, false, cond, is_some, refl, sym, ap, ◌∙◌, inl, inr, arith}
use Rattle.std.specs.FinMap as map
use Rattle.std.proofs.lemmas.Bool.{cases_lt, both_ways}
use Rattle.pol_mapkey.specs.declared.MapKey.{MapKey}
use Rattle.pol_mapkey.specs.MapKey.{key_cmp}
use Rattle.pol_mapkey.proofs.KeyOrder.{key_cmp_total}
use Rattle.pol_trie.specs.PolicyMap.{PolicyMap}
use Rattle.pol_trie.specs.Roots.{policy_of}
use Rattle.pol_trie.proofs.trie.PolicyTrie.clear.Goals as goal

picked : (b : Bool) (x y : ℕ) → b ≡ true → cond b x y ≡ x
picked true x y e = refl
picked false x y e = cc

left : (b : Bool) (x y : ℕ) → b ≡ false → cond b x y ≡ y
left true x y e = cc
left false x y e = refl

-- a map that has a key is not empty
some_there : (m : PolicyMap) (k : MapKey) → map.contains_key m k ≡ true → 1 ≤ map.len m
some_there m k there =
    elim (cases_lt 0 (map.len m)) [
      | inl l ↦ omega arith
      | inr none ↦
          let empty = map.empty_of_len m (omega arith) in
          absurd (both_ways _ (ap (λ x. map.contains_key x k) empty ∙ ap is_some (map.get-empty key_cmp k)) there)
    ]

pub overflow_sub-self : goal.overflow_sub-self
overflow_sub-self c =
    let m = policy_of c.self.inside.roots.entries in
    omega (arith, c.self.invariant.1, some_there m c.args.key.now (sym c.clear_row-there.ensures.there ∙ c.if-there.true))

pub invariant_of-self : goal.invariant_of-self
invariant_of-self c =
    let m = policy_of c.self.inside.roots.entries in
    let k = c.args.key.now in
    let less = picked (map.contains_key m k) (map.len m - 1) (map.len m) (sym c.clear_row-there.ensures.there ∙ c.if-there.true) in
    (c.clear_row-there.ensures.unique, ap (λ n. n - 1) c.self.invariant.1 ∙ sym (ap map.len c.clear_row-there.ensures.rest ∙ map.len-remove key_cmp_total m k ∙ less), c.clear_row-there.ensures.zeros)

pub invariant_of-self-else-there : goal.invariant_of-self-else-there
invariant_of-self-else-there c =
    let m = policy_of c.self.inside.roots.entries in
    let k = c.args.key.now in
    let same = left (map.contains_key m k) (map.len m - 1) (map.len m) (sym c.clear_row-there.ensures.there ∙ c.if-there.false) in
    (c.clear_row-there.ensures.unique, c.self.invariant.1 ∙ sym (ap map.len c.clear_row-there.ensures.rest ∙ map.len-remove key_cmp_total m k ∙ same), c.clear_row-there.ensures.zeros)
