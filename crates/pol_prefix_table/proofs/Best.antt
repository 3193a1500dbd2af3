-- The longest number on the way down.
use Rattle.std.proofs.Common.{◌≡◌, ℕ, ◌<◌, ◌≤◌, true, Option, Some, None, IsSome, MatchOption, refl, sym, ap, subst, ◌∙◌, inl, inr, arith}
use Rattle.std.proofs.lemmas.Bool.{cases_lt}
use Rattle.std.proofs.lemmas.Option.{same_Some}
use Rattle.std.specs.Option.{option_or}
use Rattle.slab.specs.Slab.{Slab, get}
use Rattle.pol_addr.specs.declared.network.Prefix.{Prefix}
use Rattle.pol_addr.specs.declared.family.Family.{Family}
use Rattle.pol_addr.specs.Prefix.{covers, world}
use Rattle.pol_addr.proofs.Containment.{same_from_covered}
use Rattle.pol_prefix_table.specs.declared.node.PrefixNode.{PrefixNode}
use Rattle.pol_prefix_table.specs.Trie.{IsTree, StandsOver, NoneBetween, IsNumberUpTo, NoNumberUpTo, IsBest, len_at}
use Rattle.pol_prefix_table.proofs.Steps.{len_at-node}

pub some_none : (o : Option ℕ) → IsSome o → o ≡ None → ⊥
some_none o some none = absurd (cc)

module _ (s : Slab PrefixNode) (t : IsTree (get s)) (target : Prefix) where
  -- two nodes of one length that cover the target are one
  alone : (i j : ℕ) (n m : PrefixNode) → get s i ≡ Some n → get s j ≡ Some m → covers n.prefix target ≡ true → covers m.prefix target ≡ true → m.prefix.len ≡ n.prefix.len → m ≡ n
  alone i j n m is is_m over over_m same =
      let key : j ≡ i = t.apart j i m n is_m is (same_from_covered m.prefix n.prefix target over_m over same) in
      same_Some m n (sym is_m ∙ ap (get s) key ∙ is)

  -- the first node's number, if it has one, and else the best of those above it
  best_from : (most : ℕ) (k : ℕ) (c : PrefixNode) (best : Option ℕ) → get s k ≡ Some c → covers c.prefix target ≡ true → ((j : ℕ) (m : PrefixNode) → get s j ≡ Some m → covers m.prefix target ≡ true → m.prefix.len < c.prefix.len → m.prefix.len ≤ most) → most < c.prefix.len → MatchOption best (NoNumberUpTo s target most) (IsNumberUpTo s target most) → (o : Option ℕ) → c.number ≡ o → MatchOption (option_or o best) (NoNumberUpTo s target c.prefix.len) (IsNumberUpTo s target c.prefix.len)
  best_from most k c best is over above shorter before (Some x) numbered = record {
    key = k;
    node = c;
    there = is;
    over = over;
    short = omega arith;
    numbered = numbered;
    longest = λ j m is_m over_m short _. short;
  }
  best_from most k c None is over above shorter before None numbered = λ j m is_m over_m short.
      elim (cases_lt m.prefix.len c.prefix.len) [
        | inl less ↦ before j m is_m over_m (above j m is_m over_m less)
        | inr more ↦ ap (λ x. x.number) (alone k j c m is is_m over over_m (omega arith)) ∙ numbered
      ]
  best_from most k c (Some x) is over above shorter before None numbered = record {
    key = before.key;
    node = before.node;
    there = before.there;
    over = before.over;
    short = let h = before.short in omega arith;
    numbered = before.numbered;
    longest = λ j m is_m over_m short some.
        elim (cases_lt m.prefix.len c.prefix.len) [
          | inl less ↦ before.longest j m is_m over_m (above j m is_m over_m less) some
          | inr more ↦ absurd (some_none m.number some (ap (λ x. x.number) (alone k j c m is is_m over over_m (omega arith)) ∙ numbered))
        ];
  }

  pub best_step : (limit i k : ℕ) (c : PrefixNode) (best : Option ℕ) → get s k ≡ Some c → StandsOver s target limit k → NoneBetween s target i k → len_at s i < len_at s k → IsBest s target i best → IsBest s target k (option_or c.number best)
  best_step limit i k c best is h between deeper before =
      let same : h.node ≡ c = same_Some h.node c (sym h.there ∙ is) in
      let over : covers c.prefix target ≡ true = ap (λ x. covers x.prefix target) (sym same) ∙ h.over in
      let len_k = len_at-node s k c is in
      let at_most : (j : ℕ) (m : PrefixNode) → get s j ≡ Some m → covers m.prefix target ≡ true → m.prefix.len < c.prefix.len → m.prefix.len ≤ len_at s i = λ j m is_m over_m less.
      elim (cases_lt (len_at s i) m.prefix.len) [
        | inl longer ↦ absurd (omega (arith, between j m is_m over_m longer, len_k, less))
        | inr fine ↦ fine
      ] in
      subst (λ most. MatchOption (option_or c.number best) (NoNumberUpTo s target most) (IsNumberUpTo s target most)) (sym len_k)
      (best_from (len_at s i) k c best is over at_most (omega (arith, len_k, deeper)) before c.number refl)

  first : (root : PrefixNode) → get s 0 ≡ Some root → covers root.prefix target ≡ true → root.prefix.len ≡ 0 → (o : Option ℕ) → root.number ≡ o → MatchOption o (NoNumberUpTo s target root.prefix.len) (IsNumberUpTo s target root.prefix.len)
  first root is over zero (Some x) numbered = record {
    key = 0;
    node = root;
    there = is;
    over = over;
    short = omega arith;
    numbered = numbered;
    longest = λ j m is_m over_m short _. short;
  }
  first root is over zero None numbered = λ j m is_m over_m short.
      ap (λ x. x.number) (alone 0 j root m is is_m over over_m (omega arith)) ∙ numbered

  pub best_start : (family : Family) (limit : ℕ) (root : PrefixNode) → get s 0 ≡ Some root → StandsOver s target limit 0 → root.prefix ≡ world family → IsBest s target 0 root.number
  best_start family limit root is h prefix_is =
      let same : h.node ≡ root = same_Some h.node root (sym h.there ∙ is) in
      let over : covers root.prefix target ≡ true = ap (λ x. covers x.prefix target) (sym same) ∙ h.over in
      subst (λ most. MatchOption root.number (NoNumberUpTo s target most) (IsNumberUpTo s target most)) (sym (len_at-node s 0 root is))
      (first root is over (ap (λ p. p.len) prefix_is) root.number refl)
