-- Where a new prefix belongs.
use Rattle.std.proofs.Common.{◌≡◌, ◌≢◌, ℕ, ◌+◌, ◌<◌, ◌≤◌, subst, Bool, true, false, cond, IsSome, Option, Some, None, refl, sym, ap, ◌∙◌, inl, inr, arith}
use Rattle.std.proofs.lemmas.Option.{none-some, same_Some}
use Rattle.std.proofs.lemmas.Bool.{cases_eq}
use Rattle.slab.specs.Slab.{Slab, get, Updates}
use Rattle.pol_addr.specs.declared.network.Prefix.{Prefix}
use Rattle.pol_addr.specs.Cidr.{IsPrefix}
use Rattle.pol_addr.specs.declared.family.Family.{Family}
use Rattle.pol_addr.specs.Address.{family_of}
use Rattle.pol_addr.specs.Prefix.{world, bit_of, half, covers}
use Rattle.pol_addr.proofs.ByFamily.{family_of-addr_in}
use Rattle.pol_addr.proofs.World.{world-IsPrefix, strictly}
use Rattle.pol_addr.proofs.Containment.{covers_refl, covers_half, covers_from_covered, same_from_covered}
use Rattle.pol_prefix_table.specs.declared.node.PrefixNode.{PrefixNode}
use Rattle.std.specs.Ordering.{eq_by_cmp}
use Rattle.pol_addr.specs.Order.{prefix_cmp}
use Rattle.pol_prefix_table.specs.Trie.{child, with_child, IsTree, IsTrie, IsDeepest, IsSpot, FitsBelow, Numbers, SameNumbers, number_of}
use Rattle.pol_addr.proofs.Halves.{covers_len, half_no_cover, half_moved}
use Rattle.pol_addr.proofs.Order.{cases_same, tied_same, not_tied}
use Rattle.pol_prefix_table.proofs.Numbers.{same_number}
use Rattle.pol_prefix_table.specs.Links.{key_of}
use Rattle.pol_prefix_table.specs.Sizes.{sum_of, one, count, links, IsTightBut}
use Rattle.pol_prefix_table.proofs.Balance.{leaf_of, key_of-next, count_none}
use Rattle.pol_prefix_table.proofs.Sums.{sum_none, sum_updated}
use Rattle.pol_prefix_table.proofs.Edits.{link_longer}

pub none_from_test : (o : Option PrefixNode) → (IsSome o → ⊥) → o ≡ None
none_from_test None not = refl
none_from_test (Some n) not = absurd (not refl)

pub spot_at : (s : Slab PrefixNode) (p : Prefix) (i : ℕ) (n : PrefixNode) (b : Bool) (len : ℕ) → IsPrefix p → IsDeepest s p p.len i → get s i ≡ Some n → len ≡ n.prefix.len → b ≡ bit_of p len → IsSpot s p i b
spot_at s p i n b len valid d is len_is bit =
    let h = d.stands in
    let same : h.node ≡ n = same_Some h.node n (sym h.there ∙ is) in
    let over : covers n.prefix p ≡ true = ap (λ x. covers x.prefix p) (sym same) ∙ h.over in
    let short : n.prefix.len < p.len = omega (arith, ap (λ x. x.prefix.len) same, h.short) in
    record {
      parent = n;
      there = is;
      valid = valid;
      under = half_moved n.prefix n.prefix p p (bit_of p n.prefix.len) b refl (bit ∙ ap (bit_of p) len_is) refl (covers_half n.prefix p valid over short);
      deepest = λ j m is_m over_m short_m. omega (arith, d.deepest j m is_m over_m short_m, ap (λ x. x.prefix.len) same);
    }

-- ---- the first node
module _ (family : Family) (old new : Slab PrefixNode) (key : ℕ) (root : PrefixNode) (none : (i : ℕ) (n : PrefixNode) → get old i ≡ Some n → ⊥) (u : Updates old new key (Some root))
    (prefix_is : root.prefix ≡ world family) (no_number : root.number ≡ None) (no_low : root.low ≡ 0) (no_high : root.high ≡ 0) where
  only_root : (i : ℕ) (n : PrefixNode) → get new i ≡ Some n → (i ≡ key) × (n ≡ root)
  only_root i n is =
      elim (cases_eq i key) [
        | inl same ↦ (same, same_Some n root (sym is ∙ ap (get new) same ∙ u.changed))
        | inr differs ↦ absurd (none i n (sym (u.others i differs) ∙ is))
      ]

  no_child : (d : Bool) → child root d ≡ None
  no_child true = ap key_of no_high
  no_child false = ap key_of no_low

  root_valid : IsPrefix root.prefix
  root_valid = subst IsPrefix (sym prefix_is) (world-IsPrefix family)

  root_tree : IsTree (get new)
  root_tree = record {
    valid = λ i n is. subst (λ x. IsPrefix x.prefix) (sym (only_root i n is).1) root_valid;
    linked = λ i n d k is link. absurd (none-some k (sym (no_child d) ∙ ap (λ x. child x d) (sym (only_root i n is).1) ∙ link));
    reached = λ i j n m d is is_m over.
        absurd (half_no_cover root.prefix d root_valid (half_moved n.prefix root.prefix m.prefix root.prefix d d (sym (ap (λ x. x.prefix) (only_root i n is).1)) refl (sym (ap (λ x. x.prefix) (only_root j m is_m).1)) over));
    apart = λ i j n m is is_m _. (only_root i n is).0 ∙ sym (only_root j m is_m).0;
  }

  none_before : (i : ℕ) → get old i ≡ None
  none_before i = go (get old i) refl
    where
      go : (o : Option PrefixNode) → get old i ≡ o → o ≡ None
      go None is = refl
      go (Some n) is = absurd (none i n is)

  first_sum : (f : PrefixNode → ℕ) → sum_of f new.slots + 0 ≡ 0 + f root
  first_sum f = sum_updated f old new key None (Some root) (none_before key) u ∙ ap (λ x. x + f root) (sum_none f old.slots none_before)

  pub root_trie : key ≡ 0 → IsTrie family new
  root_trie first =
      let there : get new 0 ≡ Some root = ap (get new) (sym first) ∙ u.changed in
      record {
        fresh = λ missing. absurd (none-some root (sym missing ∙ there));
        rooted = λ i n is. (root, there, prefix_is);
        of_family = λ i n is. ap (λ x. family_of x.prefix.addr) (only_root i n is).1 ∙ ap (λ q. family_of q.addr) prefix_is ∙ family_of-addr_in family 0;
        tree = root_tree;
        balanced = λ _. omega (arith, first_sum links, first_sum one, ap (λ x. count (key_of x)) no_low, ap (λ x. count (key_of x)) no_high);
      }

  pub root_tight : IsTightBut (get new) key
  root_tight i n _ other is = absurd (other (only_root i n is).0)

  pub root_numbers : IsTrie family old → SameNumbers old new
  root_numbers t q = same_number old new t.tree root_tree q
      (λ x h. absurd (none h.key h.node h.there))
      (λ x h. absurd (none-some x (sym no_number ∙ ap (λ y. y.number) (sym (only_root h.key h.node h.there).1) ∙ h.number)))

-- ---- a node that fits
links_over : (p : Prefix) (number : Option ℕ) (b : Bool) (k : ℕ) → links (with_child (leaf_of p number) b (Some k)) ≡ 1
links_over p number true k = let one_more : count (key_of (k + 1)) ≡ 1 = ap count (key_of-next k) in omega (arith, one_more)
links_over p number false k = let one_more : count (key_of (k + 1)) ≡ 1 = ap count (key_of-next k) in omega (arith, one_more)

leaf_child : (p : Prefix) (number : Option ℕ) (d : Bool) → child (leaf_of p number) d ≡ None
leaf_child p number true = refl
leaf_child p number false = refl

pub fits_leaf : (s : Slab PrefixNode) (i : ℕ) (high : Bool) (n : PrefixNode) (p : Prefix) (number : Option ℕ) → get s i ≡ Some n → IsPrefix p → covers (half n.prefix high) p ≡ true → ((k : ℕ) → child n high ≡ Some k → ⊥) → FitsBelow s i high (leaf_of p number)
fits_leaf s i high n p number is valid under free = record {
  parent = n;
  there = is;
  valid = valid;
  under = under;
  moved = λ d k link. absurd (none-some k (sym (leaf_child p number d) ∙ link));
  below = λ k m link _. absurd (free k link);
  counted = sym (count_none (child n high) free);
}

-- the only child of a leaf that got one
only_child : (p : Prefix) (number : Option ℕ) (b d : Bool) (k l : ℕ) → child (with_child (leaf_of p number) b (Some k)) d ≡ Some l → (d ≡ b) × (l ≡ k)
only_child p number true true k l link = (refl, sym (same_Some k l (sym (key_of-next k) ∙ link)))
only_child p number true false k l link = absurd (none-some l link)
only_child p number false true k l link = absurd (none-some l link)
only_child p number false false k l link = (refl, sym (same_Some k l (sym (key_of-next k) ∙ link)))

its_child : (p : Prefix) (number : Option ℕ) (b : Bool) (k : ℕ) → child (with_child (leaf_of p number) b (Some k)) b ≡ Some k
its_child p number true k = key_of-next k
its_child p number false k = key_of-next k

pub over_prefix : (p : Prefix) (number : Option ℕ) (b : Bool) (k : Option ℕ) → (with_child (leaf_of p number) b k).prefix ≡ p
over_prefix p number true k = refl
over_prefix p number false k = refl

pub over_number : (p : Prefix) (number : Option ℕ) (b : Bool) (k : Option ℕ) → (with_child (leaf_of p number) b k).number ≡ number
over_number p number true k = refl
over_number p number false k = refl

pub fits_over : (s : Slab PrefixNode) (i : ℕ) (high : Bool) (n : PrefixNode) (p : Prefix) (number : Option ℕ) (b : Bool) (k : ℕ) (m : PrefixNode) → get s i ≡ Some n → IsPrefix p → covers (half n.prefix high) p ≡ true → child n high ≡ Some k → get s k ≡ Some m → covers (half p b) m.prefix ≡ true → FitsBelow s i high (with_child (leaf_of p number) b (Some k))
fits_over s i high n p number b k m is valid under link is_m over =
    let same = over_prefix p number b (Some k) in
    record {
      parent = n;
      there = is;
      valid = subst IsPrefix (sym same) valid;
      under = ap (covers (half n.prefix high)) same ∙ under;
      moved = λ d l link'.
          let (side, key) = only_child p number b d k l link' in
          (m, ap (get s) key ∙ is_m, half_moved p _ m.prefix m.prefix b d same side refl over);
      below = λ l m' link' is'.
          let key : l ≡ k = same_Some l k (sym link' ∙ link) in
          let node : m' ≡ m = same_Some m' m (sym is' ∙ ap (get s) key ∙ is_m) in
          (b, its_child p number b k ∙ ap Some (sym key), half_moved p _ m.prefix m'.prefix b b same refl (ap (λ x. x.prefix) node) over);
      counted = links_over p number b k ∙ sym (ap count link);
    }

-- without a root there is no node
pub no_nodes : {family : Family} (s : Slab PrefixNode) → IsTrie family s → get s 0 ≡ None → (i : ℕ) (n : PrefixNode) → get s i ≡ Some n → ⊥
no_nodes s t missing i n is = let (root, there, _) = t.rooted i n is in none-some root (sym missing ∙ there)

-- ---- a prefix beside the node that stands in its spot
module _ (s : Slab PrefixNode) (t : IsTree (get s)) (p : Prefix) (i : ℕ) (high : Bool) (spot : IsSpot s p i high) (k : ℕ) (m : PrefixNode) (link : child spot.parent high ≡ Some k) (is : get s k ≡ Some m) where
  valid_m : IsPrefix m.prefix
  valid_m = t.valid k m is

  -- the node lies on the same side
  pub under_too : covers (half spot.parent.prefix high) m.prefix ≡ true
  under_too =
      let (c, is_c, over) = t.linked i spot.parent high k spot.there link in
      ap (λ x. covers (half spot.parent.prefix high) x.prefix) (sym (same_Some c m (sym is_c ∙ is))) ∙ over

  -- where the prefix covers the node, a node of this prefix fits over it
  pub fits_between : (number : Option ℕ) → covers p m.prefix ≡ true → m.prefix ≢ p → FitsBelow s i high (with_child (leaf_of p number) (bit_of m.prefix p.len) (Some k))
  fits_between number over differs =
      let longer = strictly p m.prefix valid_m over differs in
      fits_over s i high spot.parent p number (bit_of m.prefix p.len) k m spot.there spot.valid spot.under link is (covers_half p m.prefix valid_m over longer)

  -- a prefix that covers both, and none longer does
  module _ (fork : Prefix) (valid : IsPrefix fork) (this : covers fork p ≡ true) (that : covers fork m.prefix ≡ true) (longest : (q : Prefix) → covers q p ≡ true → covers q m.prefix ≡ true → q.len ≤ fork.len)
      (differs : m.prefix ≢ p) (parts : covers p m.prefix ≡ true → ⊥) where
    pub fork_over_node : fork.len < m.prefix.len
    fork_over_node =
        strictly fork m.prefix valid_m that (λ same.
        let over : covers m.prefix p ≡ true = ap (λ q. covers q p) same ∙ this in
        elim (cases_eq m.prefix.len p.len) [
          | inl equal ↦ differs (same_from_covered m.prefix p p over (covers_refl p spot.valid) equal)
          | inr other ↦
              let shorter : m.prefix.len < p.len = omega (arith, other, covers_len m.prefix p over) in
              omega (arith, spot.deepest k m is over shorter, link_longer (get s) t i k spot.parent m high spot.there is link)
        ])

    pub fork_over_new : fork.len < p.len
    fork_over_new = strictly fork p spot.valid this (λ same. parts (ap (λ q. covers q m.prefix) same ∙ that))

    pub fork_fits : (number : Option ℕ) → FitsBelow s i high (with_child (leaf_of fork number) (bit_of m.prefix fork.len) (Some k))
    fork_fits number =
        let under = covers_from_covered (half spot.parent.prefix high) fork p spot.under this (longest (half spot.parent.prefix high) spot.under under_too) in
        fits_over s i high spot.parent fork number (bit_of m.prefix fork.len) k m spot.there valid under link is (covers_half fork m.prefix valid_m that fork_over_node)

    -- the two lie in different halves of the fork
    pub fork_parts : bit_of p fork.len ≡ bit_of m.prefix fork.len → ⊥
    fork_parts same =
        let over = covers_half fork p spot.valid this fork_over_new in
        let over' = covers_half fork m.prefix valid_m that fork_over_node in
        let most = longest (half fork (bit_of p fork.len)) over (ap (λ b. covers (half fork b) m.prefix) same ∙ over') in
        omega (arith, most)

    -- and the new prefix fits as a leaf below it
    pub leaf_fits : (s' : Slab PrefixNode) (key : ℕ) (number number' : Option ℕ) → get s' key ≡ Some (with_child (leaf_of fork number) (bit_of m.prefix fork.len) (Some k)) → FitsBelow s' key (bit_of p fork.len) (leaf_of p number')
    leaf_fits s' key number number' there =
        let bit = bit_of m.prefix fork.len in
        let prefix_is = over_prefix fork number bit (Some k) in
        fits_leaf s' key (bit_of p fork.len) (with_child (leaf_of fork number) bit (Some k)) p number' there spot.valid
        (half_moved fork _ p p (bit_of p fork.len) (bit_of p fork.len) prefix_is refl refl (covers_half fork p spot.valid this fork_over_new))
        (λ l link'. let (side, _) = only_child fork number bit (bit_of p fork.len) k l link' in fork_parts side)

-- a prefix without a number came in before another one got its number
pub numbers_twice : (old mid new : Slab PrefixNode) (fork p : Prefix) (x : Option ℕ) → number_of old fork ≡ None → Numbers old mid fork None → Numbers mid new p x → Numbers old new p x
numbers_twice old mid new fork p x absent first second q =
    let mid_is : number_of mid q ≡ number_of old q =
    elim (cases_same q fork) [
      | inl same ↦ first q ∙ ap (λ b. cond b None (number_of old q)) (tied_same q fork same) ∙ sym absent ∙ ap (number_of old) (sym same)
      | inr differs ↦ first q ∙ ap (λ b. cond b None (number_of old q)) (not_tied q fork differs)
    ] in
    second q ∙ ap (λ o. cond (eq_by_cmp prefix_cmp q p) x o) mid_is
