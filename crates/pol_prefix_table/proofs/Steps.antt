-- A step from a node towards a longer prefix.
use Rattle.std.proofs.Common.{◌≡◌, ℕ, ◌<◌, Bool, true, false, cond, nat_lt, Option, Some, None, refl, sym, ap, ◌∙◌, inl, inr, arith, lt-ltb}
use Rattle.std.proofs.lemmas.Bool.{cases_lt}
use Rattle.std.proofs.lemmas.Option.{none-some, same_Some}
use Rattle.slab.specs.Slab.{Slab, get}
use Rattle.pol_addr.specs.declared.network.Prefix.{Prefix}
use Rattle.pol_addr.specs.Cidr.{IsPrefix}
use Rattle.pol_addr.specs.declared.family.Family.{Family}
use Rattle.pol_addr.specs.Address.{family_of}
use Rattle.pol_addr.specs.Prefix.{bit_of, half, covers, world}
use Rattle.pol_addr.proofs.Containment.{covers_trans, covers_half, covers_from_half, covers_from_covered}
use Rattle.pol_addr.proofs.World.{covers-world}
use Rattle.pol_prefix_table.specs.declared.node.PrefixNode.{PrefixNode}
use Rattle.pol_prefix_table.specs.Trie.{child, child_toward, IsTree, HasRoot, StandsOver, IsDeepest, NoneBetween, len_at}
use Rattle.pol_addr.proofs.Halves.{same_half, covers_len, half_over}

cond_Some : {A : Type 0} (b : Bool) (o : Option A) (x : A) → cond b o None ≡ Some x → (b ≡ true) × (o ≡ Some x)
cond_Some true o x e = (refl, e)
cond_Some false o x e = absurd (none-some x e)

pub len_at-node : (s : Slab PrefixNode) (i : ℕ) (n : PrefixNode) → get s i ≡ Some n → len_at s i ≡ n.prefix.len
len_at-node s i n is = rw is refl

-- a node that stands over the target
pub record StandsAt (s : Slab PrefixNode) (target : Prefix) (limit i : ℕ) (n : PrefixNode) : Type 0 where
  pub there : get s i ≡ Some n
  pub over : covers n.prefix target ≡ true
  pub short : n.prefix.len < limit

-- the node that a key gives, as the one that stands over the target
pub at_node : (s : Slab PrefixNode) (target : Prefix) (limit i : ℕ) (n : PrefixNode) → StandsOver s target limit i → get s i ≡ Some n → StandsAt s target limit i n
at_node s target limit i n h is =
    let same : h.node ≡ n = same_Some h.node n (sym h.there ∙ is) in
    record { there = is; over = ap (λ x. covers x.prefix target) (sym same) ∙ h.over; short = omega (arith, ap (λ x. x.prefix.len) same, h.short) }

abbrev pub stands_at : (s : Slab PrefixNode) (target : Prefix) (limit i : ℕ) (n : PrefixNode) → StandsAt s target limit i n → StandsOver s target limit i
stands_at s target limit i n h = record { node = n; there = h.there; over = h.over; short = h.short }

module _ (s : Slab PrefixNode) (t : IsTree (get s)) (target : Prefix) (valid : IsPrefix target) where
  -- what covers the target below a node is below its child on the target's side
  pub below_child : (i j : ℕ) (n m : PrefixNode) → get s i ≡ Some n → get s j ≡ Some m → covers n.prefix target ≡ true → covers m.prefix target ≡ true → n.prefix.len < m.prefix.len → (k : ℕ) × (c : PrefixNode) × (child_toward n target ≡ Some k) × (get s k ≡ Some c) × (covers c.prefix m.prefix ≡ true)
  below_child i j n m is is_m over_n over_m longer =
      let over = covers_from_covered n.prefix m.prefix target over_n over_m (omega arith) in
      let (d, over_d) = half_over n.prefix m.prefix (t.valid j m is_m) over longer in
      let inside : n.prefix.len < target.len = omega (arith, longer, covers_len m.prefix target over_m) in
      let over_b = covers_half n.prefix target valid over_n inside in
      let side = same_half n.prefix target d (bit_of target n.prefix.len) (covers_trans (half n.prefix d) m.prefix target over_d over_m) over_b in
      let (k, c, link, is_c, over_c) = t.reached i j n m d is is_m over_d in
      (k, c, ap (λ b. cond b (child n (bit_of target n.prefix.len)) None) (lt-ltb n.prefix.len target.len inside) ∙ ap (child n) (sym side) ∙ link, is_c, over_c)

  -- the child on the target's side
  pub child_there : (i : ℕ) (n : PrefixNode) (k : ℕ) → get s i ≡ Some n → child_toward n target ≡ Some k → (c : PrefixNode) × (get s k ≡ Some c) × (covers (half n.prefix (bit_of target n.prefix.len)) c.prefix ≡ true) × (n.prefix.len < c.prefix.len)
  child_there i n k is link =
      let (_, link') = cond_Some (nat_lt n.prefix.len target.len) (child n (bit_of target n.prefix.len)) k link in
      let (c, is_c, over) = t.linked i n (bit_of target n.prefix.len) k is link' in
      let (_, longer) = covers_from_half n.prefix c.prefix (bit_of target n.prefix.len) (t.valid i n is) (t.valid k c is_c) over in
      (c, is_c, over, longer)

  pub deepest_at_end : (limit i : ℕ) (n : PrefixNode) (h : StandsAt s target limit i n) → child_toward n target ≡ None → IsDeepest s target limit i
  deepest_at_end limit i n h none = record {
    stands = stands_at s target limit i n h;
    deepest = λ j m is over short.
        elim (cases_lt n.prefix.len m.prefix.len) [
          | inl longer ↦
              let (k, _, link, _, _) = below_child i j n m h.there is h.over over longer in
              absurd (none-some k (sym none ∙ link))
          | inr fine ↦ fine
        ];
  }

  pub deepest_before : (limit i : ℕ) (n : PrefixNode) (h : StandsAt s target limit i n) (k : ℕ) (c : PrefixNode) → child_toward n target ≡ Some k → get s k ≡ Some c → (covers c.prefix target ≡ true → c.prefix.len < limit → ⊥) → IsDeepest s target limit i
  deepest_before limit i n h k c link is_c far = record {
    stands = stands_at s target limit i n h;
    deepest = λ j m is over short.
        elim (cases_lt n.prefix.len m.prefix.len) [
          | inl longer ↦
              let (k', c', link', is_c', over') = below_child i j n m h.there is h.over over longer in
              let key : k' ≡ k = same_Some k' k (sym link' ∙ link) in
              let node : c' ≡ c = same_Some c' c (sym is_c' ∙ ap (get s) key ∙ is_c) in
              let over_c : covers c.prefix m.prefix ≡ true = ap (λ x. covers x.prefix m.prefix) (sym node) ∙ over' in
              absurd (far (covers_trans c.prefix m.prefix target over_c over) (omega (arith, covers_len c.prefix m.prefix over_c)))
          | inr fine ↦ fine
        ];
  }

  pub none_between : (i : ℕ) (n : PrefixNode) (k : ℕ) (c : PrefixNode) → get s i ≡ Some n → covers n.prefix target ≡ true → child_toward n target ≡ Some k → get s k ≡ Some c → NoneBetween s target i k
  none_between i n k c is over link is_c = λ j m is_m over_m longer.
      let longer' : n.prefix.len < m.prefix.len = omega (arith, len_at-node s i n is) in
      let (k', c', link', is_c', over') = below_child i j n m is is_m over over_m longer' in
      let key : k' ≡ k = same_Some k' k (sym link' ∙ link) in
      let node : c' ≡ c = same_Some c' c (sym is_c' ∙ ap (get s) key ∙ is_c) in
      omega (arith, covers_len c'.prefix m.prefix over', ap (λ x. x.prefix.len) node, len_at-node s k c is_c)

-- the root covers every prefix of the family
pub root_stands : {family : Family} (s : Slab PrefixNode) (target : Prefix) (limit : ℕ) → HasRoot family (get s) → IsPrefix target → family_of target.addr ≡ family → 0 < limit → StandsOver s target limit 0
root_stands s target limit (root, is, prefix_is) valid same some = record {
  node = root;
  there = is;
  over = ap (λ p. covers p target) (prefix_is ∙ ap world (sym same)) ∙ covers-world target valid;
  short = omega (arith, ap (λ p. p.len) prefix_is);
}

pub world_root : (family : Family) (s : Slab PrefixNode) (n : PrefixNode) → HasRoot family (get s) → get s 0 ≡ Some n → n.prefix ≡ world family
world_root family s n (root, is, prefix_is) is_n = ap (λ x. x.prefix) (same_Some n root (sym is_n ∙ is)) ∙ prefix_is
