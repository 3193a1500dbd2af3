-- Where a prefix stands, and what a node has below it.
use Rattle.std.proofs.Common.{◌≡◌, ◌≢◌, ℕ, ◌<◌, subst, Bool, true, false, IsSome, if◌then◌else◌, Option, Some, None, refl, sym, ap, ◌∙◌, inl, inr, arith}
use Rattle.std.proofs.lemmas.Option.{none-some, same_Some}
use Rattle.std.proofs.lemmas.Bool.{cases_lt, both_ways}
use Rattle.std.specs.Option.{option_or}
use Rattle.slab.specs.Slab.{Slab, get}
use Rattle.pol_addr.specs.declared.network.Prefix.{Prefix}
use Rattle.pol_addr.specs.Cidr.{IsPrefix}
use Rattle.pol_addr.specs.declared.family.Family.{Family}
use Rattle.pol_addr.specs.Address.{family_of}
use Rattle.pol_addr.specs.Prefix.{half, covers, world}
use Rattle.pol_addr.proofs.Containment.{covers_from_half, covers_refl, same_from_covered}
use Rattle.pol_prefix_table.specs.declared.node.PrefixNode.{PrefixNode}
use Rattle.pol_prefix_table.specs.Trie.{child, IsTree, IsTrie, IsSpot, IsNodeOf, HasOnly, Numbers, StillThere, StillThereOutside, number_of}
use Rattle.pol_addr.proofs.Halves.{covers_len}
use Rattle.pol_prefix_table.proofs.Lookup.{number_in-absent}
use Rattle.pol_prefix_table.proofs.Numbers.{number_of-node, numbers_at}
use Rattle.pol_addr.proofs.World.{world_from_len}
use Rattle.pol_prefix_table.specs.Links.{key_of}
use Rattle.pol_prefix_table.specs.Sizes.{count}
use Rattle.pol_prefix_table.proofs.Balance.{links-only}
use Rattle.pol_prefix_table.proofs.Edits.{link_longer}

pub some_from_test : (o : Option PrefixNode) → IsSome o → (n : PrefixNode) × (o ≡ Some n)
some_from_test None some = absurd (cc)
some_from_test (Some n) some = (n, refl)

-- the root has the prefix of length 0
pub root_node : {family : Family} (s : Slab PrefixNode) (t : IsTrie family s) (p : Prefix) → IsSome (get s 0) → IsPrefix p → family_of p.addr ≡ family → p.len ≡ 0 → IsNodeOf s p 0
root_node s t p some valid same zero =
    let (n, is) = some_from_test (get s 0) some in
    let (root, there, prefix_is) = t.rooted 0 n is in
    record { node = root; there = there; prefix = prefix_is ∙ ap world (sym same) ∙ sym (world_from_len p valid zero) }

-- the node of a prefix stands in the prefix's spot
pub in_spot : (s : Slab PrefixNode) (t : IsTree (get s)) (p : Prefix) (i : ℕ) (high : Bool) (spot : IsSpot s p i high) (j : ℕ) (n : PrefixNode) → get s j ≡ Some n → n.prefix ≡ p → child spot.parent high ≡ Some j
in_spot s t p i high spot j n is same =
    let (k, c, link, is_c, over) = t.reached i j spot.parent n high spot.there is (ap (covers (half spot.parent.prefix high)) same ∙ spot.under) in
    let over_p : covers c.prefix p ≡ true = ap (covers c.prefix) (sym same) ∙ over in
    elim (cases_lt c.prefix.len p.len) [
      | inl shorter ↦ absurd (omega (arith, spot.deepest k c is_c over_p shorter, link_longer (get s) t i k spot.parent c high spot.there is_c link))
      | inr equal ↦
          let prefixes = same_from_covered c.prefix p p over_p (covers_refl p spot.valid) (omega (arith, equal, covers_len c.prefix p over_p)) in
          link ∙ ap Some (t.apart k j c n is_c is (prefixes ∙ sym same))
    ]

-- a prefix is longer than the node above its spot
pub spot_shorter : (s : Slab PrefixNode) (t : IsTree (get s)) (p : Prefix) (i : ℕ) (high : Bool) (spot : IsSpot s p i high) → spot.parent.prefix.len < p.len
spot_shorter s t p i high spot = (covers_from_half spot.parent.prefix p high (t.valid i spot.parent spot.there) spot.valid spot.under).1

pub spot_over : (s : Slab PrefixNode) (t : IsTree (get s)) (p : Prefix) (i : ℕ) (high : Bool) (spot : IsSpot s p i high) (n : PrefixNode) → get s i ≡ Some n → covers n.prefix p ≡ true
spot_over s t p i high spot n is =
    ap (λ x. covers x.prefix p) (same_Some n spot.parent (sym is ∙ spot.there)) ∙ (covers_from_half spot.parent.prefix p high (t.valid i spot.parent spot.there) spot.valid spot.under).0

pub spot_apart : (s : Slab PrefixNode) (t : IsTree (get s)) (n : PrefixNode) (i j : ℕ) (high : Bool) (spot : IsSpot s n.prefix i high) → get s j ≡ Some n → i ≢ j
spot_apart s t n i j high spot is same =
    let nodes : spot.parent ≡ n = same_Some spot.parent n (sym spot.there ∙ ap (get s) same ∙ is) in
    omega (arith, spot_shorter s t n.prefix i high spot, ap (λ x. x.prefix.len) nodes)

-- only the root has the prefix of length 0
pub root_key : {family : Family} (s : Slab PrefixNode) → IsTrie family s → (i : ℕ) (n : PrefixNode) → get s i ≡ Some n → n.prefix.len ≡ 0 → i ≡ 0
root_key s t i n is zero =
    let (root, there, prefix_is) = t.rooted i n is in
    let tree = t.tree in
    tree.apart i 0 n root is there (world_from_len n.prefix (tree.valid i n is) zero ∙ ap world (t.of_family i n is) ∙ sym prefix_is)

pub below_root : {family : Family} (s : Slab PrefixNode) → IsTrie family s → (i : ℕ) (n : PrefixNode) → get s i ≡ Some n → i ≢ 0 → 0 < n.prefix.len
below_root s t i n is other =
    elim (cases_lt 0 n.prefix.len) [
      | inl longer ↦ longer
      | inr none ↦ absurd (other (root_key s t i n is (omega (arith, none))))
    ]

-- the spot of a node is that of its prefix
pub spot_of_node : (s : Slab PrefixNode) (m : PrefixNode) (i j : ℕ) (high : Bool) → get s j ≡ Some m → IsSpot s m.prefix i high → (n : PrefixNode) → get s j ≡ Some n → IsSpot s n.prefix i high
spot_of_node s m i j high is spot n is' = subst (λ x. IsSpot s x.prefix i high) (same_Some m n (sym is ∙ is')) spot

-- ---- what is below a node with at most one child
moved_by : (low high : Option ℕ) → (IsSome low → IsSome high → ⊥) → (d : Bool) (l : ℕ) → (if d then high else low) ≡ Some l → option_or low high ≡ Some l
moved_by None high one true l link = link
moved_by None high one false l link = absurd (none-some l link)
moved_by (Some x) None one true l link = absurd (none-some l link)
moved_by (Some x) None one false l link = link
moved_by (Some x) (Some y) one d l link = absurd (one refl refl)

from_one : (low high : Option ℕ) (l : ℕ) → option_or low high ≡ Some l → (d : Bool) × ((if d then high else low) ≡ Some l)
from_one None high l link = (true, link)
from_one (Some x) high l link = (false, link)

side : (n : PrefixNode) (d : Bool) → (if d then key_of n.high else key_of n.low) ≡ child n d
side n true = refl
side n false = refl

pub has_only : (s : Slab PrefixNode) (t : IsTree (get s)) (i j : ℕ) (high : Bool) (n : PrefixNode) (only : Option ℕ) (spot : IsSpot s n.prefix i high) → get s j ≡ Some n → only ≡ option_or (key_of n.low) (key_of n.high) → (IsSome (key_of n.low) → IsSome (key_of n.high) → ⊥) → HasOnly s i high j only
has_only s t i j high n only spot is only_is one = record {
  parent = spot.parent;
  there = spot.there;
  link = in_spot s t n.prefix i high spot j n is refl;
  node = n;
  is = is;
  moved = λ d l link. only_is ∙ moved_by (key_of n.low) (key_of n.high) one d l (side n d ∙ link);
  from = λ l link. let (d, is_d) = from_one (key_of n.low) (key_of n.high) l (sym only_is ∙ link) in (d, sym (side n d) ∙ is_d);
  counted = links-only (key_of n.low) (key_of n.high) one ∙ ap count (sym only_is);
}

-- ---- numbers
pub numbers_unchanged : (s : Slab PrefixNode) (p : Prefix) → number_of s p ≡ None → Numbers s s p None
numbers_unchanged s p none = numbers_at s s p None none (λ q _. refl)

pub number_of-absent : (s : Slab PrefixNode) (p : Prefix) → ((j : ℕ) (n : PrefixNode) → get s j ≡ Some n → n.prefix ≢ p) → number_of s p ≡ None
number_of-absent s p none = number_in-absent s.slots p none

pub number_of-at : (s : Slab PrefixNode) (t : IsTree (get s)) (p : Prefix) (i : ℕ) (n : PrefixNode) → IsNodeOf s p i → get s i ≡ Some n → number_of s p ≡ n.number
number_of-at s t p i n h is =
    let same : h.node ≡ n = same_Some h.node n (sym h.there ∙ is) in
    ap (number_of s) (sym h.prefix ∙ ap (λ x. x.prefix) same) ∙ number_of-node s t i n is

-- ---- nodes that are still there
pub pruned_kept : (old new : Slab PrefixNode) (j : ℕ) (m : PrefixNode) (over : Prefix) → get old j ≡ Some m → covers over m.prefix ≡ true → StillThere old new j → StillThereOutside old new over
pruned_kept old new j m over is covered still k n outside is_n =
    still k n (λ same. both_ways _ outside (ap (λ x. covers over x.prefix) (same_Some n m (sym is_n ∙ ap (get old) same ∙ is)) ∙ covered)) is_n

pub kept_twice : (old mid new : Slab PrefixNode) (over : Prefix) → StillThereOutside old mid over → StillThereOutside mid new over → StillThereOutside old new over
kept_twice old mid new over first second k n outside is =
    let (m, is', same) = first k n outside is in
    let (m', is'', same') = second k m (ap (covers over) same ∙ outside) is' in
    (m', is'', same' ∙ same)
