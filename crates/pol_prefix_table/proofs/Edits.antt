-- What the edits of the trie leave.
use Rattle.std.proofs.Common.{◌≡◌, ◌≢◌, ℕ, ◌<◌, ◌≤◌, IsSome, is_some, subst, arith, Bool, true, false, not, Option, Some, None, refl, sym, ap, ◌∙◌, inl, inr}
use Rattle.std.proofs.lemmas.Option.{none-some, same_Some}
use Rattle.std.proofs.lemmas.Bool.{cases_eq}
use Rattle.slab.specs.Slab.{Slab, get, Updates}
use Rattle.pol_addr.specs.Cidr.{IsPrefix}
use Rattle.pol_addr.specs.declared.family.Family.{Family}
use Rattle.pol_addr.specs.Address.{family_of}
use Rattle.pol_addr.specs.Prefix.{world}
use Rattle.pol_addr.proofs.Containment.{covers_from_half}
use Rattle.pol_addr.proofs.Halves.{half-family, half_moved, covers_moved}
use Rattle.pol_prefix_table.specs.declared.node.PrefixNode.{PrefixNode}
use Rattle.pol_prefix_table.specs.Trie.{child, with_child, IsTree, IsTrie, HasRoot, FitsBelow, HasOnly, number_of, Numbers, SameNumbers, StillThere, AllStillThere}
use Rattle.pol_prefix_table.specs.Sizes.{weight, IsBalanced, IsTightBut, loosened}
use Rattle.pol_prefix_table.proofs.Balance.{key_of-link_of, balanced_attached, balanced_spliced, balanced_numbered}
use Rattle.pol_prefix_table.proofs.Tight.{tight_attached, tight_spliced, left_above}
use Rattle.pol_prefix_table.proofs.Attach.{Attached, attached_tree, attached_keeps, attached_from, absent}
use Rattle.pol_prefix_table.proofs.Splice.{Spliced, spliced_tree, spliced_keeps, spliced_from}
use Rattle.pol_prefix_table.proofs.Lookup.{number_in-absent}
use Rattle.pol_prefix_table.proofs.Numbers.{number_of-node, same_number, numbers_at}

with_child-this : (n : PrefixNode) (high : Bool) (key : Option ℕ) → child (with_child n high key) high ≡ key
with_child-this n true key = key_of-link_of key
with_child-this n false key = key_of-link_of key

with_child-other : (n : PrefixNode) (high : Bool) (key : Option ℕ) → child (with_child n high key) (not high) ≡ child n (not high)
with_child-other n true key = refl
with_child-other n false key = refl

pub with_child-prefix : (n : PrefixNode) (high : Bool) (key : Option ℕ) → (with_child n high key).prefix ≡ n.prefix
with_child-prefix n true key = refl
with_child-prefix n false key = refl

with_child-number : (n : PrefixNode) (high : Bool) (key : Option ℕ) → (with_child n high key).number ≡ n.number
with_child-number n true key = refl
with_child-number n false key = refl

-- a root that is still there
IsTrie-rooted : {family : Family} (s : Slab PrefixNode) → IsTree (get s) → HasRoot family (get s) → ((i : ℕ) (n : PrefixNode) → get s i ≡ Some n → family_of n.prefix.addr ≡ family) → IsBalanced s → IsTrie family s
IsTrie-rooted s t root of_family balanced = record {
  fresh = λ none. absurd (none-some root.0 (sym none ∙ root.1));
  rooted = λ i n is. root;
  of_family = of_family;
  tree = t;
  balanced = balanced;
}

root_there : (family : Family) (at : ℕ → Option PrefixNode) → HasRoot family at → IsSome (at 0)
root_there family at (root, is, _) = ap is_some is

pub HasRoot-kept : (family : Family) (old new : ℕ → Option PrefixNode) → HasRoot family old → ((n : PrefixNode) → old 0 ≡ Some n → (m : PrefixNode) × (new 0 ≡ Some m) × (m.prefix ≡ n.prefix)) → HasRoot family new
HasRoot-kept family old new (root, is, prefix_is) keeps = let (m, is', same) = keeps root is in (m, is', same ∙ prefix_is)

pub still_twice : (old mid new : Slab PrefixNode) → AllStillThere old mid → AllStillThere mid new → AllStillThere old new
still_twice old mid new first second j n is =
    let (m, is', same) = first j n is in
    let (m', is'', same') = second j m is' in
    (m', is'', same' ∙ same)

module _ {family : Family} (old mid new : Slab PrefixNode) (i key : ℕ) (high : Bool) (c : PrefixNode) (t : IsTrie family old) (fits : FitsBelow old i high c) (vacant : get old key ≡ None)
    (inserted : Updates old mid key (Some c)) (linked : Updates mid new i (Some (with_child fits.parent high (Some key)))) where
  not_key : (k : ℕ) (n : PrefixNode) → get old k ≡ Some n → k ≢ key
  not_key k n is same = none-some n (sym vacant ∙ ap (get old) (sym same) ∙ is)

  pub attached : Attached (get old) (get new) i key fits.parent (with_child fits.parent high (Some key)) c high
  attached = record {
    parent = fits.there;
    vacant = vacant;
    new = linked.others key (λ same. not_key i fits.parent fits.there (sym same)) ∙ inserted.changed;
    new_valid = fits.valid;
    under = fits.under;
    relinked = linked.changed;
    same_prefix = with_child-prefix fits.parent high (Some key);
    same_number = with_child-number fits.parent high (Some key);
    to_new = with_child-this fits.parent high (Some key);
    other_side = with_child-other fits.parent high (Some key);
    others = λ k differs differs'. linked.others k differs ∙ inserted.others k differs';
    moved = fits.moved;
    below = fits.below;
  }

  tree' : IsTree (get new)
  tree' = attached_tree (get old) (get new) i key fits.parent (with_child fits.parent high (Some key)) c high t.tree attached

  keeps : (k : ℕ) (m : PrefixNode) → get old k ≡ Some m → (m' : PrefixNode) × (get new k ≡ Some m') × (m'.prefix ≡ m.prefix) × (m'.number ≡ m.number)
  keeps = attached_keeps (get old) (get new) i key fits.parent (with_child fits.parent high (Some key)) c high t.tree attached

  pub attached_kept : AllStillThere old new
  attached_kept k m is = let (m', is', same, _) = keeps k m is in (m', is', same)

  attached_family : (k : ℕ) (m : PrefixNode) → get new k ≡ Some m → family_of m.prefix.addr ≡ family
  attached_family k m is =
      elim (attached_from (get old) (get new) i key fits.parent (with_child fits.parent high (Some key)) c high t.tree attached k m is) [
        | inl fresh ↦ ap (λ y. family_of y.prefix.addr) fresh.1 ∙ half-family fits.parent.prefix c.prefix high fits.under ∙ t.of_family i fits.parent fits.there
        | inr was ↦ ap (λ q. family_of q.addr) was.2 ∙ t.of_family k was.0 was.1
      ]

  pub attached_trie : IsTrie family new
  attached_trie = IsTrie-rooted new tree' (HasRoot-kept family (get old) (get new) (t.rooted i fits.parent fits.there) (λ n is. let (m, is', same, _) = keeps 0 n is in (m, is', same)))
      attached_family
      (balanced_attached old mid new i key high fits.parent c (root_there family (get old) (t.rooted i fits.parent fits.there)) t.balanced (inserted.others i (not_key i fits.parent fits.there) ∙ fits.there) vacant fits.counted inserted linked)

  pub attached_there : get new key ≡ Some c
  attached_there = let h = attached in h.new

  pub attached_tight : (k : ℕ) → IsTightBut (get old) k → (key ≢ k → 2 ≤ weight c) → IsTightBut (get new) k
  attached_tight = tight_attached (get old) (get new) i key fits.parent (with_child fits.parent high (Some key)) c high attached

  pub attached_parent : (n : PrefixNode) → get old i ≡ Some n → get new i ≡ Some (with_child n high (Some key))
  attached_parent n is = linked.changed ∙ ap (λ x. Some (with_child x high (Some key))) (same_Some fits.parent n (sym fits.there ∙ is))

  pub attached_absent : number_of old c.prefix ≡ None
  attached_absent = number_in-absent old.slots c.prefix (λ k m is same. absent (get old) (get new) i key fits.parent (with_child fits.parent high (Some key)) c high t.tree attached k m is (sym same))

  pub attached_numbers : Numbers old new c.prefix c.number
  attached_numbers = numbers_at old new c.prefix c.number (number_of-node new tree' key c attached_there) (λ q differs.
      same_number old new t.tree tree' q
      (λ x h. let (m, is, prefix, number) = keeps h.key h.node h.there in record { key = h.key; node = m; there = is; prefix = prefix ∙ h.prefix; number = number ∙ h.number })
      (λ x h.
      elim (attached_from (get old) (get new) i key fits.parent (with_child fits.parent high (Some key)) c high t.tree attached h.key h.node h.there) [
        | inl fresh ↦ absurd (differs (sym h.prefix ∙ ap (λ y. y.prefix) fresh.1))
        | inr was ↦ record { key = h.key; node = was.0; there = was.1; prefix = sym was.2 ∙ h.prefix; number = sym was.3 ∙ h.number }
      ]))

-- the link to the parent is found before and after the insertion
pub parent_after : (old mid : Slab PrefixNode) (i key : ℕ) (n : PrefixNode) (slot : Option PrefixNode) → get old i ≡ Some n → get old key ≡ None → Updates old mid key slot → get mid i ≡ Some n
parent_after old mid i key n slot is vacant inserted = inserted.others i (λ same. none-some n (sym vacant ∙ ap (get old) (sym same) ∙ is)) ∙ is

-- what a link leads to is another node, whose prefix is longer
pub link_longer : (at : ℕ → Option PrefixNode) (t : IsTree at) (i k : ℕ) (n m : PrefixNode) (high : Bool) → at i ≡ Some n → at k ≡ Some m → child n high ≡ Some k → n.prefix.len < m.prefix.len
link_longer at t i k n m high is is_m link =
    let (c, is_c, over) = t.linked i n high k is link in
    let same : c ≡ m = same_Some c m (sym is_c ∙ is_m) in
    let (_, longer) = covers_from_half n.prefix c.prefix high (t.valid i n is) (t.valid k c is_c) over in
    omega (arith, longer, ap (λ x. x.prefix.len) same)

module _ {family : Family} (old mid new : Slab PrefixNode) (i k : ℕ) (high : Bool) (only : Option ℕ) (t : IsTrie family old) (h : HasOnly old i high k only)
    (linked : Updates old mid i (Some (with_child h.parent high only))) where
  apart_keys : i ≢ k
  apart_keys same =
      let nodes : h.parent ≡ h.node = same_Some h.parent h.node (sym h.there ∙ ap (get old) same ∙ h.is) in
      omega (arith, link_longer (get old) t.tree i k h.parent h.node high h.there h.is h.link, ap (λ x. x.prefix.len) nodes)

  -- the node is still there when its parent has its child
  pub still_before : get mid k ≡ Some h.node
  still_before = linked.others k (λ same. apart_keys (sym same)) ∙ h.is

  module _ (removed : Updates mid new k None) where
    spliced : Spliced (get old) (get new) i k h.parent (with_child h.parent high only) h.node high
    spliced = record {
      parent = h.there;
      there = h.is;
      link = h.link;
      gone = removed.changed;
      relinked = removed.others i apart_keys ∙ linked.changed;
      same_prefix = with_child-prefix h.parent high only;
      same_number = with_child-number h.parent high only;
      other_side = with_child-other h.parent high only;
      others = λ l differs differs'. removed.others l differs' ∙ linked.others l differs;
      moved = λ d l link. with_child-this h.parent high only ∙ h.moved d l link;
      from = λ l link. h.from l (sym (with_child-this h.parent high only) ∙ link);
    }

    spliced' : IsTree (get new)
    spliced' = spliced_tree (get old) (get new) i k h.parent (with_child h.parent high only) h.node high t.tree spliced

    spliced_kept : (l : ℕ) (n : PrefixNode) → l ≢ k → get old l ≡ Some n → (m : PrefixNode) × (get new l ≡ Some m) × (m.prefix ≡ n.prefix) × (m.number ≡ n.number)
    spliced_kept = spliced_keeps (get old) (get new) i k h.parent (with_child h.parent high only) h.node high t.tree spliced

    pub splice_others : StillThere old new k
    splice_others l n differs is = let (m, is', same, _) = spliced_kept l n differs is in (m, is', same)

    not_root : (n : PrefixNode) → get old 0 ≡ Some n → n.prefix ≡ world family → 0 ≢ k
    not_root n is prefix_is same =
        let nodes : n ≡ h.node = same_Some n h.node (sym is ∙ ap (get old) same ∙ h.is) in
        omega (arith, link_longer (get old) t.tree i k h.parent h.node high h.there h.is h.link, ap (λ x. x.prefix.len) nodes, ap (λ p. p.len) prefix_is)

    pub spliced_root : HasRoot family (get new)
    spliced_root =
        let (root, is, prefix_is) = t.rooted i h.parent h.there in
        let (m, is', same) = splice_others 0 root (not_root root is prefix_is) is in
        (m, is', same ∙ prefix_is)

    spliced_family : (l : ℕ) (m : PrefixNode) → get new l ≡ Some m → family_of m.prefix.addr ≡ family
    spliced_family l m is =
        let (_, n, is', prefix, _) = spliced_from (get old) (get new) i k h.parent (with_child h.parent high only) h.node high t.tree spliced l m is in
        ap (λ q. family_of q.addr) prefix ∙ t.of_family l n is'

    pub spliced_trie : IsTrie family new
    spliced_trie = IsTrie-rooted new spliced' spliced_root spliced_family
        (balanced_spliced old mid new i k high h.parent h.node only (root_there family (get old) (t.rooted i h.parent h.there)) t.balanced h.there still_before h.link h.counted linked removed)

    pub spliced_tight : IsTightBut (get old) k → IsTightBut (get new) (loosened only i)
    spliced_tight tight = tight_spliced (get old) (get new) i k h.parent (with_child h.parent high only) h.node high spliced tight only (with_child-this h.parent high only)

    pub spliced_left : IsTightBut (get old) k → (n : PrefixNode) → i ≢ 0 → get new i ≡ Some n → 1 ≤ weight n
    spliced_left tight n root is =
        let s = spliced in
        subst (λ x. 1 ≤ weight x) (same_Some (with_child h.parent high only) n (sym s.relinked ∙ is)) (left_above (get old) (get new) i k h.parent (with_child h.parent high only) h.node high spliced tight root)

    pub spliced_numbers : h.node.number ≡ None → SameNumbers old new
    spliced_numbers none q = same_number old new t.tree spliced' q
        (λ x g.
        let differs : g.key ≢ k = λ same. none-some x (sym none ∙ ap (λ y. y.number) (same_Some h.node g.node (sym h.is ∙ ap (get old) (sym same) ∙ g.there)) ∙ g.number) in
        let (m, is, prefix, number) = spliced_kept g.key g.node differs g.there in
        record { key = g.key; node = m; there = is; prefix = prefix ∙ g.prefix; number = number ∙ g.number })
        (λ x g.
        let (_, n, is, prefix, number) = spliced_from (get old) (get new) i k h.parent (with_child h.parent high only) h.node high t.tree spliced g.key g.node g.there in
        record { key = g.key; node = n; there = is; prefix = sym prefix ∙ g.prefix; number = sym number ∙ g.number })

-- ---- a number that is set
module _ {family : Family} (old new : Slab PrefixNode) (i : ℕ) (n : PrefixNode) (number : Option ℕ) (t : IsTrie family old) (is : get old i ≡ Some n) (u : Updates old new i (Some (record n { number = number }))) where
  -- the old node has the same prefix and the same links
  record Old (k : ℕ) (m : PrefixNode) : Type 0 where
    node : PrefixNode
    there : get old k ≡ Some node
    prefix : m.prefix ≡ node.prefix
    links : (d : Bool) → child m d ≡ child node d
    other : k ≢ i → m ≡ node

  old_of : (k : ℕ) (m : PrefixNode) → get new k ≡ Some m → Old k m
  old_of k m is' =
      elim (cases_eq k i) [
        | inl same ↦
            let now : m ≡ record n { number = number } = same_Some m _ (sym is' ∙ ap (get new) same ∙ u.changed) in
            record { node = n; there = ap (get old) same ∙ is; prefix = ap (λ x. x.prefix) now; links = λ d. ap (λ x. child x d) now; other = λ differs. absurd (differs same) }
        | inr differs ↦ record { node = m; there = sym (u.others k differs) ∙ is'; prefix = refl; links = λ d. refl; other = λ _. refl }
      ]

  new_of : (k : ℕ) (m : PrefixNode) → get old k ≡ Some m → (m' : PrefixNode) × (get new k ≡ Some m') × (m'.prefix ≡ m.prefix)
  new_of k m is' =
      elim (cases_eq k i) [
        | inl same ↦ (record n { number = number }, ap (get new) same ∙ u.changed, ap (λ x. x.prefix) (same_Some n m (sym is ∙ ap (get old) (sym same) ∙ is')))
        | inr differs ↦ (m, u.others k differs ∙ is', refl)
      ]

  pub numbered_kept : AllStillThere old new
  numbered_kept = new_of

  numbered_tree : IsTree (get new)
  numbered_tree =
      let tree = t.tree in
      record {
        valid = λ k m is'. let o = old_of k m is' in subst IsPrefix (sym o.prefix) (tree.valid k o.node o.there);
        linked = λ k m d l is' link.
            let o = old_of k m is' in
            let (c, is_c, over) = tree.linked k o.node d l o.there (sym (o.links d) ∙ link) in
            let (c', is_c', same) = new_of l c is_c in
            (c', is_c', half_moved o.node.prefix m.prefix c.prefix c'.prefix d d o.prefix refl same over);
        reached = λ k l m q d is' is_q over.
            let o = old_of k m is' in
            let p = old_of l q is_q in
            let (x, c, link, is_c, over_c) = tree.reached k l o.node p.node d o.there p.there (half_moved m.prefix o.node.prefix q.prefix p.node.prefix d d (sym o.prefix) refl (sym p.prefix) over) in
            let (c', is_c', same) = new_of x c is_c in
            (x, c', o.links d ∙ link, is_c', covers_moved c.prefix c'.prefix p.node.prefix q.prefix same p.prefix over_c);
        apart = λ k l m q is' is_q same.
            let o = old_of k m is' in
            let p = old_of l q is_q in
            tree.apart k l o.node p.node o.there p.there (sym o.prefix ∙ same ∙ p.prefix);
      }

  pub numbered_trie : IsTrie family new
  numbered_trie = IsTrie-rooted new numbered_tree (HasRoot-kept family (get old) (get new) (t.rooted i n is) (λ m is'. new_of 0 m is'))
      (λ k m is'. let o = old_of k m is' in ap (λ q. family_of q.addr) o.prefix ∙ t.of_family k o.node o.there)
      (balanced_numbered old new i n number (root_there family (get old) (t.rooted i n is)) t.balanced is u)

  pub numbered_numbers : Numbers old new n.prefix number
  numbered_numbers = numbers_at old new n.prefix number (number_of-node new numbered_tree i (record n { number = number }) u.changed) (λ q differs.
      same_number old new t.tree numbered_tree q
      (λ x h.
      let away : h.key ≢ i = λ same. differs (sym (ap (λ y. y.prefix) (same_Some n h.node (sym is ∙ ap (get old) (sym same) ∙ h.there)) ∙ h.prefix)) in
      record { key = h.key; node = h.node; there = u.others h.key away ∙ h.there; prefix = h.prefix; number = h.number })
      (λ x h.
      let o = old_of h.key h.node h.there in
      let away : h.key ≢ i = λ same. differs (sym (ap (λ y. y.prefix) (same_Some n o.node (sym is ∙ ap (get old) (sym same) ∙ o.there)) ∙ sym o.prefix ∙ h.prefix)) in
      record { key = h.key; node = o.node; there = o.there; prefix = sym o.prefix ∙ h.prefix; number = sym (ap (λ y. y.number) (o.other away)) ∙ h.number }))
