-- What changes of the pool make of the tree that stands below a link.
use Rattle.std.proofs.Common.{◌≡◌, ℕ, ◌+◌, ◌≤◌, nat_lt, Bool, true, false, not, ◌&&◌, ◌||◌, if◌then◌else◌, Option, Some, None, is_some, IsSome, refl, sym, ap, subst, ◌∙◌, inl, inr, ◌⊎◌, arith}
use Rattle.std.specs.Option.{option_or}
use Rattle.std.proofs.lemmas.Bool.{both_ways, leb-true, le-leb}
use Rattle.pol_arena.specs.Pool.{Pool, node_at, nodes_in_use, Updates}
use Rattle.pol_ports.specs.declared.PortPrefix.{PortPrefix}
use Rattle.pol_ports.specs.PortPrefix.{end_of, same_prefix}
use Rattle.pol_ports.proofs.Same.{same_prefix-is}
use Rattle.pol_mapkey.specs.declared.Kind.{Kind}
use Rattle.pol_trie.specs.declared.node.PortNode.{PortNode}
use Rattle.pol_trie.specs.Tree.{Tree, Leaf, Fork, is_upper, Parts, middle, kind_in, Inside, Fits, IsFork, IsNeeded, IsTight, IsLooselyTight, node_count}
use Rattle.pol_trie.specs.Links.{child, with_child, node_of}
use Rattle.pol_trie.specs.Standing.{Stands, Holds, LooselyHolds, Becomes}
use Rattle.pol_trie.proofs.Prefixes.{half_lo, half_hi, half_within, halves_apart, in_half, not_empty}
use Rattle.pol_trie.proofs.Trees.{forked, outside, Fits-widen, Fits-forked, forked-Fits, IsTight-forked, forked-IsTight, node_count-forked, changed_below, changed_here, put_over, put_beside, collapsed}
use Rattle.pol_trie.proofs.Stand.{root, Stands-kept, Stands-with_child, Stands-node_of, kept_by_write, kept_by_put, apart_from_inner, not_below, linked_is_fork, unlinked_is_leaf}

-- the kinds of a tree where one prefix has this one
abbrev pub with_kind : PortPrefix → Option Kind → Tree → PortPrefix → Option Kind
with_kind port value t q = if same_prefix port q then value else kind_in t q

-- a tree with these kinds stands below a node, as in `Becomes`. Its first prefix is needed at least where `sure` holds.
pub record Changed (old new : Pool PortNode) (i : ℕ) (kinds : PortPrefix → Option Kind) (before lo hi len : ℕ) (sure : Type 0) : Type 0 where
  pub tree : Tree
  pub holds : LooselyHolds new i tree lo hi len
  pub same : (q : PortPrefix) → kind_in tree q ≡ kinds q
  pub count : nodes_in_use new + before ≡ nodes_in_use old + node_count tree
  pub others : (j : ℕ) (n : PortNode) → node_at old j ≡ Some n → (Inside n.port lo hi len → ⊥) → node_at new j ≡ Some n
  pub tight : sure → IsTight tree

pub becomes : (old new : Pool PortNode) (i : ℕ) (kinds : PortPrefix → Option Kind) (before lo hi len : ℕ) (sure : Type 0) → sure
    → Changed old new i kinds before lo hi len sure → Becomes old new (Some i) kinds before lo hi len
becomes old new i kinds before lo hi len sure given c =
    let h = c.holds in
    record { tree = c.tree; holds = record { stands = h.stands; fits = h.fits; tight = c.tight given }; same = c.same; count = c.count; others = c.others }

-- what is settled after a change
pub settled : (old mid new : Pool PortNode) (i : ℕ) (link : Option ℕ) (kinds : PortPrefix → Option Kind) (before lo hi len : ℕ) (sure : Type 0)
    → (c : Changed old mid i kinds before lo hi len sure) → Becomes mid new link (kind_in c.tree) (node_count c.tree) lo hi len
    → Becomes old new link kinds before lo hi len
settled old mid new i link kinds before lo hi len sure c b =
    record {
      tree = b.tree;
      holds = b.holds;
      same = λ q. b.same q ∙ c.same q;
      count = omega (arith, b.count, c.count);
      others = λ j n there never. b.others j n (c.others j n there never) never;
    }

needed_with : (value : Option Kind) (low high : Tree) → IsSome value → IsNeeded value low high
needed_with None low high some = absurd (cc)
needed_with (Some kind) low high some = tt

-- ---- the kind of the first node
pub here_changed : (old new : Pool PortNode) (i : ℕ) (n : PortNode) (port : PortPrefix) (value : Option Kind) → node_at old i ≡ Some n
    → Updates old new i (Some (record n { kind = value })) → nodes_in_use new ≡ nodes_in_use old → same_prefix n.port port ≡ true
    → (t : Tree) (lo hi len : ℕ) → Holds old (Some i) t lo hi len → Changed old new i (with_kind port value t) (node_count t) lo hi len (IsSome value)
here_changed old new i n port value there u counted same t lo hi len h =
    let r = root (node_at old) i n false t there h.stands in
    let P : Tree → Type 0 = λ x. Fits x lo hi len → IsTight x → Changed old new i (with_kind port value x) (node_count x) lo hi len (IsSome value) in
    subst P (sym r.is)
    (λ fits tight.
    let inside = fits.0 in
    record {
      tree = Fork n.port value r.below r.other;
      holds = record {
        stands = (
          i,
          _,
          refl,
          u.changed,
          refl,
          refl,
          Stands-kept r.below (node_at old) (node_at new) n.low n.port.bits (middle n.port) (n.port.len + 1) fits.1
              (kept_by_write old new i _ n there u n.port.bits (middle n.port) (n.port.len + 1) (not_below n.port n.port.bits (middle n.port))) r.below_stands,
          Stands-kept r.other (node_at old) (node_at new) n.high (middle n.port) (end_of n.port) (n.port.len + 1) fits.2
              (kept_by_write old new i _ n there u (middle n.port) (end_of n.port) (n.port.len + 1) (not_below n.port (middle n.port) (end_of n.port))) r.other_stands,
        );
        fits = fits;
        loose = (tight.1, tight.2);
      };
      same = changed_here n.port port n.kind value r.below r.other (same_prefix-is n.port port same);
      count = omega arith;
      others = λ j m at_j never. u.others j (apart_from_inner old i j n m lo hi len there inside at_j never) ∙ at_j;
      tight = λ some. (needed_with value r.below r.other some, tight.1, tight.2);
    }) h.fits h.tight

-- ---- what stands below a link of the first node
-- what a change below a link makes of the tree there
abbrev pub ChangesBelow : Pool PortNode → Pool PortNode → Option ℕ → Option ℕ → PortPrefix → Option Kind → ℕ → ℕ → ℕ → Type 0
ChangesBelow old mid link x port value lo hi len =
    (t : Tree) → Holds old link t lo hi len → Becomes old mid x (with_kind port value t) (node_count t) lo hi len

pub below_changed : (old mid new : Pool PortNode) (i : ℕ) (n : PortNode) (high : Bool) (x : Option ℕ) (port : PortPrefix) (value : Option Kind) → node_at old i ≡ Some n
    → ((m : PortNode) → node_at mid i ≡ Some m → Updates mid new i (Some (with_child m high x))) → nodes_in_use new ≡ nodes_in_use mid
    → Inside port (half_lo n.port high) (half_hi n.port high) (n.port.len + 1)
    → ChangesBelow old mid (child n high) x port value (half_lo n.port high) (half_hi n.port high) (n.port.len + 1)
    → (t : Tree) (lo hi len : ℕ) → Holds old (Some i) t lo hi len
    → Changed old new i (with_kind port value t) (node_count t) lo hi len ((y : ℕ) × (x ≡ Some y))
below_changed old mid new i n high x port value there writes counted port_inside changes t lo hi len h =
    let r = root (node_at old) i n high t there h.stands in
    let P : Tree → Type 0 = λ x'. Fits x' lo hi len → IsTight x' → Changed old new i (with_kind port value x') (node_count x') lo hi len ((y : ℕ) × (x ≡ Some y)) in
    subst P (sym r.is)
    (λ fits tight.
    let p = n.port in
    let from = half_lo p high in
    let to = half_hi p high in
    let f = forked-Fits p n.kind high r.below r.other lo hi len fits in
    let k = forked-IsTight p n.kind high r.below r.other tight in
    let b = changes r.below (record { stands = r.below_stands; fits = f.1; tight = k.1 }) in
    let there' = b.others i n there (not_below p from to) in
    let u = writes n there' in
    let mid_to_new = kept_by_write mid new i _ n there' u in
    let half = half_within p high in
    record {
      tree = forked p n.kind high b.tree r.other;
      holds = record {
        stands = Stands-with_child (node_at new) i n high x b.tree r.other u.changed
            (Stands-kept b.tree (node_at mid) (node_at new) x from to (p.len + 1) b.holds.fits (mid_to_new from to (p.len + 1) (not_below p from to)) b.holds.stands)
            (Stands-kept r.other (node_at old) (node_at new) (child n (not high)) (half_lo p (not high)) (half_hi p (not high)) (p.len + 1) f.2
            (λ j m at_j inside.
            mid_to_new (half_lo p (not high)) (half_hi p (not high)) (p.len + 1) (not_below p (half_lo p (not high)) (half_hi p (not high)))
            j m (b.others j m at_j (λ here. halves_apart p m.port high (p.len + 1) (p.len + 1) here inside)) inside) r.other_stands);
        fits = Fits-forked p n.kind high b.tree r.other lo hi len f.0 b.holds.fits f.2;
        loose = loose_from p n.kind high b.tree r.other b.holds.tight k.2;
      };
      same = λ q. changed_below p port n.kind value high r.below b.tree r.other f.1 b.holds.fits f.2
          (λ e. not_itself p port e port_inside)
          (outside r.other (half_lo p (not high)) (half_hi p (not high)) (p.len + 1) f.2 port
          (λ other. halves_apart p port high (p.len + 1) (p.len + 1) port_inside other)) q (b.same q);
      count = omega (arith, counted, b.count, node_count-forked p n.kind high r.below r.other, node_count-forked p n.kind high b.tree r.other);
      others = λ j m at_j never.
          u.others j (apart_from_inner old i j n m lo hi len there f.0 at_j never)
          ∙ b.others j m at_j (λ here. never (wider p m.port high lo hi len f.0 half here));
      tight = λ some.
          let P' : Option ℕ → Type 0 = λ o. Stands (node_at mid) o b.tree in
          let fork = linked_is_fork (node_at mid) some.0 b.tree (subst P' some.1 b.holds.stands) in
          IsTight-forked p n.kind high b.tree r.other (needed_still n.kind r.below b.tree r.other k.0 fork) b.holds.tight k.2;
    }) h.fits h.tight
  where
    loose_from : (p : PortPrefix) (kind : Option Kind) (high : Bool) (below other : Tree) → IsTight below → IsTight other → IsLooselyTight (forked p kind high below other)
    loose_from p kind true below other a b = (b, a)
    loose_from p kind false below other a b = (a, b)

    not_itself : (p q : PortPrefix) → p ≡ q → Inside q (half_lo p high) (half_hi p high) (p.len + 1) → ⊥
    not_itself p q e inside = let lens = ap (λ (y : PortPrefix). y.len) e in omega (arith, inside.2)

    wider : (p q : PortPrefix) (high : Bool) (lo hi len : ℕ) → Inside p lo hi len → (p.bits ≤ half_lo p high) × (half_hi p high ≤ end_of p)
        → Inside q (half_lo p high) (half_hi p high) (p.len + 1) → Inside q lo hi len
    wider p q high lo hi len a half b = (omega (arith, a.0, b.0, half.0), omega (arith, a.1, b.1, half.1), omega (arith, a.2, b.2))

    needed_still : (kind : Option Kind) (below new other : Tree) → IsNeeded kind below other → IsFork new → IsNeeded kind new other
    needed_still None below new other needed fork = (fork, needed.1)
    needed_still (Some kind) below new other needed fork = tt

-- ---- a new node
-- nothing stood there
pub leaf_put : (old new : Pool PortNode) (i : ℕ) (port : PortPrefix) (kind : Kind) → node_at old i ≡ None
    → Updates old new i (Some (node_of port (Some kind) false None None)) → nodes_in_use new ≡ nodes_in_use old + 1
    → (t : Tree) (lo hi len : ℕ) → Holds old None t lo hi len → Inside port lo hi len
    → Becomes old new (Some i) (with_kind port (Some kind) t) (node_count t) lo hi len
leaf_put old new i port kind free u counted t lo hi len h inside =
    let P : Tree → Type 0 = λ x. Becomes old new (Some i) (with_kind port (Some kind) x) (node_count x) lo hi len in
    subst P (sym (unlinked_is_leaf (node_at old) t h.stands))
    (record {
      tree = Fork port (Some kind) Leaf Leaf;
      holds = record { stands = (i, _, refl, u.changed, refl, refl, refl, refl); fits = (inside, tt, tt); tight = (tt, tt, tt) };
      same = λ q. choose (same_prefix port q) (nat_lt q.bits (middle port)) (Some kind);
      count = omega arith;
      others = λ j m at_j never. kept_by_put old new i _ free u j m at_j;
    })
  where
    choose : (s l : Bool) (v : Option Kind) → (if s then v else (if l then None else None)) ≡ (if s then v else None)
    choose true l v = refl
    choose false true v = refl
    choose false false v = refl

-- the tree stands where its first prefix does
pub moved : (old : Pool PortNode) (i : ℕ) (n : PortNode) (t : Tree) → node_at old i ≡ Some n → Stands (node_at old) (Some i) t
    → (lo hi len lo' hi' len' : ℕ) → Fits t lo hi len → Inside n.port lo' hi' len' → Fits t lo' hi' len'
moved old i n t there stands lo hi len lo' hi' len' fits inside =
    let r = root (node_at old) i n false t there stands in
    let P : Tree → Type 0 = λ x. Fits x lo hi len → Fits x lo' hi' len' in
    subst P (sym r.is) (λ f. (inside, f.1, f.2)) fits

-- a tree stands below the first node, in the half of the new prefix on a side
pub over_put : (old new : Pool PortNode) (i j : ℕ) (n : PortNode) (port : PortPrefix) (kind : Kind) (high : Bool) → high ≡ is_upper port n.port.bits → node_at old i ≡ Some n
    → node_at old j ≡ None → Updates old new j (Some (node_of port (Some kind) high (Some i) None)) → nodes_in_use new ≡ nodes_in_use old + 1
    → Inside n.port port.bits (end_of port) (port.len + 1)
    → (t : Tree) (lo hi len : ℕ) → Holds old (Some i) t lo hi len → Inside port lo hi len
    → Becomes old new (Some j) (with_kind port (Some kind) t) (node_count t) lo hi len
over_put old new i j n port kind high e there free u counted over t lo hi len h inside =
    let I : Bool → Type 0 = λ b. Inside n.port (half_lo port b) (half_hi port b) (port.len + 1) in
    let fits = moved old i n t there h.stands _ _ _ _ _ _ h.fits (subst I (sym e) (in_half port n.port over)) in
    record {
      tree = forked port (Some kind) high t Leaf;
      holds = record {
        stands = Stands-node_of (node_at new) j port (Some kind) high (Some i) None t Leaf u.changed
            (Stands-kept t (node_at old) (node_at new) (Some i) lo hi len h.fits (λ k m at_k _. kept_by_put old new j _ free u k m at_k) h.stands) refl;
        fits = Fits-forked port (Some kind) high t Leaf lo hi len inside fits tt;
        tight = IsTight-forked port (Some kind) high t Leaf tt h.tight tt;
      };
      same = put_over port kind high t fits;
      count = omega (arith, node_count-forked port (Some kind) high t Leaf);
      others = λ k m at_k never. kept_by_put old new j _ free u k m at_k;
    }

-- the tree and the new prefix lie in different halves of a fork
pub beside_put : (old mid new : Pool PortNode) (i leaf j : ℕ) (n : PortNode) (fork port : PortPrefix) (kind : Kind) (high : Bool) → high ≡ is_upper fork n.port.bits → node_at old i ≡ Some n
    → node_at old leaf ≡ None → Updates old mid leaf (Some (node_of port (Some kind) false None None)) → nodes_in_use mid ≡ nodes_in_use old + 1
    → node_at mid j ≡ None → Updates mid new j (Some (node_of fork None high (Some i) (Some leaf))) → nodes_in_use new ≡ nodes_in_use mid + 1
    → Parts fork n.port port
    → (t : Tree) (lo hi len : ℕ) → Holds old (Some i) t lo hi len → Inside port lo hi len → Inside fork lo hi len
    → Becomes old new (Some j) (with_kind port (Some kind) t) (node_count t) lo hi len
beside_put old mid new i leaf j n fork port kind high e there free u counted free' u' counted' parts t lo hi len h inside fork_inside =
    let I : Bool → Type 0 = λ b. Inside n.port (half_lo fork b) (half_hi fork b) (fork.len + 1) in
    let J : Bool → Type 0 = λ b. Inside port (half_lo fork (not b)) (half_hi fork (not b)) (fork.len + 1) in
    let mine = subst I (sym e) (in_half fork n.port parts.has_a) in
    let its = subst J (sym e) (other_half fork n.port port parts) in
    let fits = moved old i n t there h.stands _ _ _ _ _ _ h.fits mine in
    let old_to_new : (k : ℕ) (m : PortNode) → node_at old k ≡ Some m → node_at new k ≡ Some m =
    λ k m at_k. kept_by_put mid new j _ free' u' k m (kept_by_put old mid leaf _ free u k m at_k) in
    let new_leaf = kept_by_put mid new j _ free' u' leaf _ u.changed in
    let own : kind_in t port ≡ None = outside t (half_lo fork high) (half_hi fork high) (fork.len + 1) fits port
    (λ here. halves_apart fork port high (fork.len + 1) (fork.len + 1) here its) in
    record {
      tree = forked fork None high t (Fork port (Some kind) Leaf Leaf);
      holds = record {
        stands = Stands-node_of (node_at new) j fork None high (Some i) (Some leaf) t (Fork port (Some kind) Leaf Leaf) u'.changed
            (Stands-kept t (node_at old) (node_at new) (Some i) lo hi len h.fits (λ k m at_k _. old_to_new k m at_k) h.stands)
            (leaf, _, refl, new_leaf, refl, refl, refl, refl);
        fits = Fits-forked fork None high t (Fork port (Some kind) Leaf Leaf) lo hi len fork_inside fits (its, tt, tt);
        tight = IsTight-forked fork None high t (Fork port (Some kind) Leaf Leaf) (linked_is_fork (node_at old) i t h.stands, tt) h.tight (tt, tt, tt);
      };
      same = put_beside fork port kind high t fits its own;
      count = omega (arith, node_count-forked fork None high t (Fork port (Some kind) Leaf Leaf));
      others = λ k m at_k never. old_to_new k m at_k;
    }
  where
    other_half : (f a b : PortPrefix) → Parts f a b → Inside b (half_lo f (not (is_upper f a.bits))) (half_hi f (not (is_upper f a.bits))) (f.len + 1)
    other_half f a b parts = go (is_upper f a.bits) refl
      where
        go : (high : Bool) → is_upper f a.bits ≡ high → Inside b (half_lo f (not high)) (half_hi f (not high)) (f.len + 1)
        go true e = elim parts.apart [
          | inl x ↦ (let above = leb-true (middle f) a.bits e in let some = not_empty a in absurd (omega (arith, x.0)))
          | inr x ↦ (parts.has_b.0, x.0, parts.has_b.2)
        ]
        go false e = elim parts.apart [
          | inl x ↦ (x.1, parts.has_b.1, parts.has_b.2)
          | inr x ↦ absurd (both_ways _ e (le-leb (middle f) a.bits x.1))
        ]

-- ---- a node that nothing needs
-- one that is needed stays
pub stays : (p : Pool PortNode) (i : ℕ) (n : PortNode) → node_at p i ≡ Some n → (is_some n.kind || (is_some n.low && is_some n.high)) ≡ true
    → (t : Tree) (lo hi len : ℕ) → LooselyHolds p i t lo hi len → Becomes p p (Some i) (kind_in t) (node_count t) lo hi len
stays p i n there needed t lo hi len h =
    let r = root (node_at p) i n false t there h.stands in
    let P : Tree → Type 0 = λ x. IsLooselyTight x → IsTight x in
    record {
      tree = t;
      holds = record { stands = h.stands; fits = h.fits; tight = subst P (sym r.is) (λ l. (is_needed n.kind n.low n.high needed r.below r.other r.below_stands r.other_stands, l.0, l.1)) h.loose };
      same = λ q. refl;
      count = refl;
      others = λ j m at_j never. at_j;
    }
  where
    is_needed : (kind : Option Kind) (x y : Option ℕ) → (is_some kind || (is_some x && is_some y)) ≡ true → (a b : Tree)
        → Stands (node_at p) x a → Stands (node_at p) y b → IsNeeded kind a b
    is_needed (Some kind) x y t a b sa sb = tt
    is_needed None None y t a b sa sb = absurd (cc)
    is_needed None (Some x) None t a b sa sb = absurd (cc)
    is_needed None (Some x) (Some y) t a b sa sb = (linked_is_fork (node_at p) x a sa, linked_is_fork (node_at p) y b sb)

-- one that isn't goes, and what stood below it comes in its place
pub goes : (old new : Pool PortNode) (i : ℕ) (n : PortNode) (high : Bool) → node_at old i ≡ Some n → n.kind ≡ None → child n (not high) ≡ None
    → Updates old new i None → nodes_in_use new + 1 ≡ nodes_in_use old
    → (t : Tree) (lo hi len : ℕ) → LooselyHolds old i t lo hi len → Becomes old new (child n high) (kind_in t) (node_count t) lo hi len
goes old new i n high there no_kind no_other u counted t lo hi len h =
    let r = root (node_at old) i n high t there h.stands in
    let S : Option ℕ → Type 0 = λ o. Stands (node_at old) o r.other in
    let leaf = unlinked_is_leaf (node_at old) r.other (subst S no_other r.other_stands) in
    let is : t ≡ forked n.port None high r.below Leaf = r.is ∙ (λ x. forked n.port (no_kind x) high r.below (leaf x)) in
    let P : Tree → Type 0 = λ x. Fits x lo hi len → IsLooselyTight x → Becomes old new (child n high) (kind_in x) (node_count x) lo hi len in
    subst P (sym is)
    (λ fits loose.
    let p = n.port in
    let from = half_lo p high in
    let to = half_hi p high in
    let f = forked-Fits p None high r.below Leaf lo hi len fits in
    let half = half_within p high in
    record {
      tree = r.below;
      holds = record {
        stands = Stands-kept r.below (node_at old) (node_at new) (child n high) from to (p.len + 1) f.1
            (kept_by_write old new i _ n there u from to (p.len + 1) (not_below p from to)) r.below_stands;
        fits = Fits-widen r.below from to (p.len + 1) lo hi len f.1 (omega (arith, f.0.0, half.0)) (omega (arith, f.0.1, half.1)) (omega (arith, f.0.2));
        tight = below_tight p high r.below loose;
      };
      same = collapsed p high r.below f.1;
      count = omega (arith, counted, node_count-forked p None high r.below Leaf);
      others = λ j m at_j never. u.others j (apart_from_inner old i j n m lo hi len there f.0 at_j never) ∙ at_j;
    }) h.fits h.loose
  where
    below_tight : (p : PortPrefix) (high : Bool) (below : Tree) → IsLooselyTight (forked p None high below Leaf) → IsTight below
    below_tight p true below l = l.1
    below_tight p false below l = l.0

pub goes_either : (old new : Pool PortNode) (i : ℕ) (n : PortNode) → node_at old i ≡ Some n → (is_some n.kind || (is_some n.low && is_some n.high)) ≡ false
    → Updates old new i None → nodes_in_use new + 1 ≡ nodes_in_use old
    → (link : Option ℕ) → link ≡ option_or n.low n.high
    → (t : Tree) (lo hi len : ℕ) → LooselyHolds old i t lo hi len → Becomes old new link (kind_in t) (node_count t) lo hi len
goes_either old new i n there unneeded u counted link is t lo hi len h =
    let B : Option ℕ → Type 0 = λ o. Becomes old new o (kind_in t) (node_count t) lo hi len in
    let (none, side) = parts n.kind n.low n.high unneeded in
    elim side [
      | inl low ↦ subst B (sym (is ∙ ap (λ o. option_or o n.high) low)) (goes old new i n true there none low u counted t lo hi len h)
      | inr high ↦ subst B (sym (is ∙ ap (option_or n.low) high ∙ or_none n.low)) (goes old new i n false there none high u counted t lo hi len h)
    ]
  where
    parts : (kind : Option Kind) (x y : Option ℕ) → (is_some kind || (is_some x && is_some y)) ≡ false → (kind ≡ None) × ((x ≡ None) ⊎ (y ≡ None))
    parts (Some kind) x y e = absurd (cc)
    parts None None y e = (refl, inl refl)
    parts None (Some x) None e = (refl, inr refl)
    parts None (Some x) (Some y) e = absurd (cc)

    or_none : (o : Option ℕ) → option_or o None ≡ o
    or_none None = refl
    or_none (Some x) = refl
