-- Trees that stand in a pool.
use Rattle.std.proofs.Common.{◌≡◌, ◌≢◌, ℕ, ◌+◌, ◌-◌, ◌<◌, ◌≤◌, Bool, true, false, not, Option, Some, None, is_some, IsSome, refl, sym, ap, subst, ◌∙◌, arith}
use Rattle.std.proofs.lemmas.Option.{same_Some}
use Rattle.pol_arena.specs.Pool.{Pool, node_at, Updates}
use Rattle.pol_ports.specs.declared.PortPrefix.{PortPrefix}
use Rattle.pol_ports.specs.PortPrefix.{end_of}
use Rattle.pol_mapkey.specs.declared.Kind.{Kind}
use Rattle.pol_trie.specs.declared.node.PortNode.{PortNode}
use Rattle.pol_trie.specs.Tree.{Tree, Leaf, Fork, middle, Inside, Fits, IsFork}
use Rattle.pol_trie.specs.Links.{child, with_child, node_of}
use Rattle.pol_trie.specs.Standing.{Stands}
use Rattle.pol_trie.proofs.Prefixes.{middle_within}
use Rattle.pol_trie.proofs.Trees.{forked}

-- a tree stands also in another pool, where the nodes that belong there are as they were
pub Stands-kept : (t : Tree) (at new : ℕ → Option PortNode) (link : Option ℕ) (lo hi len : ℕ) → Fits t lo hi len
    → ((i : ℕ) (n : PortNode) → at i ≡ Some n → Inside n.port lo hi len → new i ≡ Some n) → Stands at link t → Stands new link t
Stands-kept Leaf at new link lo hi len fits keep s = s
Stands-kept (Fork p kind low high) at new link lo hi len fits keep s =
    let (i, n, is, there, port, kind_is, low_stands, high_stands) = s in
    let m = middle_within p in
    let f = fits.0 in
    let P : PortPrefix → Type 0 = λ x. Inside x lo hi len in (
      i,
      n,
      is,
      keep i n there (subst P (sym port) f),
      port,
      kind_is,
      Stands-kept low at new n.low p.bits (middle p) (p.len + 1) fits.1
          (λ j x at_j inside. keep j x at_j (omega (arith, f.0, inside.0), omega (arith, f.1, inside.1), omega (arith, f.2, inside.2))) low_stands,
      Stands-kept high at new n.high (middle p) (end_of p) (p.len + 1) fits.2
          (λ j x at_j inside. keep j x at_j (omega (arith, f.0, inside.0), omega (arith, f.1, inside.1), omega (arith, f.2, inside.2))) high_stands,
    )

-- the first node of a tree, and what stands below it on a side and on the other
pub record Root (at : ℕ → Option PortNode) (n : PortNode) (high : Bool) (t : Tree) : Type 0 where
  pub below : Tree
  pub other : Tree
  pub is : t ≡ forked n.port n.kind high below other
  pub below_stands : Stands at (child n high) below
  pub other_stands : Stands at (child n (not high)) other

pub root : (at : ℕ → Option PortNode) (i : ℕ) (n : PortNode) (high : Bool) (t : Tree) → at i ≡ Some n → Stands at (Some i) t → Root at n high t
root at i n high Leaf there s = absurd (cc)
root at i n high (Fork p kind low up) there s =
    let (j, m, link, is, port, kind_is, low_stands, up_stands) = s in
    let same : m ≡ n = same_Some m n (sym is ∙ ap at (sym (same_Some i j link)) ∙ there) in
    let P : PortNode → Type 0 = λ x. Root at x high (Fork p kind low up) in
    subst P same (sides high p kind low up m port kind_is low_stands up_stands)
  where
    sides : (high : Bool) (p : PortPrefix) (kind : Option Kind) (low up : Tree) (m : PortNode) → m.port ≡ p → m.kind ≡ kind → Stands at m.low low → Stands at m.high up → Root at m high (Fork p kind low up)
    sides true p kind low up m port kind_is a b = record { below = up; other = low; is = λ x. Fork (sym port x) (sym kind_is x) low up; below_stands = b; other_stands = a }
    sides false p kind low up m port kind_is a b = record { below = low; other = up; is = λ x. Fork (sym port x) (sym kind_is x) low up; below_stands = a; other_stands = b }

-- a link leads to a node where a tree stands
pub there_is : (at : ℕ → Option PortNode) (i : ℕ) (t : Tree) → Stands at (Some i) t → (n : PortNode) × (at i ≡ Some n)
there_is at i Leaf s = absurd (cc)
there_is at i (Fork p kind low high) s =
    let (j, m, link, is, _, _, _, _) = s in
    (m, ap at (same_Some i j link) ∙ is)

pub in_use : (at : ℕ → Option PortNode) (i : ℕ) (t : Tree) → Stands at (Some i) t → IsSome (at i)
in_use at i t s = let (n, is) = there_is at i t s in ap is_some is

pub linked_is_fork : (at : ℕ → Option PortNode) (i : ℕ) (t : Tree) → Stands at (Some i) t → IsFork t
linked_is_fork at i Leaf s = absurd (cc)
linked_is_fork at i (Fork p kind low high) s = tt

pub unlinked_is_leaf : (at : ℕ → Option PortNode) (t : Tree) → Stands at None t → t ≡ Leaf
unlinked_is_leaf at Leaf s = refl
unlinked_is_leaf at (Fork p kind low high) s = let (j, m, link, _, _, _, _, _) = s in absurd (cc)

-- a tree of a node and what stands on its sides
pub Stands-with_child : (at : ℕ → Option PortNode) (i : ℕ) (n : PortNode) (high : Bool) (x : Option ℕ) (below other : Tree) → at i ≡ Some (with_child n high x)
    → Stands at x below → Stands at (child n (not high)) other → Stands at (Some i) (forked n.port n.kind high below other)
Stands-with_child at i n true x below other there b o = (i, _, refl, there, refl, refl, o, b)
Stands-with_child at i n false x below other there b o = (i, _, refl, there, refl, refl, b, o)

pub Stands-node_of : (at : ℕ → Option PortNode) (i : ℕ) (port : PortPrefix) (kind : Option Kind) (high : Bool) (x y : Option ℕ) (below other : Tree)
    → at i ≡ Some (node_of port kind high x y) → Stands at x below → Stands at y other → Stands at (Some i) (forked port kind high below other)
Stands-node_of at i port kind true x y below other there b o = (i, _, refl, there, refl, refl, o, b)
Stands-node_of at i port kind false x y below other there b o = (i, _, refl, there, refl, refl, b, o)

-- a change of one node leaves the nodes of each place where that node doesn't belong
pub kept_by_write : (old new : Pool PortNode) (i : ℕ) (slot : Option PortNode) (n : PortNode) → node_at old i ≡ Some n → Updates old new i slot
    → (lo hi len : ℕ) → (Inside n.port lo hi len → ⊥) → (j : ℕ) (m : PortNode) → node_at old j ≡ Some m → Inside m.port lo hi len → node_at new j ≡ Some m
kept_by_write old new i slot n there u lo hi len never j m at_j inside =
    let P : PortNode → Type 0 = λ x. Inside x.port lo hi len in
    u.others j (λ same. never (subst P (same_Some m n (sym at_j ∙ ap (node_at old) same ∙ there)) inside)) ∙ at_j

-- and a new node leaves all others
pub apart_from_free : (old : Pool PortNode) (i j : ℕ) (m : PortNode) → node_at old i ≡ None → node_at old j ≡ Some m → j ≢ i
apart_from_free old i j m free at_j same = differ (sym at_j ∙ ap (node_at old) same ∙ free)
  where
    differ : Some m ≡ None → ⊥
    differ e = cc

pub kept_by_put : (old new : Pool PortNode) (i : ℕ) (slot : Option PortNode) → node_at old i ≡ None → Updates old new i slot
    → (j : ℕ) (m : PortNode) → node_at old j ≡ Some m → node_at new j ≡ Some m
kept_by_put old new i slot free u j m at_j = u.others j (apart_from_free old i j m free at_j) ∙ at_j

-- a node that doesn't belong to a place is none that does
pub apart_from_inner : (old : Pool PortNode) (i j : ℕ) (n m : PortNode) (lo hi len : ℕ) → node_at old i ≡ Some n → Inside n.port lo hi len
    → node_at old j ≡ Some m → (Inside m.port lo hi len → ⊥) → j ≢ i
apart_from_inner old i j n m lo hi len there inside at_j never same =
    let P : PortNode → Type 0 = λ x. Inside x.port lo hi len in
    never (subst P (same_Some n m (sym there ∙ ap (node_at old) (sym same) ∙ at_j)) inside)

-- a prefix doesn't belong below itself
pub not_below : (p : PortPrefix) (lo hi : ℕ) → Inside p lo hi (p.len + 1) → ⊥
not_below p lo hi inside = omega (arith, inside.2)

-- ---- how deep a link still leads
abbrev pub depth_of : Option PortNode → ℕ
depth_of None = 0
depth_of (Some n) = 17 - n.port.len

abbrev pub depth : Pool PortNode → Option ℕ → ℕ
depth p None = 0
depth p (Some i) = depth_of (node_at p i)

pub depth_within : (p : Pool PortNode) (t : Tree) (link : Option ℕ) (lo hi len : ℕ) → len ≤ 17 → Fits t lo hi len → Stands (node_at p) link t → depth p link ≤ 17 - len
depth_within p Leaf link lo hi len short fits s = rw s (omega arith)
depth_within p (Fork f kind low high) link lo hi len short fits s =
    let (i, n, is, there, port, _, _, _) = s in
    let e : depth p link ≡ 17 - n.port.len = ap (depth p) is ∙ ap depth_of there in
    let lens = ap (λ (x : PortPrefix). x.len) port in
    let l = fits.0.2 in
    omega arith

-- it leads less deep from a node's link than to the node
pub depth_below : (p : Pool PortNode) (i : ℕ) (n : PortNode) (x : Option ℕ) (t : Tree) (lo hi : ℕ) → node_at p i ≡ Some n → Fits t lo hi (n.port.len + 1) → Stands (node_at p) x t
    → depth p x < depth p (Some i)
depth_below p i n x t lo hi there fits s =
    let short = n.port.short in
    let e : depth p (Some i) ≡ 17 - n.port.len = ap depth_of there in
    let d = depth_within p t x lo hi (n.port.len + 1) (omega arith) fits s in
    omega arith
