-- The tree of a pool as a finite map.
use Rattle.std.proofs.Common.{◌≡◌, ℕ, zero, suc, ◌+◌, ◌<◌, ◌≤◌, ◌^◌, Bool, true, false, cond, if◌then◌else◌, List, [], ◌∷◌, ◌++◌, Option, Some, None, refl, sym, ap, subst, ◌∙◌, arith}
use Rattle.std.specs.FinMap as map
use Rattle.std.specs.Ordering.{eq_by_cmp}
use Rattle.std.specs.declared.cmp.Ordering.{Ordering}
use Rattle.pol_arena.specs.Pool.{Pool, node_at, nodes_in_use}
use Rattle.pol_ports.specs.declared.PortPrefix.{PortPrefix}
use Rattle.pol_ports.specs.PortPrefix.{end_of, same_prefix, prefix_cmp}
use Rattle.pol_ports.proofs.Same.{same_prefix-is}
use Rattle.pol_mapkey.specs.declared.Kind.{Kind}
use Rattle.pol_mapkey.proofs.KeyOrder.{prefix_cmp_total, prefix_cmp-same}
use Rattle.pol_trie.specs.declared.node.PortNode.{PortNode}
use Rattle.pol_trie.specs.PortMap.{PortMap, Decides}
use Rattle.pol_trie.specs.Tree.{Tree, Leaf, Fork, middle, kind_in, walk, Fits, listed, entry_before, node_count}
use Rattle.pol_trie.specs.Standing.{Stands, IsTrie, HasRoom, Becomes, tree_of, tree_under, tree_at, ports_of}
use Rattle.pol_trie.proofs.Ties.{tied_prefixes}
use Rattle.pol_trie.proofs.Prefixes.{takes_all}
use Rattle.pol_trie.proofs.Putting.{with_kind}
use Rattle.pol_trie.proofs.Sizes.{node_count-below}
use Rattle.pol_trie.proofs.Walking.{decided}
use Rattle.pol_trie.proofs.Trees.{first_some, outside, kind_in-forked}

-- ---- what is found in a list made of two
-- the first of two that is there
abbrev pub either : {A : Type 0} → Option A → Option A → Option A
either None o = o
either (Some x) o = Some x

find_first : {A : Type 0} (b : Bool) (v : A) (rest x y : Option A) → rest ≡ either x y → cond b (Some v) rest ≡ either (cond b (Some v) x) y
find_first true v rest x y e = refl
find_first false v rest x y e = e

pub find-either : {K X : Type 0} (R : K → K → Ordering) (xs ys : List (K × X)) (q : K) → map.find R q (xs ++ ys) ≡ either (map.find R q xs) (map.find R q ys)
find-either R [] ys q = refl
find-either R (e ∷ xs) ys q = find_first (eq_by_cmp R q e.0) e.1 (map.find R q (xs ++ ys)) (map.find R q xs) (map.find R q ys) (find-either R xs ys q)

either_first : (x y : Option Kind) → either x y ≡ first_some x y
either_first None y = refl
either_first (Some k) y = refl

-- the list has the kinds of the tree
pub find-listed : (t : Tree) (lo hi len : ℕ) → Fits t lo hi len → (q : PortPrefix) → map.find prefix_cmp q (listed t) ≡ kind_in t q
find-listed Leaf lo hi len fits q = refl
find-listed (Fork p kind low high) lo hi len fits q =
    own kind (find-listed low p.bits (middle p) (p.len + 1) fits.1 q) (find-listed high (middle p) (end_of p) (p.len + 1) fits.2 q)
    ∙ sym (kind_in-forked p kind false low high fits.1 fits.2 q)
  where
    sides : map.find prefix_cmp q (listed low) ≡ kind_in low q → map.find prefix_cmp q (listed high) ≡ kind_in high q → map.find prefix_cmp q (listed low ++ listed high) ≡ first_some (kind_in low q) (kind_in high q)
    sides a b =
        find-either prefix_cmp (listed low) (listed high) q
        ∙ either_first (map.find prefix_cmp q (listed low)) (map.find prefix_cmp q (listed high))
        ∙ (λ i. first_some (a i) (b i))

    none_there : same_prefix p q ≡ true → first_some (kind_in low q) (kind_in high q) ≡ None
    none_there t =
        let lens = ap (λ (x : PortPrefix). x.len) (same_prefix-is p q t) in
        λ i. first_some (outside low p.bits (middle p) (p.len + 1) fits.1 q (λ inside. omega (arith, inside.2)) i)
        (outside high (middle p) (end_of p) (p.len + 1) fits.2 q (λ inside. omega (arith, inside.2)) i)

    nothing : (s : Bool) (x : Option Kind) → (s ≡ true → x ≡ None) → x ≡ (if s then None else x)
    nothing true x h = h refl
    nothing false x h = refl

    own : (kind : Option Kind) → map.find prefix_cmp q (listed low) ≡ kind_in low q → map.find prefix_cmp q (listed high) ≡ kind_in high q → map.find prefix_cmp q (entry_before p kind (listed low ++ listed high)) ≡ (if same_prefix p q then kind else first_some (kind_in low q) (kind_in high q))
    own None a b = sides a b ∙ nothing (same_prefix p q) (first_some (kind_in low q) (kind_in high q)) none_there
    own (Some k) a b =
        ap (λ b. cond b (Some k) (map.find prefix_cmp q (listed low ++ listed high))) (tied_prefixes p q)
        ∙ ap (λ x. if same_prefix p q then Some k else x) (sides a b)

-- ---- the tree that is read is the one that stands there
pub tree_at-stands : (t : Tree) (depth : ℕ) (at : ℕ → Option PortNode) (link : Option ℕ) (lo hi len : ℕ) → Fits t lo hi len → 17 ≤ depth + len → Stands at link t → tree_at depth at link ≡ t
unfolding tree_at
tree_at-stands Leaf zero at link lo hi len fits deep s = refl
tree_at-stands Leaf (suc depth) at link lo hi len fits deep s = ap (tree_under (tree_at depth at) at) s
tree_at-stands (Fork p kind low high) zero at link lo hi len fits deep s = (let l = fits.0.2 in let short = p.short in absurd (omega arith))
tree_at-stands (Fork p kind low high) (suc depth) at link lo hi len fits deep s =
    let (i, n, is, there, port, kind_is, low_stands, high_stands) = s in
    let l = fits.0.2 in
    let a = tree_at-stands low depth at n.low p.bits (middle p) (p.len + 1) fits.1 (omega arith) low_stands in
    let b = tree_at-stands high depth at n.high (middle p) (end_of p) (p.len + 1) fits.2 (omega arith) high_stands in
    ap (tree_under (tree_at depth at) at) is ∙ ap (tree_of (tree_at depth at)) there ∙ (λ x. Fork (port x) (kind_is x) (a x) (b x))

-- ---- the map
pub get-ports_of : (nodes : Pool PortNode) (root : Option ℕ) (w : IsTrie nodes root) (q : PortPrefix) → map.get (ports_of nodes root) q ≡ kind_in w.tree q
unfolding ports_of
get-ports_of nodes root w q =
    map.get-from_entries prefix_cmp_total (listed (tree_at 17 (node_at nodes) root)) q
    ∙ ap (λ t. map.find prefix_cmp q (listed t)) (tree_at-stands w.tree 17 (node_at nodes) root 0 (2 ^ 16) 0 w.holds.fits (omega arith) w.holds.stands)
    ∙ find-listed w.tree 0 (2 ^ 16) 0 w.holds.fits q

same_maps : (m n : PortMap) → ((q : PortPrefix) → map.get m q ≡ map.get n q) → m ≡ n
same_maps = map.same_map prefix_cmp_total prefix_cmp-same

-- a pool whose tree has these kinds is seen as this map
pub ports_of-is : (nodes : Pool PortNode) (root : Option ℕ) (w : IsTrie nodes root) (m : PortMap) → ((q : PortPrefix) → kind_in w.tree q ≡ map.get m q) → ports_of nodes root ≡ m
ports_of-is nodes root w m is = same_maps (ports_of nodes root) m (λ q. get-ports_of nodes root w q ∙ is q)

eq_flip : (p q : PortPrefix) → eq_by_cmp prefix_cmp q p ≡ same_prefix p q
eq_flip = tied_prefixes

pub get-put : (m : PortMap) (p : PortPrefix) (k : Kind) (q : PortPrefix) → map.get (map.insert m p k) q ≡ (if same_prefix p q then Some k else map.get m q)
get-put m p k q = map.get-insert prefix_cmp_total m p k q ∙ ap (λ b. cond b (Some k) (map.get m q)) (eq_flip p q)

pub get-taken : (m : PortMap) (p q : PortPrefix) → map.get (map.remove m p) q ≡ (if same_prefix p q then None else map.get m q)
get-taken m p q = map.get-remove prefix_cmp_total m p q ∙ ap (λ b. cond b None (map.get m q)) (eq_flip p q)

-- ---- a change of one prefix
-- the pool still has a trie
abbrev pub IsTrie-after : (old new : Pool PortNode) (root root' : Option ℕ) (w : IsTrie old root) (kinds : PortPrefix → Option Kind)
    → Becomes old new root' kinds (node_count w.tree) 0 (2 ^ 16) 0 → IsTrie new root'
IsTrie-after old new root root' w kinds b = record { tree = b.tree; holds = b.holds; count = omega (arith, b.count, w.count) }

-- and its map has the prefix's new kind, and each other prefix the kind that it had
ports_after : (old new : Pool PortNode) (root root' : Option ℕ) (w : IsTrie old root) (port : PortPrefix) (value : Option Kind)
    → (b : Becomes old new root' (with_kind port value w.tree) (node_count w.tree) 0 (2 ^ 16) 0) → (q : PortPrefix)
    → map.get (ports_of new root') q ≡ (if same_prefix port q then value else map.get (ports_of old root) q)
ports_after old new root root' w port value b q =
    get-ports_of new root' (IsTrie-after old new root root' w (with_kind port value w.tree) b) q ∙ b.same q
    ∙ ap (λ x. if same_prefix port q then value else x) (sym (get-ports_of old root w q))

pub ports_of-put : (old new : Pool PortNode) (root root' : Option ℕ) (w : IsTrie old root) (port : PortPrefix) (kind : Kind)
    → Becomes old new root' (with_kind port (Some kind) w.tree) (node_count w.tree) 0 (2 ^ 16) 0 → ports_of new root' ≡ map.insert (ports_of old root) port kind
ports_of-put old new root root' w port kind b =
    same_maps (ports_of new root') (map.insert (ports_of old root) port kind) (λ q. ports_after old new root root' w port (Some kind) b q ∙ sym (get-put (ports_of old root) port kind q))

pub ports_of-taken : (old new : Pool PortNode) (root root' : Option ℕ) (w : IsTrie old root) (port : PortPrefix)
    → Becomes old new root' (with_kind port None w.tree) (node_count w.tree) 0 (2 ^ 16) 0 → ports_of new root' ≡ map.remove (ports_of old root) port
ports_of-taken old new root root' w port b =
    same_maps (ports_of new root') (map.remove (ports_of old root) port) (λ q. ports_after old new root root' w port None b q ∙ sym (get-taken (ports_of old root) port q))

-- ---- a pool without a root, and with more room
pub ports_of-none : (nodes : Pool PortNode) → ports_of nodes None ≡ map.empty
unfolding ports_of tree_at
ports_of-none nodes = refl

pub IsTrie-room : (p new : Pool PortNode) (root : Option ℕ) (spare : ℕ) → new ≡ record p { spare = spare } → IsTrie p root → IsTrie new root
IsTrie-room p new root spare e w =
    let P : Pool PortNode → Type 0 = λ x. IsTrie x root in
    let h = w.holds in
    subst P (sym e) (record { tree = w.tree; holds = record { stands = h.stands; fits = h.fits; tight = h.tight }; count = w.count })

pub ports_of-room : (p new : Pool PortNode) (root : Option ℕ) (spare : ℕ) → new ≡ record p { spare = spare } → ports_of new root ≡ ports_of p root
unfolding ports_of
ports_of-room p new root spare e = ap (λ x. ports_of x root) e ∙ same p root spare
  where
    same : (p : Pool PortNode) (root : Option ℕ) (spare : ℕ) → ports_of (record p { spare = spare }) root ≡ ports_of p root
    same p root spare = refl

pub HasRoom-from : (p : Pool PortNode) (root : Option ℕ) (w : IsTrie p root) (port : PortPrefix) → port.bits < 2 ^ 16 → (kind_in w.tree port ≡ None → 2 ≤ p.spare) → HasRoom p root port
HasRoom-from p root w port below room =
    record { tree = w.tree; lo = 0; hi = 2 ^ 16; len = 0; holds = w.holds; takes = takes_all port below; room = room }

-- the pool has far fewer nodes than indices
pub few_nodes : (p : Pool PortNode) (root : Option ℕ) → IsTrie p root → nodes_in_use p < 2 ^ 17
few_nodes p root w = omega (arith, w.count, node_count-below w.tree 0 (2 ^ 16) 0 w.holds.fits (omega arith))

-- what decides by the tree decides by the map
pub Decides-ports : (p : Pool PortNode) (root : Option ℕ) (w : IsTrie p root) (m : PortMap) → ports_of p root ≡ m → (port : ℕ) (r : Option Kind) → r ≡ walk w.tree port None → Decides (map.get m) port r
Decides-ports p root w m is port r found =
    let D : Option Kind → Type 0 = λ x. Decides (map.get m) port x in
    let F : (PortPrefix → Option Kind) → Type 0 = λ f. Decides f port (walk w.tree port None) in
    let same : (q : PortPrefix) → kind_in w.tree q ≡ map.get m q = λ q. sym (get-ports_of p root w q) ∙ ap (λ x. map.get x q) is in
    subst D (sym found) (subst F (λ i q. same q i) (decided w.tree 0 (2 ^ 16) 0 port w.holds.fits))
