-- A step of a walk from one node down to the next.
use Rattle.std.proofs.Common.{◌≡◌, ℕ, ◌+◌, ◌<◌, Bool, true, false, Option, Some, None, refl, sym, ap, subst, ◌∙◌, inl, inr, arith}
use Rattle.std.specs.Option.{option_or}
use Rattle.std.proofs.lemmas.Bool.{cases_lt, both_ways, leb-true, le-leb}
use Rattle.pol_arena.specs.Pool.{Pool, node_at}
use Rattle.pol_ports.specs.declared.PortPrefix.{PortPrefix}
use Rattle.pol_ports.specs.PortPrefix.{same_prefix, prefix_holds}
use Rattle.pol_ports.proofs.Same.{same_prefix-is}
use Rattle.pol_mapkey.specs.declared.Kind.{Kind}
use Rattle.pol_trie.specs.declared.node.PortNode.{PortNode}
use Rattle.pol_trie.specs.Tree.{Tree, is_upper, middle, kind_in, walk, visits, Fits, IsTight}
use Rattle.pol_trie.specs.Links.{child}
use Rattle.pol_trie.specs.Standing.{Holds, IsWell}
use Rattle.pol_trie.proofs.Prefixes.{half_lo, half_hi, same_from}
use Rattle.pol_trie.proofs.Trees.{forked, forked-Fits, forked-IsTight, kind_in-here, kind_in-low, kind_in-high}
use Rattle.pol_trie.proofs.Stand.{root, depth, depth_below, unlinked_is_leaf}
use Rattle.pol_trie.proofs.Walking.{walk-forked, visits-forked, walk-ends, visits-ends}

-- what stands below a node on a side
pub record Below (p : Pool PortNode) (n : PortNode) (high : Bool) (t : Tree) : Type 0 where
  pub below : Tree
  pub other : Tree
  pub is : t ≡ forked n.port n.kind high below other
  pub holds : Holds p (child n high) below (half_lo n.port high) (half_hi n.port high) (n.port.len + 1)

pub below_of : (p : Pool PortNode) (i : ℕ) (n : PortNode) (high : Bool) (t : Tree) (lo hi len : ℕ) → node_at p i ≡ Some n → Holds p (Some i) t lo hi len → Below p n high t
below_of p i n high t lo hi len there h =
    let r = root (node_at p) i n high t there h.stands in
    let F : Tree → Type 0 = λ x. Fits x lo hi len in
    let f = forked-Fits n.port n.kind high r.below r.other lo hi len (subst F r.is h.fits) in
    let k = forked-IsTight n.port n.kind high r.below r.other (subst IsTight r.is h.tight) in
    record { below = r.below; other = r.other; is = r.is; holds = record { stands = r.below_stands; fits = f.1; tight = k.1 } }

pub well_below : (p : Pool PortNode) (i : ℕ) (n : PortNode) (high : Bool) → node_at p i ≡ Some n → IsWell p (Some i) → IsWell p (child n high)
well_below p i n high there w =
    let b = below_of p i n high w.tree w.lo w.hi w.len there w.holds in
    record { tree = b.below; lo = half_lo n.port high; hi = half_hi n.port high; len = n.port.len + 1; holds = b.holds }

pub shallower : (p : Pool PortNode) (i : ℕ) (n : PortNode) (high : Bool) → node_at p i ≡ Some n → IsWell p (Some i) → depth p (child n high) < depth p (Some i)
shallower p i n high there w =
    let b = below_of p i n high w.tree w.lo w.hi w.len there w.holds in
    depth_below p i n (child n high) b.below (half_lo n.port high) (half_hi n.port high) there b.holds.fits b.holds.stands

-- ---- toward a prefix
-- the prefix has the same kind in the tree that stands below this link
pub record Way (p : Pool PortNode) (link : Option ℕ) (port : PortPrefix) (t : Tree) : Type 0 where
  pub tree : Tree
  pub lo : ℕ
  pub hi : ℕ
  pub len : ℕ
  pub holds : Holds p link tree lo hi len
  pub same : kind_in t port ≡ kind_in tree port

abbrev pub LeadsTo : Pool PortNode → Option ℕ → Option ℕ → PortPrefix → Type 0
LeadsTo p start link port = (t : Tree) (lo hi len : ℕ) → Holds p start t lo hi len → Way p link port t

pub way_starts : (p : Pool PortNode) (link : Option ℕ) (port : PortPrefix) → LeadsTo p link link port
way_starts p link port t lo hi len h = record { tree = t; lo = lo; hi = hi; len = len; holds = h; same = refl }

pub kind_in-side : (p : PortPrefix) (kind : Option Kind) (high : Bool) (below other : Tree) (q : PortPrefix) → same_prefix p q ≡ false → is_upper p q.bits ≡ high
    → kind_in (forked p kind high below other) q ≡ kind_in below q
kind_in-side p kind true below other q differs e =
    kind_in-high p kind other below q (λ same. both_ways _ differs (same_from p q same)) (leb-true (middle p) q.bits e)
kind_in-side p kind false below other q differs e =
    kind_in-low p kind below other q (λ same. both_ways _ differs (same_from p q same))
    (elim (cases_lt q.bits (middle p)) [ inl l ↦ l | inr g ↦ absurd (both_ways _ e (le-leb (middle p) q.bits g)) ])

pub way_on : (p : Pool PortNode) (start : Option ℕ) (i : ℕ) (n : PortNode) (port : PortPrefix) (high : Bool) → high ≡ is_upper n.port port.bits → node_at p i ≡ Some n → same_prefix n.port port ≡ false
    → LeadsTo p start (Some i) port → LeadsTo p start (child n high) port
way_on p start i n port high e there differs leads t lo hi len h =
    let w = leads t lo hi len h in
    let b = below_of p i n high w.tree w.lo w.hi w.len there w.holds in
    record {
      tree = b.below;
      lo = half_lo n.port high;
      hi = half_hi n.port high;
      len = n.port.len + 1;
      holds = b.holds;
      same = w.same ∙ ap (λ x. kind_in x port) b.is ∙ kind_in-side n.port n.kind high b.below b.other port differs (sym e);
    }

pub way_ends : (p : Pool PortNode) (start : Option ℕ) (i : ℕ) (n : PortNode) (port : PortPrefix) → node_at p i ≡ Some n → same_prefix n.port port ≡ true
    → LeadsTo p start (Some i) port → (t : Tree) (lo hi len : ℕ) → Holds p start t lo hi len → n.kind ≡ kind_in t port
way_ends p start i n port there same leads t lo hi len h =
    let w = leads t lo hi len h in
    let b = below_of p i n false w.tree w.lo w.hi w.len there w.holds in
    sym (w.same ∙ ap (λ x. kind_in x port) b.is ∙ kind_in-here n.port n.kind b.below b.other port (same_prefix-is n.port port same))

pub way_is_over : (p : Pool PortNode) (start : Option ℕ) (port : PortPrefix) → LeadsTo p start None port
    → (t : Tree) (lo hi len : ℕ) → Holds p start t lo hi len → None ≡ kind_in t port
way_is_over p start port leads t lo hi len h =
    let w = leads t lo hi len h in
    sym (w.same ∙ ap (λ x. kind_in x port) (unlinked_is_leaf (node_at p) w.tree w.holds.stands))

-- ---- toward a port
-- a walk from the start comes here with what it found, after so many steps
pub record Walk (p : Pool PortNode) (link : Option ℕ) (port : ℕ) (best : Option Kind) (before after : ℕ) (t : Tree) : Type 0 where
  pub tree : Tree
  pub lo : ℕ
  pub hi : ℕ
  pub len : ℕ
  pub holds : Holds p link tree lo hi len
  pub same : walk t port None ≡ walk tree port best
  pub cost : after + visits tree port ≡ before + visits t port

abbrev pub WalksTo : Pool PortNode → Option ℕ → Option ℕ → ℕ → Option Kind → ℕ → ℕ → Type 0
WalksTo p start link port best before after = (t : Tree) (lo hi len : ℕ) → Holds p start t lo hi len → Walk p link port best before after t

pub walk_starts : (p : Pool PortNode) (link : Option ℕ) (port before : ℕ) → WalksTo p link link port None before before
walk_starts p link port before t lo hi len h = record { tree = t; lo = lo; hi = hi; len = len; holds = h; same = refl; cost = refl }

pub walk_on : (p : Pool PortNode) (start : Option ℕ) (i : ℕ) (n : PortNode) (port : ℕ) (best : Option Kind) (before after : ℕ) (high : Bool) → high ≡ is_upper n.port port → node_at p i ≡ Some n → prefix_holds n.port port ≡ true
    → WalksTo p start (Some i) port best before after → WalksTo p start (child n high) port (option_or n.kind best) before (after + 1)
walk_on p start i n port best before after high e there has walks t lo hi len h =
    let w = walks t lo hi len h in
    let b = below_of p i n high w.tree w.lo w.hi w.len there w.holds in
    let v = ap (λ x. visits x port) b.is ∙ visits-forked n.port n.kind high b.below b.other port has (sym e) in
    record {
      tree = b.below;
      lo = half_lo n.port high;
      hi = half_hi n.port high;
      len = n.port.len + 1;
      holds = b.holds;
      same = w.same ∙ ap (λ x. walk x port best) b.is ∙ walk-forked n.port n.kind high b.below b.other port best has (sym e);
      cost = omega (arith, w.cost, v);
    }

-- what it found, where the node's prefix hasn't the port
pub walk_stops : (p : Pool PortNode) (start : Option ℕ) (i : ℕ) (n : PortNode) (port : ℕ) (best : Option Kind) (before after : ℕ) → node_at p i ≡ Some n → prefix_holds n.port port ≡ false
    → WalksTo p start (Some i) port best before after → (t : Tree) (lo hi len : ℕ) → Holds p start t lo hi len
    → (best ≡ walk t port None) × (after + 1 ≡ before + visits t port)
walk_stops p start i n port best before after there hasn't walks t lo hi len h =
    let w = walks t lo hi len h in
    let b = below_of p i n false w.tree w.lo w.hi w.len there w.holds in
    let v = ap (λ x. visits x port) b.is ∙ visits-ends n.port n.kind b.below b.other port hasn't in (
      sym (w.same ∙ ap (λ x. walk x port best) b.is ∙ walk-ends n.port n.kind b.below b.other port best hasn't),
      omega (arith, w.cost, v),
    )

pub walk_is_over : (p : Pool PortNode) (start : Option ℕ) (port : ℕ) (best : Option Kind) (before after : ℕ)
    → WalksTo p start None port best before after → (t : Tree) (lo hi len : ℕ) → Holds p start t lo hi len
    → (best ≡ walk t port None) × (after ≡ before + visits t port)
walk_is_over p start port best before after walks t lo hi len h =
    let w = walks t lo hi len h in
    let leaf = unlinked_is_leaf (node_at p) w.tree w.holds.stands in
    (sym (w.same ∙ ap (λ x. walk x port best) leaf), omega (arith, w.cost, ap (λ x. visits x port) leaf))
