-- What a call below a link may rest on.
use Rattle.std.proofs.Common.{◌≡◌, ℕ, ◌+◌, ◌≤◌, Bool, true, false, if◌then◌else◌, Option, Some, None, IsSome, refl, sym, ap, subst, ◌∙◌, arith}
use Rattle.std.proofs.lemmas.Bool.{both_ways}
use Rattle.pol_arena.specs.Pool.{Pool, node_at}
use Rattle.pol_ports.specs.declared.PortPrefix.{PortPrefix}
use Rattle.pol_ports.specs.PortPrefix.{end_of, same_prefix, prefix_contains}
use Rattle.pol_ports.proofs.Containing.{contains_from}
use Rattle.pol_ports.proofs.Same.{same_prefix-is}
use Rattle.pol_mapkey.specs.declared.Kind.{Kind}
use Rattle.pol_trie.specs.declared.node.PortNode.{PortNode}
use Rattle.pol_trie.specs.Tree.{Tree, is_upper, kind_in, Inside, Takes, Fits, node_count}
use Rattle.pol_trie.specs.Links.{child}
use Rattle.pol_trie.specs.Standing.{Stands, Holds, IsWell, HasRoom, IsBelow, IsLoose, Becomes}
use Rattle.pol_trie.proofs.Prefixes.{half_lo, half_hi, inside_longer, not_back, takes_in_half}
use Rattle.pol_trie.proofs.Trees.{forked, outside}
use Rattle.pol_trie.proofs.Stand.{root, in_use, unlinked_is_leaf}
use Rattle.pol_trie.proofs.Putting.{Changed, with_kind}
use Rattle.pol_trie.proofs.Seeking.{below_of, kind_in-side}

pub well_here : (p : Pool PortNode) (link : Option ℕ) (i : ℕ) → link ≡ Some i → IsWell p link → IsWell p (Some i)
well_here p link i is w = (let P : Option ℕ → Type 0 = λ o. IsWell p o in subst P is w)

pub room_here : (p : Pool PortNode) (link : Option ℕ) (i : ℕ) (port : PortPrefix) → link ≡ Some i → HasRoom p link port → HasRoom p (Some i) port
room_here p link i port is w = (let P : Option ℕ → Type 0 = λ o. HasRoom p o port in subst P is w)

pub well_of : (p : Pool PortNode) (link : Option ℕ) (port : PortPrefix) → HasRoom p link port → IsWell p link
well_of p link port w = record { tree = w.tree; lo = w.lo; hi = w.hi; len = w.len; holds = w.holds }

pub used_here : (p : Pool PortNode) (i : ℕ) → IsWell p (Some i) → IsSome (node_at p i)
used_here p i w = in_use (node_at p) i w.tree w.holds.stands

pub used_loosely : (p : Pool PortNode) (i : ℕ) → IsLoose p i → IsSome (node_at p i)
used_loosely p i w = in_use (node_at p) i w.tree w.holds.stands

pub room_at_none : (p : Pool PortNode) (link : Option ℕ) (port : PortPrefix) → link ≡ None → HasRoom p link port → 2 ≤ p.spare
room_at_none p link port none w =
    let P : Option ℕ → Type 0 = λ o. Stands (node_at p) o w.tree in
    w.room (ap (λ t. kind_in t port) (unlinked_is_leaf (node_at p) w.tree (subst P none w.holds.stands)))

-- the first prefix lies where the tree does
pub first_inside : (p : Pool PortNode) (i : ℕ) (n : PortNode) (t : Tree) (lo hi len : ℕ) → node_at p i ≡ Some n → Holds p (Some i) t lo hi len → Inside n.port lo hi len
first_inside p i n t lo hi len there h =
    let r = root (node_at p) i n false t there h.stands in
    let F : Tree → Type 0 = λ x. Fits x lo hi len in
    let f : Fits (forked n.port n.kind false r.below r.other) lo hi len = subst F r.is h.fits in
    f.0

-- where the first prefix doesn't contain a prefix, the tree doesn't have it
pub not_around : (p : Pool PortNode) (i : ℕ) (n : PortNode) (port : PortPrefix) (t : Tree) (lo hi len : ℕ) → node_at p i ≡ Some n → Holds p (Some i) t lo hi len
    → prefix_contains n.port port ≡ false → kind_in t port ≡ None
not_around p i n port t lo hi len there h apart =
    let r = root (node_at p) i n false t there h.stands in
    let F : Tree → Type 0 = λ x. Fits x lo hi len in
    let f : Fits (forked n.port n.kind false r.below r.other) lo hi len = subst F r.is h.fits in
    ap (λ x. kind_in x port) r.is
    ∙ outside (forked n.port n.kind false r.below r.other) n.port.bits (end_of n.port) n.port.len ((omega arith, omega arith, omega arith), f.1, f.2) port
    (λ inside. both_ways _ apart (contains_from n.port port inside.0 inside.1))

pub is_below : (p : Pool PortNode) (i : ℕ) (n : PortNode) (port : PortPrefix) → node_at p i ≡ Some n → HasRoom p (Some i) port → prefix_contains n.port port ≡ false → IsBelow p i n.port port
is_below p i n port there w apart =
    record {
      node = n;
      there = there;
      prefix = refl;
      apart = λ around. both_ways _ apart around;
      room = w.room (not_around p i n port w.tree w.lo w.hi w.len there w.holds apart);
    }

-- a prefix that the first contains, and that differs from it, fits on its side
pub inside_below : (n : PortNode) (port : PortPrefix) → prefix_contains n.port port ≡ true → same_prefix n.port port ≡ false → Inside port n.port.bits (end_of n.port) (n.port.len + 1)
inside_below n port around differs = inside_longer n.port port around (λ back. not_back n.port port differs around back)

pub takes_below : (n : PortNode) (port : PortPrefix) (high : Bool) → high ≡ is_upper n.port port.bits → prefix_contains n.port port ≡ true → same_prefix n.port port ≡ false
    → Takes (half_lo n.port high) (half_hi n.port high) (n.port.len + 1) port
takes_below n port high e around differs =
    let T : Bool → Type 0 = λ b. Takes (half_lo n.port b) (half_hi n.port b) (n.port.len + 1) port in
    subst T (sym e) (takes_in_half n.port port (inside_below n port around differs))

pub room_below : (p : Pool PortNode) (i : ℕ) (n : PortNode) (port : PortPrefix) (high : Bool) → node_at p i ≡ Some n → HasRoom p (Some i) port
    → prefix_contains n.port port ≡ true → same_prefix n.port port ≡ false → high ≡ is_upper n.port port.bits → HasRoom p (child n high) port
room_below p i n port high there w around differs e =
    let b = below_of p i n high w.tree w.lo w.hi w.len there w.holds in
    record {
      tree = b.below;
      lo = half_lo n.port high;
      hi = half_hi n.port high;
      len = n.port.len + 1;
      holds = b.holds;
      takes = takes_below n port high e around differs;
      room = λ none. w.room (ap (λ x. kind_in x port) b.is ∙ kind_in-side n.port n.kind high b.below b.other port differs (sym e) ∙ none);
    }

-- nothing changes where the prefix isn't there
pub absent : (p : Pool PortNode) (link : Option ℕ) (port : PortPrefix) (t : Tree) (lo hi len : ℕ) → Holds p link t lo hi len → kind_in t port ≡ None
    → Becomes p p link (with_kind port None t) (node_count t) lo hi len
absent p link port t lo hi len h none =
    record {
      tree = t;
      holds = h;
      same = λ q. choose (same_prefix port q) (kind_in t q) (λ e. ap (kind_in t) (sym (same_prefix-is port q e)) ∙ none);
      count = refl;
      others = λ j n there _. there;
    }
  where
    choose : (s : Bool) (x : Option Kind) → (s ≡ true → x ≡ None) → x ≡ (if s then None else x)
    choose true x h = h refl
    choose false x h = refl

-- a changed tree stands loosely
pub loose_of : (old new : Pool PortNode) (i : ℕ) (kinds : PortPrefix → Option Kind) (before lo hi len : ℕ) (sure : Type 0) → Changed old new i kinds before lo hi len sure → IsLoose new i
loose_of old new i kinds before lo hi len sure c = record { tree = c.tree; lo = lo; hi = hi; len = len; holds = c.holds }
