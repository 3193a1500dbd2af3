-- A trie that is copied to another pool.
use Rattle.std.proofs.Common.{◌≡◌, ℕ, ◌+◌, ◌-◌, ◌≤◌, ◌^◌, false, Option, Some, None, refl, sym, ap, subst, ◌∙◌, arith}
use Rattle.pol_arena.specs.Pool.{Pool, node_at, nodes_in_use, Updates}
use Rattle.pol_ports.specs.declared.PortPrefix.{PortPrefix}
use Rattle.pol_ports.specs.PortPrefix.{end_of}
use Rattle.pol_mapkey.specs.declared.Kind.{Kind}
use Rattle.pol_trie.specs.declared.node.PortNode.{PortNode}
use Rattle.pol_trie.specs.Tree.{Tree, Fork, middle, Fits, IsTight, node_count}
use Rattle.pol_trie.specs.Links.{node_of}
use Rattle.pol_trie.specs.Standing.{Stands, Holds, IsWell, FitsInto, Copies, IsTrie, ports_of}
use Rattle.pol_trie.proofs.Trees.{forked-Fits, forked-IsTight}
use Rattle.pol_trie.proofs.Stand.{root, Stands-kept, Stands-node_of, kept_by_put, unlinked_is_leaf}
use Rattle.pol_trie.proofs.Listing.{get-ports_of, ports_of-is}

-- what stands on both sides of a node
pub record Sides (p : Pool PortNode) (n : PortNode) (t : Tree) : Type 0 where
  pub low : Tree
  pub high : Tree
  pub is : t ≡ Fork n.port n.kind low high
  pub count : node_count t ≡ 1 + node_count low + node_count high
  pub low_holds : Holds p n.low low n.port.bits (middle n.port) (n.port.len + 1)
  pub high_holds : Holds p n.high high (middle n.port) (end_of n.port) (n.port.len + 1)

pub sides_of : (p : Pool PortNode) (i : ℕ) (n : PortNode) (t : Tree) (lo hi len : ℕ) → node_at p i ≡ Some n → Holds p (Some i) t lo hi len → Sides p n t
sides_of p i n t lo hi len there h =
    let r = root (node_at p) i n false t there h.stands in
    let F : Tree → Type 0 = λ x. Fits x lo hi len in
    let f = forked-Fits n.port n.kind false r.below r.other lo hi len (subst F r.is h.fits) in
    let k = forked-IsTight n.port n.kind false r.below r.other (subst IsTight r.is h.tight) in
    record {
      low = r.below;
      high = r.other;
      is = r.is;
      count = ap node_count r.is;
      low_holds = record { stands = r.below_stands; fits = f.1; tight = k.1 };
      high_holds = record { stands = r.other_stands; fits = f.2; tight = k.2 };
    }

-- each tree that stands below the one link is copied
abbrev pub CopiesAll : Pool PortNode → Option ℕ → Pool PortNode → Pool PortNode → Option ℕ → Type 0
CopiesAll from at old new link = (t : Tree) (lo hi len : ℕ) → Holds from at t lo hi len → Copies old new link t

pub copies_at : (from : Pool PortNode) (at at' : Option ℕ) (old new : Pool PortNode) (link : Option ℕ) → at ≡ at' → CopiesAll from at old new link → CopiesAll from at' old new link
copies_at from at at' old new link is done = (let D : Option ℕ → Type 0 = λ o. CopiesAll from o old new link in subst D is done)

pub fits_at : (from : Pool PortNode) (at at' : Option ℕ) (to : Pool PortNode) → at ≡ at' → FitsInto from at to → FitsInto from at' to
fits_at from at at' to is w = (let D : Option ℕ → Type 0 = λ o. FitsInto from o to in subst D is w)

pub well_of : (from : Pool PortNode) (at : Option ℕ) (to : Pool PortNode) → FitsInto from at to → IsWell from at
well_of from at to w = record { tree = w.tree; lo = w.lo; hi = w.hi; len = w.len; holds = w.holds }

-- nothing is copied where nothing stands
pub copies_none : (from to : Pool PortNode) (at : Option ℕ) → at ≡ None → CopiesAll from at to to None
copies_none from to at is t lo hi len h =
    let P : Option ℕ → Type 0 = λ o. Stands (node_at from) o t in
    let C : Tree → Type 0 = λ x. Copies to to None x in
    subst C (sym (unlinked_is_leaf (node_at from) t (subst P is h.stands)))
    (record { stands = refl; count = omega arith; spare = omega arith; others = λ i n there. there })

module _ (from : Pool PortNode) (i : ℕ) (n : PortNode) (there : node_at from i ≡ Some n) (old : Pool PortNode) (w : FitsInto from (Some i) old) where
  pub fits_low : FitsInto from n.low old
  fits_low =
      let s = sides_of from i n w.tree w.lo w.hi w.len there w.holds in
      record { tree = s.low; lo = n.port.bits; hi = middle n.port; len = n.port.len + 1; holds = s.low_holds; room = omega (arith, s.count, w.room) }

  -- the lower side is copied, and then the upper one
  pub fits_high : (mid : Pool PortNode) (low : Option ℕ) → CopiesAll from n.low old mid low → FitsInto from n.high mid
  fits_high mid low done =
      let s = sides_of from i n w.tree w.lo w.hi w.len there w.holds in
      let a = done s.low n.port.bits (middle n.port) (n.port.len + 1) s.low_holds in
      record { tree = s.high; lo = middle n.port; hi = end_of n.port; len = n.port.len + 1; holds = s.high_holds; room = omega (arith, s.count, w.room, a.spare) }

  module _ (mid new : Pool PortNode) (low high : Option ℕ) (low_done : CopiesAll from n.low old mid low) (high_done : CopiesAll from n.high mid new high) where
    low_stands : (t : Tree) → Holds from n.low t n.port.bits (middle n.port) (n.port.len + 1)
        → (u : Tree) → Holds from n.high u (middle n.port) (end_of n.port) (n.port.len + 1) → Stands (node_at new) low t
    low_stands t h u g =
        let a = low_done t n.port.bits (middle n.port) (n.port.len + 1) h in
        let b = high_done u (middle n.port) (end_of n.port) (n.port.len + 1) g in
        Stands-kept t (node_at mid) (node_at new) low n.port.bits (middle n.port) (n.port.len + 1) h.fits (λ j x is _. b.others j x is) a.stands

    pub low_is_well : IsWell new low
    low_is_well =
        let s = sides_of from i n w.tree w.lo w.hi w.len there w.holds in
        let h = s.low_holds in
        record {
          tree = s.low;
          lo = n.port.bits;
          hi = middle n.port;
          len = n.port.len + 1;
          holds = record { stands = low_stands s.low h s.high s.high_holds; fits = h.fits; tight = h.tight };
        }

    pub high_is_well : IsWell new high
    high_is_well =
        let s = sides_of from i n w.tree w.lo w.hi w.len there w.holds in
        let h = s.high_holds in
        let b = high_done s.high (middle n.port) (end_of n.port) (n.port.len + 1) h in
        record { tree = s.high; lo = middle n.port; hi = end_of n.port; len = n.port.len + 1; holds = record { stands = b.stands; fits = h.fits; tight = h.tight } }

    pub room_left : 1 ≤ new.spare
    room_left =
        let s = sides_of from i n w.tree w.lo w.hi w.len there w.holds in
        let a = low_done s.low n.port.bits (middle n.port) (n.port.len + 1) s.low_holds in
        let b = high_done s.high (middle n.port) (end_of n.port) (n.port.len + 1) s.high_holds in
        omega (arith, s.count, w.room, a.spare, b.spare)

    -- and the node itself last
    pub copies_node : (last : Pool PortNode) (j : ℕ) (port : PortPrefix) (kind : Option Kind) → port ≡ n.port → kind ≡ n.kind → node_at new j ≡ None
        → Updates new last j (Some (node_of port kind false low high)) → nodes_in_use last ≡ nodes_in_use new + 1 → last.spare ≡ new.spare - 1
        → CopiesAll from (Some i) old last (Some j)
    copies_node last j port kind port_is kind_is free u more less t lo hi len h =
        let s = sides_of from i n t lo hi len there h in
        let a = low_done s.low n.port.bits (middle n.port) (n.port.len + 1) s.low_holds in
        let b = high_done s.high (middle n.port) (end_of n.port) (n.port.len + 1) s.high_holds in
        let keep = kept_by_put new last j (Some (node_of port kind false low high)) free u in
        let l = Stands-kept s.low (node_at new) (node_at last) low n.port.bits (middle n.port) (n.port.len + 1) s.low_holds.fits (λ k x is _. keep k x is) (low_stands s.low s.low_holds s.high s.high_holds) in
        let r = Stands-kept s.high (node_at new) (node_at last) high (middle n.port) (end_of n.port) (n.port.len + 1) s.high_holds.fits (λ k x is _. keep k x is) b.stands in
        let S : Tree → Type 0 = λ x. Stands (node_at last) (Some j) x in
        let same : Fork port kind s.low s.high ≡ t = (λ x. Fork (port_is x) (kind_is x) s.low s.high) ∙ sym s.is in
        record {
          stands = subst S same (Stands-node_of (node_at last) j port kind false low high s.low s.high u.changed l r);
          count = omega (arith, s.count, a.count, b.count, more);
          spare = omega (arith, s.count, a.spare, b.spare, less, room_left);
          others = λ k x is. keep k x (b.others k x (a.others k x is));
        }

-- ---- a whole trie
pub fits_into : (from : Pool PortNode) (at : Option ℕ) (w : IsTrie from at) (to : Pool PortNode) → nodes_in_use from ≤ to.spare → FitsInto from at to
fits_into from at w to room = record { tree = w.tree; lo = 0; hi = 2 ^ 16; len = 0; holds = w.holds; room = omega (arith, room, w.count) }

pub trie_copied : (from : Pool PortNode) (at : Option ℕ) (w : IsTrie from at) (old new : Pool PortNode) (link : Option ℕ) → nodes_in_use old ≡ 0 → CopiesAll from at old new link → IsTrie new link
trie_copied from at w old new link none done =
    let c = done w.tree 0 (2 ^ 16) 0 w.holds in
    record { tree = w.tree; holds = record { stands = c.stands; fits = w.holds.fits; tight = w.holds.tight }; count = omega (arith, none, c.count) }

pub ports_copied : (from : Pool PortNode) (at : Option ℕ) (w : IsTrie from at) (old new : Pool PortNode) (link : Option ℕ) → nodes_in_use old ≡ 0 → CopiesAll from at old new link → ports_of new link ≡ ports_of from at
unfolding trie_copied
ports_copied from at w old new link none done =
    ports_of-is new link (trie_copied from at w old new link none done) (ports_of from at) (λ q. sym (get-ports_of from at w q))
