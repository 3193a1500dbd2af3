-- What a walk toward a port finds, and how many prefixes it visits.
use Rattle.std.proofs.Common.{◌≡◌, ℕ, ◌+◌, ◌-◌, ◌<◌, ◌≤◌, Bool, true, false, not, nat_lt, if◌then◌else◌, Option, Some, None, is_some, IsSome, refl, sym, ap, subst, ◌∙◌, inl, inr, ◌⊎◌, arith}
use Rattle.std.specs.Option.{option_or}
use Rattle.std.proofs.lemmas.Bool.{cases_lt, cases_Bool, both_ways, leb-true, le-leb, lt-ltb, le-ltb}
use Rattle.pol_ports.specs.declared.PortPrefix.{PortPrefix}
use Rattle.pol_ports.specs.PortPrefix.{end_of, same_prefix, prefix_holds}
use Rattle.pol_ports.proofs.Containing.{holds_is, holds_from}
use Rattle.pol_ports.proofs.Same.{same_prefix-is}
use Rattle.pol_mapkey.specs.declared.Kind.{Kind}
use Rattle.pol_trie.specs.PortMap.{Decides}
use Rattle.pol_trie.specs.Tree.{Tree, Leaf, Fork, is_upper, middle, kind_in, walk, visits, Inside, Fits}
use Rattle.pol_trie.proofs.Prefixes.{half_lo, half_hi, same_from, differs_from}
use Rattle.pol_trie.proofs.Trees.{forked, first_some, within, kind_in-forked, forked-Fits}

or_none : (o : Option Kind) → option_or o None ≡ o
or_none None = refl
or_none (Some kind) = refl

or_three : (a b c : Option Kind) → option_or a (option_or b c) ≡ option_or (option_or a b) c
or_three None b c = refl
or_three (Some kind) b c = refl

-- a port lies in the half on its side
port_in_half : (p : PortPrefix) (port : ℕ) → prefix_holds p port ≡ true → (half_lo p (is_upper p port) ≤ port) × (port < half_hi p (is_upper p port))
port_in_half p port holds = go (is_upper p port) refl
  where
    go : (high : Bool) → is_upper p port ≡ high → (half_lo p high ≤ port) × (port < half_hi p high)
    go true e = (leb-true (middle p) port e, (holds_is p port holds).1)
    go false e =
        ((holds_is p port holds).0, elim (cases_lt port (middle p)) [ inl l ↦ l | inr g ↦ absurd (both_ways _ e (le-leb (middle p) port g)) ])

lower_side : (p : PortPrefix) (port : ℕ) (high : Bool) → is_upper p port ≡ high → nat_lt port (middle p) ≡ not high
lower_side p port true e = le-ltb port (middle p) (leb-true (middle p) port e)
lower_side p port false e = elim (cases_lt port (middle p)) [ inl l ↦ lt-ltb port (middle p) l | inr g ↦ absurd (both_ways _ e (le-leb (middle p) port g)) ]

pick : {A : Type 0} (s : Bool) (high : Bool) (l : Bool) (x y z : A) → s ≡ true → l ≡ not high → (if s then (if l then x else y) else z) ≡ (if high then y else x)
pick true true l x y z s e = rw e
pick true false l x y z s e = rw e
pick false high l x y z s e = cc

-- a walk goes on in the half that has the port
pub walk-forked : (p : PortPrefix) (kind : Option Kind) (high : Bool) (below other : Tree) (port : ℕ) (best : Option Kind) → prefix_holds p port ≡ true → is_upper p port ≡ high
    → walk (forked p kind high below other) port best ≡ walk below port (option_or kind best)
walk-forked p kind true below other port best holds e =
    pick (prefix_holds p port) true (nat_lt port (middle p)) (walk other port (option_or kind best)) (walk below port (option_or kind best)) best holds (lower_side p port true e)
walk-forked p kind false below other port best holds e =
    pick (prefix_holds p port) false (nat_lt port (middle p)) (walk below port (option_or kind best)) (walk other port (option_or kind best)) best holds (lower_side p port false e)

pub visits-forked : (p : PortPrefix) (kind : Option Kind) (high : Bool) (below other : Tree) (port : ℕ) → prefix_holds p port ≡ true → is_upper p port ≡ high
    → visits (forked p kind high below other) port ≡ 1 + visits below port
visits-forked p kind true below other port holds e =
    ap (λ x. 1 + x) (pick (prefix_holds p port) true (nat_lt port (middle p)) (visits other port) (visits below port) 0 holds (lower_side p port true e))
visits-forked p kind false below other port holds e =
    ap (λ x. 1 + x) (pick (prefix_holds p port) false (nat_lt port (middle p)) (visits below port) (visits other port) 0 holds (lower_side p port false e))

stop : {A : Type 0} (s : Bool) (x z : A) → s ≡ false → (if s then x else z) ≡ z
stop true x z e = cc
stop false x z e = refl

-- and ends where the prefix hasn't
pub walk-ends : (p : PortPrefix) (kind : Option Kind) (low high : Tree) (port : ℕ) (best : Option Kind) → prefix_holds p port ≡ false → walk (Fork p kind low high) port best ≡ best
walk-ends p kind low high port best e =
    stop (prefix_holds p port) (if nat_lt port (middle p) then walk low port (option_or kind best) else walk high port (option_or kind best)) best e

pub visits-ends : (p : PortPrefix) (kind : Option Kind) (low high : Tree) (port : ℕ) → prefix_holds p port ≡ false → visits (Fork p kind low high) port ≡ 1
visits-ends p kind low high port e =
    ap (λ x. 1 + x) (stop (prefix_holds p port) (if nat_lt port (middle p) then visits low port else visits high port) 0 e)

-- a fork, seen from the side of a port or prefix
record Seen (p : PortPrefix) (kind : Option Kind) (low high : Tree) (up : Bool) : Type 0 where
  below : Tree
  other : Tree
  is : Fork p kind low high ≡ forked p kind up below other

seen : (p : PortPrefix) (kind : Option Kind) (low high : Tree) (up : Bool) → Seen p kind low high up
seen p kind low high true = record { below = high; other = low; is = refl }
seen p kind low high false = record { below = low; other = high; is = refl }

-- ---- the walk visits at most as many prefixes as lengths are left
at_most : (s l : Bool) (x y n : ℕ) → x ≤ n → y ≤ n → (if s then (if l then x else y) else 0) ≤ n
at_most true true x y n a b = a
at_most true false x y n a b = b
at_most false l x y n a b = omega arith

pub visits_within : (t : Tree) (lo hi len port : ℕ) → Fits t lo hi len → len ≤ 17 → visits t port ≤ 17 - len
visits_within Leaf lo hi len port fits short = omega arith
visits_within (Fork p kind low high) lo hi len port fits short =
    let l = fits.0.2 in
    let s = p.short in
    let a = visits_within low p.bits (middle p) (p.len + 1) port fits.1 (omega arith) in
    let b = visits_within high (middle p) (end_of p) (p.len + 1) port fits.2 (omega arith) in
    let both = at_most (prefix_holds p port) (nat_lt port (middle p)) (visits low port) (visits high port) (17 - (p.len + 1)) a b in
    omega arith

-- ---- what was found before counts where nothing is found
pub walk-or : (t : Tree) (port : ℕ) (best : Option Kind) → walk t port best ≡ option_or (walk t port None) best
walk-or Leaf port best = refl
walk-or (Fork p kind low high) port best =
    choose _ _ _ _ (prefix_holds p port) (nat_lt port (middle p)) (one low (walk-or low port)) (one high (walk-or high port))
  where
    one : (t : Tree) → ((b : Option Kind) → walk t port b ≡ option_or (walk t port None) b) → walk t port (option_or kind best) ≡ option_or (walk t port (option_or kind None)) best
    one t ih = ih (option_or kind best) ∙ or_three (walk t port None) kind best
        ∙ ap (λ x. option_or x best) (ap (option_or (walk t port None)) (sym (or_none kind)) ∙ sym (ih (option_or kind None)))

    choose : (a b a' b' : Option Kind) (s l : Bool) → a ≡ option_or a' best → b ≡ option_or b' best
        → (if s then (if l then a else b) else best) ≡ option_or (if s then (if l then a' else b') else None) best
    choose a b a' b' true true x y = x
    choose a b a' b' true false x y = y
    choose a b a' b' false l x y = refl

-- ---- the last that the walk finds is the kind of the longest prefix that has the port
-- a kind in a fork is its prefix's, or on one of its sides
some_in : (p : PortPrefix) (kind : Option Kind) (high : Bool) (below other : Tree)
    → Fits below (half_lo p high) (half_hi p high) (p.len + 1) → Fits other (half_lo p (not high)) (half_hi p (not high)) (p.len + 1)
    → (q : PortPrefix) → IsSome (kind_in (forked p kind high below other) q) → ((p ≡ q) × IsSome kind) ⊎ (IsSome (kind_in below q) ⊎ IsSome (kind_in other q))
some_in p kind high below other a b q some =
    choose (cases_Bool (same_prefix p q)) (sym (ap is_some (kind_in-forked p kind high below other a b q)) ∙ some)
  where
    either : (x y : Option Kind) → IsSome (first_some x y) → IsSome x ⊎ IsSome y
    either None y s = inr s
    either (Some k) y s = inl refl

    split : (s : Bool) (x y : Option Kind) → IsSome (if s then kind else first_some x y) → ((s ≡ true) × IsSome kind) ⊎ (IsSome x ⊎ IsSome y)
    split true x y h = inl (refl, h)
    split false x y h = inr (either x y h)

    choose : (same_prefix p q ≡ true) ⊎ (same_prefix p q ≡ false) → IsSome (if same_prefix p q then kind else first_some (kind_in below q) (kind_in other q))
        → ((p ≡ q) × IsSome kind) ⊎ (IsSome (kind_in below q) ⊎ IsSome (kind_in other q))
    choose _ h = elim (split (same_prefix p q) (kind_in below q) (kind_in other q) h) [
      | inl own ↦ inl (same_prefix-is p q own.0, own.1)
      | inr rest ↦ inr rest
    ]

port_apart : (p q : PortPrefix) (high : Bool) (port len : ℕ) → (half_lo p high ≤ port) × (port < half_hi p high)
    → Inside q (half_lo p (not high)) (half_hi p (not high)) len → prefix_holds q port ≡ true → ⊥
port_apart p q true port len at inside holds = let h = holds_is q port holds in omega (arith, at.0, inside.1, h.1)
port_apart p q false port len at inside holds = let h = holds_is q port holds in omega (arith, at.1, inside.0, h.0)

step : (p : PortPrefix) (kind : Option Kind) (high : Bool) (below other : Tree) (port : ℕ) (lo hi len : ℕ) → Fits (forked p kind high below other) lo hi len
    → prefix_holds p port ≡ true → (half_lo p high ≤ port) × (port < half_hi p high)
    → (r : Option Kind) → Decides (kind_in below) port r → Decides (kind_in (forked p kind high below other)) port (option_or r kind)
step p kind high below other port lo hi len fits holds at r d = go r kind refl d
  where
    t : Tree
    t = forked p kind high below other

    f : Fits below (half_lo p high) (half_hi p high) (p.len + 1) × Fits other (half_lo p (not high)) (half_hi p (not high)) (p.len + 1)
    f = let x = forked-Fits p kind high below other lo hi len fits in (x.1, x.2)

    not_other : (q : PortPrefix) → IsSome (kind_in other q) → prefix_holds q port ≡ true → ⊥
    not_other q some has = port_apart p q high port (p.len + 1) at (within other _ _ _ f.1 q some) has

    union : (q : PortPrefix) → kind_in (forked p kind high below other) q ≡ (if same_prefix p q then kind else first_some (kind_in below q) (kind_in other q))
    union q = kind_in-forked p kind high below other f.0 f.1 q

    own : (x : Option Kind) (s : Bool) → s ≡ true → (if s then kind else x) ≡ kind
    own x true e = refl
    own x false e = cc

    side_kind : (s : Bool) (x y : Option Kind) (k : Kind) → s ≡ false → x ≡ Some k → (if s then kind else first_some x y) ≡ Some k
    side_kind true x y k e is = cc
    side_kind false x y k e is = ap (λ z. first_some z y) is

    go : (r k : Option Kind) → k ≡ kind → Decides (kind_in below) port r → Decides (kind_in (forked p kind high below other)) port (option_or r k)
    go (Some k) _ _ d =
        let inside = within below _ _ _ f.0 d.prefix (ap is_some d.found) in
        record {
          prefix = d.prefix;
          found = union d.prefix ∙ side_kind (same_prefix p d.prefix) (kind_in below d.prefix) (kind_in other d.prefix) k
              (differs_from p d.prefix (λ e. let lens = ap (λ (x : PortPrefix). x.len) e in omega (arith, inside.2))) d.found;
          holds = d.holds;
          longest = λ q some has.
              elim (some_in p kind high below other f.0 f.1 q some) [
                | inl mine ↦ (let lens = ap (λ (x : PortPrefix). x.len) mine.0 in omega (arith, inside.2))
                | inr rest ↦ elim rest [ inl under ↦ d.longest q under has | inr off ↦ absurd (not_other q off has) ]
              ];
        }
    go None (Some k) is d =
        record {
          prefix = p;
          found = union p ∙ own _ (same_prefix p p) (same_from p p refl) ∙ sym is;
          holds = holds;
          longest = λ q some has.
              elim (some_in p kind high below other f.0 f.1 q some) [
                | inl mine ↦ (let lens = ap (λ (x : PortPrefix). x.len) mine.0 in omega arith)
                | inr rest ↦ elim rest [ inl under ↦ absurd (d q under has) | inr off ↦ absurd (not_other q off has) ]
              ];
        }
    go None None is d = λ q some has.
        elim (some_in p kind high below other f.0 f.1 q some) [
          | inl mine ↦ absurd (no_kind is mine.1)
          | inr rest ↦ elim rest [ inl under ↦ d q under has | inr off ↦ not_other q off has ]
        ]
      where
        no_kind : None ≡ kind → IsSome kind → ⊥
        no_kind e some = absurd (cc)

pub decided : (t : Tree) (lo hi len port : ℕ) → Fits t lo hi len → Decides (kind_in t) port (walk t port None)
decided Leaf lo hi len port fits = λ q some has. absurd (cc)
decided (Fork p kind low high) lo hi len port fits =
    elim (cases_Bool (prefix_holds p port)) [
      | inr never ↦
          subst (Decides (kind_in (Fork p kind low high)) port) (sym (walk-ends p kind low high port None never))
          (λ q some has.
          let inside = within (Fork p kind low high) p.bits (end_of p) p.len ((omega arith, omega arith, omega arith), fits.1, fits.2) q some in
          let h = holds_is q port has in
          both_ways (prefix_holds p port) never (holds_from p port (omega (arith, inside.0, h.0)) (omega (arith, inside.1, h.1))))
      | inl given ↦ on_side (is_upper p port) refl given (decided low p.bits (middle p) (p.len + 1) port fits.1) (decided high (middle p) (end_of p) (p.len + 1) port fits.2)
    ]
  where
    half_at : (up : Bool) → is_upper p port ≡ up → prefix_holds p port ≡ true → (half_lo p up ≤ port) × (port < half_hi p up)
    half_at up e given = subst (λ u. (half_lo p u ≤ port) × (port < half_hi p u)) e (port_in_half p port given)

    on_side : (up : Bool) → is_upper p port ≡ up → prefix_holds p port ≡ true → Decides (kind_in low) port (walk low port None) → Decides (kind_in high) port (walk high port None)
        → Decides (kind_in (Fork p kind low high)) port (walk (Fork p kind low high) port None)
    on_side true e given a b =
        subst (Decides (kind_in (Fork p kind low high)) port) (sym (walk-forked p kind true high low port None given e ∙ walk-or high port (option_or kind None) ∙ ap (option_or (walk high port None)) (or_none kind)))
        (step p kind true high low port lo hi len fits given (half_at true e given) (walk high port None) b)
    on_side false e given a b =
        subst (Decides (kind_in (Fork p kind low high)) port) (sym (walk-forked p kind false low high port None given e ∙ walk-or low port (option_or kind None) ∙ ap (option_or (walk low port None)) (or_none kind)))
        (step p kind false low high port lo hi len fits given (half_at false e given) (walk low port None) a)
