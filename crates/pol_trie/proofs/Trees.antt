-- Trees of port prefixes.
use Rattle.std.proofs.Common.{◌≡◌, ℕ, ◌+◌, ◌<◌, ◌≤◌, Bool, true, false, not, nat_lt, if◌then◌else◌, Option, Some, None, is_some, IsSome, refl, sym, ap, subst, ◌∙◌, inl, inr, ◌⊎◌, arith}
use Rattle.std.proofs.lemmas.Bool.{cases_lt, cases_Bool, both_ways, lt-ltb, le-ltb}
use Rattle.pol_ports.specs.declared.PortPrefix.{PortPrefix}
use Rattle.pol_ports.specs.PortPrefix.{end_of, same_prefix}
use Rattle.pol_ports.proofs.Same.{same_prefix-is}
use Rattle.pol_mapkey.specs.declared.Kind.{Kind}
use Rattle.pol_trie.specs.Tree.{Tree, Leaf, Fork, middle, kind_in, Inside, Fits, IsNeeded, IsTight, node_count}
use Rattle.pol_trie.proofs.Prefixes.{not_empty, middle_within, half_lo, half_hi, same_from, differs_from}

-- ---- where a prefix is sought
pick_first : {A : Type 0} (a b : Bool) (x y z : A) → a ≡ true → (if a then x else (if b then y else z)) ≡ x
pick_first true b x y z e = refl
pick_first false b x y z e = cc

pick_second : {A : Type 0} (a b : Bool) (x y z : A) → a ≡ false → b ≡ true → (if a then x else (if b then y else z)) ≡ y
pick_second true b x y z e f = cc
pick_second false true x y z e f = refl
pick_second false false x y z e f = cc

pick_third : {A : Type 0} (a b : Bool) (x y z : A) → a ≡ false → b ≡ false → (if a then x else (if b then y else z)) ≡ z
pick_third true b x y z e f = cc
pick_third false true x y z e f = cc
pick_third false false x y z e f = refl

pub kind_in-here : (p : PortPrefix) (kind : Option Kind) (low high : Tree) (q : PortPrefix) → p ≡ q → kind_in (Fork p kind low high) q ≡ kind
kind_in-here p kind low high q e =
    pick_first {A = Option Kind} (same_prefix p q) (nat_lt q.bits (middle p)) kind (kind_in low q) (kind_in high q) (same_from p q e)

pub kind_in-low : (p : PortPrefix) (kind : Option Kind) (low high : Tree) (q : PortPrefix) → (p ≡ q → ⊥) → q.bits < middle p → kind_in (Fork p kind low high) q ≡ kind_in low q
kind_in-low p kind low high q never l =
    pick_second {A = Option Kind} (same_prefix p q) (nat_lt q.bits (middle p)) kind (kind_in low q) (kind_in high q) (differs_from p q never) (lt-ltb q.bits (middle p) l)

pub kind_in-high : (p : PortPrefix) (kind : Option Kind) (low high : Tree) (q : PortPrefix) → (p ≡ q → ⊥) → middle p ≤ q.bits → kind_in (Fork p kind low high) q ≡ kind_in high q
kind_in-high p kind low high q never g =
    pick_third {A = Option Kind} (same_prefix p q) (nat_lt q.bits (middle p)) kind (kind_in low q) (kind_in high q) (differs_from p q never) (le-ltb q.bits (middle p) g)

-- a prefix is the tree's first, or is sought on one side
pub data Place (p q : PortPrefix) : Type 0 where
  here : p ≡ q → Place p q
  lower : (p ≡ q → ⊥) → q.bits < middle p → Place p q
  upper : (p ≡ q → ⊥) → middle p ≤ q.bits → Place p q

pub place : (p q : PortPrefix) → Place p q
place p q =
    elim (cases_Bool (same_prefix p q)) [
      | inl t ↦ here (same_prefix-is p q t)
      | inr f ↦
          let never : p ≡ q → ⊥ = λ e. both_ways (same_prefix p q) f (same_from p q e) in
          elim (cases_lt q.bits (middle p)) [ inl l ↦ lower never l | inr g ↦ upper never g ]
    ]

-- ---- what a tree in order has
is_none : (o : Option Kind) → (IsSome o → ⊥) → o ≡ None
is_none None never = refl
is_none (Some kind) never = absurd (never refl)

-- each prefix with a kind lies where the tree does
pub within : (t : Tree) (lo hi len : ℕ) → Fits t lo hi len → (q : PortPrefix) → IsSome (kind_in t q) → Inside q lo hi len
within Leaf lo hi len fits q some = absurd (cc)
within (Fork p kind low high) lo hi len fits q some =
    let m = middle_within p in
    let i = fits.0 in
    elim (place p q) [
      | here e ↦ (let P : PortPrefix → Type 0 = λ x. Inside x lo hi len in subst P e i)
      | lower never l ↦
          let j = within low p.bits (middle p) (p.len + 1) fits.1 q (sym (ap is_some (kind_in-low p kind low high q never l)) ∙ some) in
          (omega (arith, i.0, j.0), omega (arith, i.1, j.1, m.1), omega (arith, i.2, j.2))
      | upper never g ↦
          let j = within high (middle p) (end_of p) (p.len + 1) fits.2 q (sym (ap is_some (kind_in-high p kind low high q never g)) ∙ some) in
          (omega (arith, i.0, j.0, m.0), omega (arith, i.1, j.1), omega (arith, i.2, j.2))
    ]

-- and any other has none
pub outside : (t : Tree) (lo hi len : ℕ) → Fits t lo hi len → (q : PortPrefix) → (Inside q lo hi len → ⊥) → kind_in t q ≡ None
outside t lo hi len fits q never = is_none (kind_in t q) (λ some. never (within t lo hi len fits q some))

-- a tree lies also in a wider place
pub Fits-widen : (t : Tree) (lo hi len lo' hi' len' : ℕ) → Fits t lo hi len → lo' ≤ lo → hi ≤ hi' → len' ≤ len → Fits t lo' hi' len'
Fits-widen Leaf lo hi len lo' hi' len' fits a b c = tt
Fits-widen (Fork p kind low high) lo hi len lo' hi' len' fits a b c =
    let i = fits.0 in
    ((omega (arith, i.0), omega (arith, i.1), omega (arith, i.2)), fits.1, fits.2)

-- ---- a fork, seen from one of its sides
abbrev pub forked : PortPrefix → Option Kind → Bool → Tree → Tree → Tree
forked p kind true below other = Fork p kind other below
forked p kind false below other = Fork p kind below other

abbrev pub first_some : Option Kind → Option Kind → Option Kind
first_some None o = o
first_some (Some kind) o = Some kind

first_some-none : (o : Option Kind) → first_some o None ≡ o
first_some-none None = refl
first_some-none (Some kind) = refl

pub Fits-forked : (p : PortPrefix) (kind : Option Kind) (high : Bool) (below other : Tree) (lo hi len : ℕ) → Inside p lo hi len
    → Fits below (half_lo p high) (half_hi p high) (p.len + 1) → Fits other (half_lo p (not high)) (half_hi p (not high)) (p.len + 1)
    → Fits (forked p kind high below other) lo hi len
Fits-forked p kind true below other lo hi len i a b = (i, b, a)
Fits-forked p kind false below other lo hi len i a b = (i, a, b)

pub forked-Fits : (p : PortPrefix) (kind : Option Kind) (high : Bool) (below other : Tree) (lo hi len : ℕ) → Fits (forked p kind high below other) lo hi len
    → Inside p lo hi len × Fits below (half_lo p high) (half_hi p high) (p.len + 1) × Fits other (half_lo p (not high)) (half_hi p (not high)) (p.len + 1)
forked-Fits p kind true below other lo hi len fits = (fits.0, fits.2, fits.1)
forked-Fits p kind false below other lo hi len fits = fits

pub IsTight-forked : (p : PortPrefix) (kind : Option Kind) (high : Bool) (below other : Tree) → IsNeeded kind below other → IsTight below → IsTight other
    → IsTight (forked p kind high below other)
IsTight-forked p None true below other n a b = ((n.1, n.0), b, a)
IsTight-forked p (Some kind) true below other n a b = (tt, b, a)
IsTight-forked p None false below other n a b = (n, a, b)
IsTight-forked p (Some kind) false below other n a b = (tt, a, b)

pub forked-IsTight : (p : PortPrefix) (kind : Option Kind) (high : Bool) (below other : Tree) → IsTight (forked p kind high below other)
    → IsNeeded kind below other × IsTight below × IsTight other
forked-IsTight p None true below other t = ((t.0.1, t.0.0), t.2, t.1)
forked-IsTight p (Some kind) true below other t = (tt, t.2, t.1)
forked-IsTight p None false below other t = t
forked-IsTight p (Some kind) false below other t = (tt, t.1, t.2)

pub node_count-forked : (p : PortPrefix) (kind : Option Kind) (high : Bool) (below other : Tree) → node_count (forked p kind high below other) ≡ 1 + node_count below + node_count other
node_count-forked p kind true below other = omega arith
node_count-forked p kind false below other = refl

-- a fork has its prefix's kind, and that of each other where one of its sides has it
pub kind_in-forked : (p : PortPrefix) (kind : Option Kind) (high : Bool) (below other : Tree)
    → Fits below (half_lo p high) (half_hi p high) (p.len + 1) → Fits other (half_lo p (not high)) (half_hi p (not high)) (p.len + 1)
    → (q : PortPrefix) → kind_in (forked p kind high below other) q ≡ (if same_prefix p q then kind else first_some (kind_in below q) (kind_in other q))
kind_in-forked p kind high below other a b q = go (place p q)
  where
    first : (x y : Option Kind) (s : Bool) → s ≡ true → x ≡ (if s then x else y)
    first x y true e = refl
    first x y false e = cc

    second : (x y : Option Kind) (s : Bool) → s ≡ false → y ≡ (if s then x else y)
    second x y true e = cc
    second x y false e = refl

    low_is : (low high : Tree) → Fits high (middle p) (end_of p) (p.len + 1) → q.bits < middle p → kind_in high q ≡ None
    low_is low high fits l = outside high (middle p) (end_of p) (p.len + 1) fits q (λ i. omega (arith, i.0))

    high_is : (low high : Tree) → Fits low p.bits (middle p) (p.len + 1) → middle p ≤ q.bits → kind_in low q ≡ None
    high_is low high fits g = outside low p.bits (middle p) (p.len + 1) fits q (λ i. let some = not_empty q in omega (arith, i.1))

    sides : (high : Bool) (below other : Tree) → Fits below (half_lo p high) (half_hi p high) (p.len + 1) → Fits other (half_lo p (not high)) (half_hi p (not high)) (p.len + 1)
        → Place p q → kind_in (forked p kind high below other) q ≡ (if same_prefix p q then kind else first_some (kind_in below q) (kind_in other q))
    sides true below other a b (here e) = kind_in-here p kind other below q e ∙ first _ _ (same_prefix p q) (same_from p q e)
    sides false below other a b (here e) = kind_in-here p kind below other q e ∙ first _ _ (same_prefix p q) (same_from p q e)
    sides true below other a b (lower never l) =
        kind_in-low p kind other below q never l ∙ ap (λ x. first_some x (kind_in other q)) (sym (low_is other below a l)) ∙ second _ _ (same_prefix p q) (differs_from p q never)
    sides false below other a b (lower never l) =
        kind_in-low p kind below other q never l ∙ sym (first_some-none (kind_in below q)) ∙ ap (first_some (kind_in below q)) (sym (low_is below other b l)) ∙ second _ _ (same_prefix p q) (differs_from p q never)
    sides true below other a b (upper never g) =
        kind_in-high p kind other below q never g ∙ sym (first_some-none (kind_in below q)) ∙ ap (first_some (kind_in below q)) (sym (high_is other below b g)) ∙ second _ _ (same_prefix p q) (differs_from p q never)
    sides false below other a b (upper never g) =
        kind_in-high p kind below other q never g ∙ ap (λ x. first_some x (kind_in other q)) (sym (high_is below other a g)) ∙ second _ _ (same_prefix p q) (differs_from p q never)

    go : Place p q → kind_in (forked p kind high below other) q ≡ (if same_prefix p q then kind else first_some (kind_in below q) (kind_in other q))
    go = sides high below other a b

-- ---- one prefix with another kind
-- beside `below` with the kinds changed so
pub changed_below : (p port : PortPrefix) (kind value : Option Kind) (high : Bool) (below new other : Tree)
    → Fits below (half_lo p high) (half_hi p high) (p.len + 1) → Fits new (half_lo p high) (half_hi p high) (p.len + 1)
    → Fits other (half_lo p (not high)) (half_hi p (not high)) (p.len + 1)
    → (p ≡ port → ⊥) → kind_in other port ≡ None
    → (q : PortPrefix) → kind_in new q ≡ (if same_prefix port q then value else kind_in below q)
    → kind_in (forked p kind high new other) q ≡ (if same_prefix port q then value else kind_in (forked p kind high below other) q)
changed_below p port kind value high below new other a a' b never none q is =
    kind_in-forked p kind high new other a' b q
    ∙ ap (λ x. if same_prefix p q then kind else first_some x (kind_in other q)) is
    ∙ go (cases_Bool (same_prefix p q)) (cases_Bool (same_prefix port q))
    ∙ ap (λ x. if same_prefix port q then value else x) (sym (kind_in-forked p kind high below other a b q))
  where
    choose : (s t : Bool) (k v x o : Option Kind) → (s ≡ true → t ≡ false) → (t ≡ true → o ≡ None)
        → (if s then k else first_some (if t then v else x) o) ≡ (if t then v else (if s then k else first_some x o))
    choose true true k v x o h g = absurd (both_ways true (h refl) refl)
    choose true false k v x o h g = refl
    choose false true k v x o h g = ap (first_some v) (g refl) ∙ first_some-none v
    choose false false k v x o h g = refl

    at_port : same_prefix port q ≡ true → kind_in other q ≡ None
    at_port t = ap (kind_in other) (sym (same_prefix-is port q t)) ∙ none

    not_port : same_prefix p q ≡ true → same_prefix port q ≡ false
    not_port t = differs_from port q (λ e. never (same_prefix-is p q t ∙ sym e))

    go : (same_prefix p q ≡ true) ⊎ (same_prefix p q ≡ false) → (same_prefix port q ≡ true) ⊎ (same_prefix port q ≡ false)
        → (if same_prefix p q then kind else first_some (if same_prefix port q then value else kind_in below q) (kind_in other q))
        ≡ (if same_prefix port q then value else (if same_prefix p q then kind else first_some (kind_in below q) (kind_in other q)))
    go _ _ = choose (same_prefix p q) (same_prefix port q) kind value (kind_in below q) (kind_in other q) not_port at_port

-- the first prefix with another kind
pub changed_here : (p port : PortPrefix) (kind value : Option Kind) (low high : Tree) → p ≡ port
    → (q : PortPrefix) → kind_in (Fork p value low high) q ≡ (if same_prefix port q then value else kind_in (Fork p kind low high) q)
changed_here p port kind value low high e q =
    choose (same_prefix p q) (same_prefix port q) (nat_lt q.bits (middle p)) kind value (kind_in low q) (kind_in high q) (ap (λ x. same_prefix x q) e)
  where
    choose : (s t l : Bool) (k v x y : Option Kind) → s ≡ t → (if s then v else (if l then x else y)) ≡ (if t then v else (if s then k else (if l then x else y)))
    choose true true l k v x y e = refl
    choose false false l k v x y e = refl
    choose true false l k v x y e = cc
    choose false true l k v x y e = cc

-- a prefix over the tree
pub put_over : (port : PortPrefix) (kind : Kind) (high : Bool) (t : Tree) → Fits t (half_lo port high) (half_hi port high) (port.len + 1)
    → (q : PortPrefix) → kind_in (forked port (Some kind) high t Leaf) q ≡ (if same_prefix port q then Some kind else kind_in t q)
put_over port kind high t fits q =
    kind_in-forked port (Some kind) high t Leaf fits (leaf high) q
    ∙ ap (λ x. if same_prefix port q then Some kind else x) (first_some-none (kind_in t q))
  where
    leaf : (high : Bool) → Fits Leaf (half_lo port (not high)) (half_hi port (not high)) (port.len + 1)
    leaf high = tt

-- a prefix beside the tree, below a fork of both
pub put_beside : (f port : PortPrefix) (kind : Kind) (high : Bool) (t : Tree)
    → Fits t (half_lo f high) (half_hi f high) (f.len + 1) → Inside port (half_lo f (not high)) (half_hi f (not high)) (f.len + 1)
    → kind_in t port ≡ None
    → (q : PortPrefix) → kind_in (forked f None high t (Fork port (Some kind) Leaf Leaf)) q ≡ (if same_prefix port q then Some kind else kind_in t q)
put_beside f port kind high t fits inside none q =
    kind_in-forked f None high t (Fork port (Some kind) Leaf Leaf) fits (inside, tt, tt) q
    ∙ choose (same_prefix f q) (same_prefix port q) (nat_lt q.bits (middle port)) (kind_in t q) at_fork at_port
  where
    choose : (s u l : Bool) (x : Option Kind) → (s ≡ true → (u ≡ false) × (x ≡ None)) → (u ≡ true → x ≡ None)
        → (if s then None else first_some x (if u then Some kind else (if l then None else None))) ≡ (if u then Some kind else x)
    choose true true l x h g = (let e = (h refl).0 in cc)
    choose true false l x h g = sym (h refl).1
    choose false true l x h g = ap (λ y. first_some y (Some kind)) (g refl)
    choose false false true x h g = first_some-none x
    choose false false false x h g = first_some-none x

    at_port : same_prefix port q ≡ true → kind_in t q ≡ None
    at_port e = ap (kind_in t) (sym (same_prefix-is port q e)) ∙ none

    at_fork : same_prefix f q ≡ true → (same_prefix port q ≡ false) × (kind_in t q ≡ None)
    at_fork e =
        let same = same_prefix-is f q e in
        let lens = ap (λ (x : PortPrefix). x.len) same in (
          differs_from port q (λ other. let lens' = ap (λ (x : PortPrefix). x.len) other in omega (arith, inside.2)),
          outside t (half_lo f high) (half_hi f high) (f.len + 1) fits q (λ i. omega (arith, i.2)),
        )

-- a fork without a kind that has nothing on the other side
pub collapsed : (p : PortPrefix) (high : Bool) (below : Tree) → Fits below (half_lo p high) (half_hi p high) (p.len + 1)
    → (q : PortPrefix) → kind_in below q ≡ kind_in (forked p None high below Leaf) q
collapsed p high below fits q =
    sym (kind_in-forked p None high below Leaf fits (leaf high) q
    ∙ ap (λ x. if same_prefix p q then None else x) (first_some-none (kind_in below q))
    ∙ choose (same_prefix p q) (kind_in below q) (λ e.
    let lens = ap (λ (x : PortPrefix). x.len) (same_prefix-is p q e) in
    outside below (half_lo p high) (half_hi p high) (p.len + 1) fits q (λ i. omega (arith, i.2))))
  where
    leaf : (high : Bool) → Fits Leaf (half_lo p (not high)) (half_hi p (not high)) (p.len + 1)
    leaf high = tt

    choose : (s : Bool) (x : Option Kind) → (s ≡ true → x ≡ None) → (if s then None else x) ≡ x
    choose true x h = sym (h refl)
    choose false x h = refl
