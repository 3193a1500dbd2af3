-- Ranges say what is told of each port, and are a normal form.
use Rattle.std.proofs.Common.{◌≡◌, ◌≢◌, ◌↔◌, ℕ, zero, suc, ◌+◌, ◌<◌, ◌≤◌, ◌==◌, nat_le, Bool, true, false, cond, List, [], ◌∷◌, Option, None, Some, IsTrue, refl, sym, ap, subst, ◌∙◌, inl, inr, arith, eq-eqb}
use Rattle.std.specs.List.{AllByRecursion}
use Rattle.std.proofs.lemmas.Bool.{and_from, and_parts, cases_Bool, cases_lt, eqb-true, le-leb, leb-true}
use Rattle.pol_port_ranges.specs.declared.said.Range.{Range}
use Rattle.pol_port_ranges.specs.declared.said.PortSaid.{PortSaid}
use Rattle.pol_port_ranges.specs.Said.{is_told, same_said, told}
use Rattle.pol_port_ranges.specs.Ranges.{AreApart, IsBelow, all_ports, goes_on, has_port, in_front, joined, range, ranges, ranges_from, said_at}
use Rattle.pol_port_ranges.proofs.Same.{clash, same_said-is, same_said-self}
use Rattle.pol_port_ranges.proofs.Front.{StartFrom, from_more, from_none, starts}

-- ---- which ports a range has
has : (r : Range) (q : ℕ) → r.first ≤ q → q ≤ r.last → has_port r q ≡ true
has r q low high = and_from (nat_le r.first q) (nat_le q r.last) (le-leb r.first q low) (le-leb q r.last high)

has_parts : (r : Range) (q : ℕ) → has_port r q ≡ true → (r.first ≤ q) × (q ≤ r.last)
has_parts r q t = let both = and_parts (nat_le r.first q) (nat_le q r.last) t in (leb-true r.first q both.0, leb-true q r.last both.1)

has_not : (r : Range) (q : ℕ) → (r.first ≤ q → q ≤ r.last → ⊥) → has_port r q ≡ false
has_not r q none = elim (cases_Bool (has_port r q)) [ inl t ↦ absurd (let both = has_parts r q t in none both.0 both.1) | inr f ↦ f ]

said_here : (r : Range) (rs : List Range) (q : ℕ) → r.first ≤ q → q ≤ r.last → said_at (r ∷ rs) q ≡ Some r.said
said_here r rs q low high = ap (λ b. cond b (Some r.said) (said_at rs q)) (has r q low high)

said_later : (r : Range) (rs : List Range) (q : ℕ) → (r.first ≤ q → q ≤ r.last → ⊥) → said_at (r ∷ rs) q ≡ said_at rs q
said_later r rs q none = ap (λ b. cond b (Some r.said) (said_at rs q)) (has_not r q none)

-- ---- those behind a range
mapped : {P Q : Range → Type 0} (rs : List Range) → ((s : Range) → P s → Q s) → AllByRecursion P rs → AllByRecursion Q rs
mapped [] f all = tt
mapped (s ∷ ss) f all = (f s all.0, mapped ss f all.1)

start_behind : (r : Range) (rs : List Range) → AllByRecursion (IsBelow r) rs → StartFrom (r.last + 1) rs
start_behind r [] all = tt
start_behind r (s ∷ ss) all = let less = all.0.0 in omega arith

-- nothing is said below the first range
pub none_below : (rs : List Range) (port q : ℕ) → AreApart rs → StartFrom port rs → q < port → said_at rs q ≡ None
none_below [] port q apart from below = refl
none_below (r ∷ rs) port q apart from below =
    let ordered : r.first ≤ r.last = apart.0 in
    said_later r rs q (λ low _. omega arith)
    ∙ none_below rs (r.last + 1) q apart.3 (start_behind r rs apart.2) (omega arith)

-- ---- one port more in front
module _ (port : ℕ) (said : PortSaid) where
  apart_joined : (rest : List Range) → IsTrue (is_told said) → AreApart rest → StartFrom (port + 1) rest → AreApart (joined port port said rest)
  apart_joined [] t apart from = ((let e : port ≤ port = omega arith in e), t, tt, tt)
  apart_joined (r ∷ rs) t apart from = by (goes_on port said r) refl
    where
      ordered : r.first ≤ r.last
      ordered = apart.0

      by : (b : Bool) → goes_on port said r ≡ b → AreApart (cond b (range port r.last said ∷ rs) (range port port said ∷ r ∷ rs))
      by true is =
          let both = and_parts (r.first == port + 1) (same_said said r.said) is in
          let one : r.said ≡ said = sym (same_said-is said r.said both.1) in
          let P : PortSaid → Type 0 = λ u. AllByRecursion (λ s. (r.last < s.first) × (r.last + 1 ≡ s.first → u ≢ s.said)) rs in
          ((let e : port ≤ r.last = (let o = ordered in omega arith) in e), t, subst P one apart.2, apart.3)
      by false is = (
        (let e : port ≤ port = omega arith in e),
        t,
        (
          (
            (let e : port < r.first = omega arith in e),
            λ touch same. clash (goes_on port said r) (and_from (r.first == port + 1) (same_said said r.said) (eq-eqb r.first (port + 1) (sym touch)) (subst (λ u. same_said said u ≡ true) same (same_said-self said))) is,
          ),
          mapped rs (λ s below. let less = below.0 in let o = ordered in ((let e : port < s.first = omega arith in e), λ touch _. (let wrong : ⊥ = omega arith in wrong))) apart.2,
        ),
        apart,
      )

  apart_in_front : (rest : List Range) → AreApart rest → StartFrom (port + 1) rest → AreApart (in_front port port said rest)
  apart_in_front rest apart from = by (is_told said) refl
    where
      by : (b : Bool) → is_told said ≡ b → AreApart (cond b (joined port port said rest) rest)
      by true is = apart_joined rest is apart from
      by false is = apart

  -- nothing else is said of the ports behind it
  later_joined : (rest : List Range) (q : ℕ) → AreApart rest → StartFrom (port + 1) rest → port < q → said_at (joined port port said rest) q ≡ said_at rest q
  later_joined [] q apart from above = said_later (range port port said) [] q (λ _ high. omega arith)
  later_joined (r ∷ rs) q apart from above = by (goes_on port said r) refl
    where
      tests : (b : Bool) → has_port r q ≡ b → r.first ≡ port + 1 → said ≡ r.said → said_at (range port r.last said ∷ rs) q ≡ said_at (r ∷ rs) q
      tests true is at same =
          let both = has_parts r q is in
          said_here (range port r.last said) rs q (omega arith) both.1 ∙ ap Some same ∙ sym (said_here r rs q both.0 both.1)
      tests false is at same =
          let none : r.first ≤ q → q ≤ r.last → ⊥ = λ low high. clash (has_port r q) (has r q low high) is in
          said_later (range port r.last said) rs q (λ _ high. none (omega arith) high) ∙ sym (said_later r rs q none)

      by : (b : Bool) → goes_on port said r ≡ b → said_at (cond b (range port r.last said ∷ rs) (range port port said ∷ r ∷ rs)) q ≡ said_at (r ∷ rs) q
      by true is =
          let both = and_parts (r.first == port + 1) (same_said said r.said) is in
          tests (has_port r q) refl (eqb-true r.first (port + 1) both.0) (same_said-is said r.said both.1)
      by false is = said_later (range port port said) (r ∷ rs) q (λ _ high. omega arith)

  later_in_front : (rest : List Range) (q : ℕ) → AreApart rest → StartFrom (port + 1) rest → port < q → said_at (in_front port port said rest) q ≡ said_at rest q
  later_in_front rest q apart from above = by (is_told said)
    where
      by : (b : Bool) → said_at (cond b (joined port port said rest) rest) q ≡ said_at rest q
      by true = later_joined rest q apart from above
      by false = refl

  -- of the port itself what is told of it
  here_joined : (rest : List Range) → AreApart rest → StartFrom (port + 1) rest → said_at (joined port port said rest) port ≡ Some said
  here_joined [] apart from = said_here (range port port said) [] port (omega arith) (omega arith)
  here_joined (r ∷ rs) apart from = by (goes_on port said r)
    where
      by : (b : Bool) → said_at (cond b (range port r.last said ∷ rs) (range port port said ∷ r ∷ rs)) port ≡ Some said
      by true = let ordered : r.first ≤ r.last = apart.0 in said_here (range port r.last said) rs port (omega arith) (omega arith)
      by false = said_here (range port port said) (r ∷ rs) port (omega arith) (omega arith)

  here_in_front : (rest : List Range) → AreApart rest → StartFrom (port + 1) rest → said_at (in_front port port said rest) port ≡ told said
  here_in_front rest apart from = by (is_told said)
    where
      by : (b : Bool) → said_at (cond b (joined port port said rest) rest) port ≡ cond b (Some said) None
      by true = here_joined rest apart from
      by false = none_below rest (port + 1) port apart from (omega arith)

-- ---- the ranges of a function
module _ (f : ℕ → PortSaid) where
  pub apart : (count port : ℕ) → AreApart (ranges_from count port f)
  apart zero port = rw (from_none f port) tt
  apart (suc count) port = rw (from_more f count port) (apart_in_front port (f port) (ranges_from count (port + 1) f) (apart count (port + 1)) (starts f count (port + 1)))

  pub tells : (count port q : ℕ) → port ≤ q → q < port + count → said_at (ranges_from count port f) q ≡ told (f q)
  tells zero port q low high = absurd (omega arith)
  tells (suc count) port q low high =
      ap (λ rs. said_at rs q) (from_more f count port)
      ∙ elim (cases_lt port q) [
        | inl above ↦ later_in_front port (f port) (ranges_from count (port + 1) f) q (apart count (port + 1)) (starts f count (port + 1)) above ∙ tells count (port + 1) q (omega arith) (omega arith)
        | inr below ↦ (let e : q ≡ port = omega arith in
            ap (said_at (in_front port port (f port) (ranges_from count (port + 1) f))) e
            ∙ here_in_front port (f port) (ranges_from count (port + 1) f) (apart count (port + 1)) (starts f count (port + 1))
            ∙ ap (λ p. told (f p)) (sym e))
      ]

  pub tells_none : (count port q : ℕ) → port + count ≤ q → said_at (ranges_from count port f) q ≡ None
  tells_none zero port q high = ap (λ rs. said_at rs q) (from_none f port)
  tells_none (suc count) port q high =
      ap (λ rs. said_at rs q) (from_more f count port)
      ∙ later_in_front port (f port) (ranges_from count (port + 1) f) q (apart count (port + 1)) (starts f count (port + 1)) (omega arith)
      ∙ tells_none count (port + 1) q (omega arith)

-- ---- a normal form
no_some : {A : Type 0} (v : A) (o : Option A) → o ≡ Some v → o ≡ None → ⊥
no_some v o some none = let wrong : Some v ≡ None = sym some ∙ none in cc

some_is : {A : Type 0} (v w : A) → Some v ≡ Some w → v ≡ w
some_is v w e = cc

-- of the port behind a range the same isn't said
other_behind : (r : Range) (rs : List Range) → AllByRecursion (IsBelow r) rs → AreApart rs → said_at rs (r.last + 1) ≡ Some r.said → ⊥
other_behind r [] below apart is = no_some r.said None is refl
other_behind r (t ∷ ts) below apart is =
    let less : r.last < t.first = below.0.0 in
    let ordered : t.first ≤ t.last = apart.0 in
    elim (cases_lt (r.last + 1) t.first) [
      | inl far ↦ no_some r.said (said_at (t ∷ ts) (r.last + 1)) is (none_below (t ∷ ts) t.first (r.last + 1) apart (let e : t.first ≤ t.first = omega arith in e) far)
      | inr near ↦ (let touch : r.last + 1 ≡ t.first = omega arith in
          below.0.1 touch (some_is r.said t.said (sym is ∙ said_here t ts (r.last + 1) (omega arith) (omega arith))))
    ]

module _ (r : Range) (rs : List Range) (s : Range) (ss : List Range) (one : AreApart (r ∷ rs)) (two : AreApart (s ∷ ss)) (same : (q : ℕ) → said_at (r ∷ rs) q ≡ said_at (s ∷ ss) q) where
  first_within : r.first < s.first → ⊥
  first_within less =
      no_some r.said (said_at (r ∷ rs) r.first) (said_here r rs r.first (omega arith) one.0)
      (same r.first ∙ none_below (s ∷ ss) s.first r.first two (let e : s.first ≤ s.first = omega arith in e) less)

  last_within : r.first ≡ s.first → r.said ≡ s.said → r.last < s.last → ⊥
  last_within at said less =
      let ordered : r.first ≤ r.last = one.0 in
      other_behind r rs one.2 one.3
      (sym (said_later r rs (r.last + 1) (λ _ high. omega arith)) ∙ same (r.last + 1) ∙ said_here s ss (r.last + 1) (omega arith) (omega arith) ∙ ap Some (sym said))

pub normal : (xs ys : List Range) → AreApart xs → AreApart ys → ((q : ℕ) → said_at xs q ≡ said_at ys q) → xs ≡ ys
normal [] [] one two same = refl
normal [] (s ∷ ss) one two same = absurd (no_some s.said (said_at (s ∷ ss) s.first) (said_here s ss s.first (omega arith) two.0) (sym (same s.first)))
normal (r ∷ rs) [] one two same = absurd (no_some r.said (said_at (r ∷ rs) r.first) (said_here r rs r.first (omega arith) one.0) (same r.first))
normal (r ∷ rs) (s ∷ ss) one two same =
    let back : (q : ℕ) → said_at (s ∷ ss) q ≡ said_at (r ∷ rs) q = λ q. sym (same q) in
    let first : r.first ≡ s.first = equal r.first s.first (first_within r rs s ss one two same) (first_within s ss r rs two one back) in
    let said : r.said ≡ s.said = some_is r.said s.said (
    sym (said_here r rs r.first (omega arith) one.0) ∙ same r.first ∙ said_here s ss r.first (omega arith) (let o : s.first ≤ s.last = two.0 in omega arith)) in
    let last : r.last ≡ s.last = equal r.last s.last (last_within r rs s ss one two same first said) (last_within s ss r rs two one back (sym first) (sym said)) in
    let rest : rs ≡ ss = normal rs ss one.3 two.3 (λ q. behind first last q) in
    λ i. record { first = first i; last = last i; said = said i } ∷ rest i
  where
    equal : (a b : ℕ) → (a < b → ⊥) → (b < a → ⊥) → a ≡ b
    equal a b up down = elim (cases_lt a b) [ inl less ↦ absurd (up less) | inr le ↦ elim (cases_lt b a) [ inl less ↦ absurd (down less) | inr ge ↦ omega arith ] ]

    behind : r.first ≡ s.first → r.last ≡ s.last → (q : ℕ) → said_at rs q ≡ said_at ss q
    behind first last q = elim (cases_lt r.last q) [
      | inl above ↦ sym (said_later r rs q (λ _ high. omega arith)) ∙ same q ∙ said_later s ss q (λ _ high. omega arith)
      | inr within ↦ none_below rs (r.last + 1) q one.3 (start_behind r rs one.2) (omega arith) ∙ sym (none_below ss (s.last + 1) q two.3 (start_behind s ss two.2) (omega arith))
    ]

-- ---- all ports
pub each_port : (f : ℕ → PortSaid) (q : ℕ) → q < all_ports → said_at (ranges f) q ≡ told (f q)
each_port f q below = tells f all_ports 0 q (omega arith) (omega arith)

pub no_other : (f : ℕ → PortSaid) (q : ℕ) → (q < all_ports → ⊥) → said_at (ranges f) q ≡ None
no_other f q out = tells_none f all_ports 0 q (elim (cases_lt q all_ports) [ inl below ↦ absurd (out below) | inr above ↦ omega arith ])

pub of_ports : (f g : ℕ → PortSaid) → (ranges f ≡ ranges g) ↔ ((port : ℕ) → port < all_ports → told (f port) ≡ told (g port))
of_ports f g = (
  λ same port below. sym (each_port f port below) ∙ ap (λ rs. said_at rs port) same ∙ each_port g port below,
  λ same. normal (ranges f) (ranges g) (apart f all_ports 0) (apart g all_ports 0) (λ q. elim (cases_lt q all_ports) [
    | inl below ↦ each_port f q below ∙ same q below ∙ sym (each_port g q below)
    | inr above ↦ no_other f q (λ below. omega arith) ∙ sym (no_other g q (λ below. omega arith))
  ]),
)
